-- `sound_ledgers::is_sound` meets its contract: sizes that do not fit decide the answer, and else the entries in use.
-- Assumes nothing.
use Rattle.std.proofs.Common.{sym, length, arith}
use lib.Seq.{length-take-le}
use Rattle.soundness.proofs.Sizes.{sizes_mean, sizes_amiss}
use Rattle.sound_ledgers.proofs.Laws.{answer_is}
use Rattle.sound_ledgers.proofs.is_sound.Goals as goal

pub returns-then-not-sizes_fit : goal.returns-then-not-sizes_fit
returns-then-not-sizes_fit c = sym (sizes_amiss c.args.run.now c.args.used (sym c.if-not-sizes_fit.ensures))

pub slice_bounds-entries-end : goal.slice_bounds-entries-end
slice_bounds-entries-end c =
    sym (length-take-le c.args.used c.args.run.now ((sizes_mean (length c.args.run.now) c.args.used).0 (sym c.if-not-sizes_fit.ensures)).1)

pub returns-then-used-le1024 : goal.returns-then-used-le1024
returns-then-used-le1024 c =
    answer_is c.args.run.now c.args.used (sym c.if-not-sizes_fit.ensures) c.is_sound_with.result c.is_sound_with.ensures.sound c.is_sound_with.ensures.unsound

pub returns-then-used-le4096 : goal.returns-then-used-le4096
returns-then-used-le4096 c =
    answer_is c.args.run.now c.args.used (sym c.if-not-sizes_fit.ensures) c.is_sound_with-then-used-le4096.result
    c.is_sound_with-then-used-le4096.ensures.sound c.is_sound_with-then-used-le4096.ensures.unsound

pub is_sound_with-requires-2-clause-few : goal.is_sound_with-requires-2-clause-few
is_sound_with-requires-2-clause-few c =
    let sizes = (sizes_mean (length c.args.run.now) c.args.used).0 (sym c.if-not-sizes_fit.ensures) in
    (omega (arith, length-take-le c.args.used c.args.run.now sizes.1, sizes), omega arith)

pub returns : goal.returns
returns c =
    answer_is c.args.run.now c.args.used (sym c.if-not-sizes_fit.ensures) c.is_sound_with-2.result c.is_sound_with-2.ensures.sound c.is_sound_with-2.ensures.unsound
