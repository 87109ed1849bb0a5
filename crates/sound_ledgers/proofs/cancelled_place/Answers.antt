-- `sound_ledgers::cancelled_place` meets its contract: where it answers a place, the tests on the way are what `Cancels` says; where it doesn't, one of them says that there is none.
-- Assumes nothing.
use Rattle.std.proofs.Common.{sym, arith}
use Rattle.soundness.specs.Sound.{is_named, opposite}
use Rattle.sound_ledgers.proofs.Pairing.{cancels, cancels_named, cancels_opposite, none_earlier, none_cancelled}
use Rattle.sound_ledgers.proofs.cancelled_place.Goals as goal

pub returns-in_err-j : goal.returns-in_err-j
returns-in_err-j c =
    rw c.from_residual.ensures
    (none_earlier c.args.entries.now c.args.keys.now.values.now c.requires.keyed c.args.i c.requires.cancel.0 c.key-named.ensures (sym c.in_err-j.ensures) (omega (arith, c.requires.keyed.one_each, c.requires.cancel.0)))

pub returns-then-i-j : goal.returns-then-i-j
returns-then-i-j c = none_earlier c.args.entries.now c.args.keys.now.values.now c.requires.keyed c.args.i c.requires.cancel.0 c.key-named.ensures c.in_ok-j.ensures.1 c.if-i-j.true

pub returns-then-not-is_named : goal.returns-then-not-is_named
returns-then-not-is_named c =
    none_cancelled c.args.entries.now c.args.keys.now.values.now c.requires.keyed c.args.i c.requires.cancel.0 c.key-named.ensures c.in_ok-j.ensures.1 is_named
    (cancels_named c.args.entries.now c.args.i) (sym c.if-not-is_named.ensures)

pub returns-then-not-is_opposite : goal.returns-then-not-is_opposite
returns-then-not-is_opposite c =
    none_cancelled c.args.entries.now c.args.keys.now.values.now c.requires.keyed c.args.i c.requires.cancel.0 c.key-named.ensures c.in_ok-j.ensures.1 opposite
    (cancels_opposite c.args.entries.now c.args.i) (sym c.if-not-is_opposite.ensures)

pub returns : goal.returns
returns c =
    cancels c.args.entries.now c.args.i c.in_ok-j.j c.if-i-j.false c.requires.cancel.1
    (sym c.if-not-is_named.ensures) (sym c.if-not-is_opposite.ensures)
