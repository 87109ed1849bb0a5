-- Answers to the goals of `accepted_entries::write_cancels`: a bill's entry says whether it is a cancel, and each turn writes one bill more.
-- Assumes nothing.
use mathlib.Core.Path.{sym, ◌∙◌}
use Prim.Native.Nat.{◌<◌}
use native.Mathlib.Omega.{arith}
use lib.ListN.{length}
use lib.Seq.{length-take-le}
use Rattle.booking.specs.Acceptable.{bill_at}
use Rattle.file_bills.specs.InsideBills.{file_in}
use Rattle.file_bills.proofs.Sources.{source_cancel}
use Rattle.accepted_entries.proofs.Cancels.{room_left, cancelling_step}
use Rattle.accepted_entries.proofs.write_cancels.Goals as goal

pub write_cancel-at-requires : goal.write_cancel-at-requires
write_cancel-at-requires c y =
    let bills = (file_in c.args.file.now).bills in
    let h : c.loop-k.k < length bills = omega (arith, c.requires.source.0.count) in
    let q = sym (source_cancel (bill_at bills c.loop-k.k) _ (c.requires.source.0.each c.loop-k.k h)) ∙ y in (
      omega (arith, c.requires.source.1.within c.loop-k.k h q, length-take-le c.args.used c.args.run.now (omega arith)),
      omega (arith, room_left bills c.args.used _ _ c.loop-k.k c.loop-k.at c.loop-k.invariant h q, c.requires.source.0.count),
    )

pub loop-k-preserved : goal.loop-k-preserved
loop-k-preserved c =
    let bills = (file_in c.args.file.now).bills in
    let h : c.loop-k.k < length bills = omega (arith, c.requires.source.0.count) in
    cancelling_step bills c.args.used _ _ c.loop-k.k c.loop-k.at c.loop-k.invariant h _ (c.requires.source.0.each c.loop-k.k h) c.args.named.now c.requires.source.1
    (omega (arith, c.requires.source.0.count)) _ _ c.write_cancel-at.ensures.places_after c.write_cancel-at.ensures.value
