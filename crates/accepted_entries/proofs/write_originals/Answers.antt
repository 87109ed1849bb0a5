-- Answers to the goals of `accepted_entries::write_originals`: a bill's entry says whether it is an original, and each turn writes one bill more.
-- Assumes nothing.
use Prim.Native.Nat.{◌<◌}
use native.Mathlib.Omega.{arith}
use lib.Dec.{eqb}
use lib.ListN.{length, take}
use Rattle.file_bills.specs.InsideBills.{file_in, is_cancel, source_at}
use Rattle.accepted_entries.specs.InsideAccepted.{state_after}
use Rattle.accepted_entries.proofs.Originals.{originating_held, originating_step}
use Rattle.accepted_entries.proofs.Runs.{held_bound}
use Rattle.accepted_entries.proofs.write_originals.Goals as goal

pub loop-bill-preserved : goal.loop-bill-preserved
loop-bill-preserved c =
    let bills = (file_in c.args.file.now).bills in
    let k = c.loop-bill.bill-index in
    let e = (source_at c.args.bills.now k).entry in
    let h : k < length bills = omega (arith, c.requires.by_site.1.count) in
    let wrote = c.write_original-written.ensures in
    record {
      counted = held_bound _ _ _ _ (is_cancel e) (eqb (state_after (take c.loop-bill.written.used c.loop-bill.run) e) 2) c.loop-bill.invariant.counted wrote.used_value wrote.held_value;
      by_site = wrote.by_site_2;
      originating = originating_step bills c.args.at _ _ k c.loop-bill.written.used c.loop-bill.written.held c.loop-bill.invariant.originating h e (c.requires.by_site.1.each k h) c.requires.room_for.1 _ _ _
          wrote.places_after wrote.used_value wrote.held_value;
    }

pub returns-clause-held_value : goal.returns-clause-held_value
returns-clause-held_value c =
    let bills = (file_in c.args.file.now).bills in
    originating_held bills c.args.at _ _ c.loop-bill.bill-index c.loop-bill.written.used c.loop-bill.written.held c.loop-bill.invariant.originating (omega (arith, c.requires.by_site.1.count))
    (omega (arith, c.requires.room_for.1))
