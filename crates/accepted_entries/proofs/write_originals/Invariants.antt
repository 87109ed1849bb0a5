-- `accepted_entries::write_originals` meets its contract. The loop's invariant: the originals among the bills that are passed are written, and are in the chains.
-- Assumes nothing.
use Prim.Native.Nat.{◌≤◌}
use lib.ListN.{take}
use Rattle.used_entries.specs.InsideSited.{BySite}
use Rattle.file_bills.specs.InsideBills.{file_in}
use Rattle.accepted_entries.proofs.Originals.{Originating}
use Rattle.accepted_entries.proofs.write_originals.Given as goal

abbrev pub invariant-loop-bill : goal.invariant-loop-bill
invariant-loop-bill l =
    record {
      counted : l.written.held ≤ l.written.used;
      by_site : BySite (take l.written.used l.run) l.heads l.links;
      originating : Originating (file_in l.file).bills l.at l.initial.run l.run l.bill-index l.written.used l.written.held;
    }
