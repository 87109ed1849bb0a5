-- `accepted_entries::write_cancels` meets its contract. The loop's invariant: the cancels among the bills that are passed are written, and what they name is cancelled.
-- Assumes nothing.
use Rattle.file_bills.specs.InsideBills.{file_in}
use Rattle.accepted_entries.proofs.Cancels.{Cancelling}
use Rattle.accepted_entries.proofs.write_cancels.Given as goal

abbrev pub invariant-loop-k : goal.invariant-loop-k
invariant-loop-k l = Cancelling (file_in l.file).bills l.used l.initial.run l.run l.k l.at
