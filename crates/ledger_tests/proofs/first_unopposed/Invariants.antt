-- `ledger_tests::first_unopposed` meets its contract. The loop's invariant: no record passed fails.
-- Assumes nothing.
use Rattle.file_bills.specs.InsideBills.{file_in}
use Rattle.ledger_tests.proofs.Opposed.{unopposed_in}
use Rattle.ledger_tests.proofs.Resumed.{Resumed}
use Rattle.ledger_tests.proofs.first_unopposed.Given as goal

abbrev pub invariant-loop-k : goal.invariant-loop-k
invariant-loop-k l = Resumed unopposed_in l.entries (file_in l.file).bills l.k
