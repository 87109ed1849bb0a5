-- `ledger_tests::name_cancels` meets its contract. The loop's invariant: the cancels passed name the places noted, and the entries there are marked.
-- Assumes nothing.
use Rattle.file_bills.specs.InsideBills.{file_in}
use Rattle.ledger_tests.proofs.Naming.{Naming}
use Rattle.ledger_tests.proofs.name_cancels.Given as goal

abbrev pub invariant-loop-k : goal.invariant-loop-k
invariant-loop-k l = Naming l.chains.entries.now (file_in l.file).bills l.k l.marks l.named
