-- `file_bills::read_bills` meets its contract. The loop's invariant: the TH and OC of the lines passed are read.
-- Assumes nothing.
use Rattle.records.specs.Text.{lines_of}
use Rattle.file_bills.specs.InsideReading.{Reading}
use Rattle.file_bills.proofs.read_bills.Given as goal

abbrev pub invariant-loop-i : goal.invariant-loop-i
invariant-loop-i l = Reading (lines_of l.file.bytes.now) l.i l.m l.bills
