-- Answers to the goals of `file_bills::ReadFile::bill_entry`: the columns give the entry of the line's TH or OC.
-- Assumes nothing.
use Rattle.std.proofs.Common.{arith}
use Rattle.std.proofs.lemmas.Grind.{common_steps}
use Rattle.file_bills.proofs.Lines.{bill_entry}
use Rattle.file_bills.proofs.ReadFile.bill_entry.Goals as goal

pub returns-then-is_cancel-2 : goal.returns-then-is_cancel-2
returns-then-is_cancel-2 c = rw (← bill_entry _ _ _ _ c.requires.sender_value.0 c.requires.sender_value.1 c.requires.bill.1) (grind (arith, common_steps))

pub returns-else-is_cancel-2 : goal.returns-else-is_cancel-2
returns-else-is_cancel-2 c = rw (← bill_entry _ _ _ _ c.requires.sender_value.0 c.requires.sender_value.1 c.requires.bill.1) (grind (arith, common_steps))
