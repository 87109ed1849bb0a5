-- `desk_answer::write_line` meets its contract: each case of the answer has one of the two lines.
-- Assumes nothing.
use Rattle.desk_answer.proofs.Lines.{accepted_is, rejected_is, zero_is}
use Rattle.desk_answer.proofs.write_line.Goals as goal

pub returns-in-Ok : goal.returns-in-Ok
returns-in-Ok c = rw (accepted_is c.in-Ok.counts c.in-Ok.is) at c.write_accepted.ensures

pub returns-then-refusal-eq0 : goal.returns-then-refusal-eq0
returns-then-refusal-eq0 c = rw (zero_is c.in-Err.refusal c.in-Err.is c.if-refusal-eq0.true) at c.write_accepted-then-refusal-eq0.ensures

pub returns-else-refusal-eq0 : goal.returns-else-refusal-eq0
returns-else-refusal-eq0 c = rw (c.code_number.ensures, rejected_is c.in-Err.refusal c.in-Err.is c.if-refusal-eq0.false) at c.write_rejected.ensures
