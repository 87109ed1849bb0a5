-- `desk_answer::answer` meets its contract.
-- Assumes nothing.
use native.Mathlib.Omega.{arith}
use Rattle.desk_answer.proofs.Laws.{desk_long, desk_booked}
use Rattle.desk_answer.proofs.answer.Goals as goal

pub returns-then-is_long : goal.returns-then-is_long
returns-then-is_long c = rw c.refused.ensures (desk_long c.args.input.now c.if-is_long.true)

pub returns : goal.returns
returns c = desk_booked c.args.input.now (omega (arith, c.if-is_long.false)) c.blank-run.result c.blank-run.ensures c.book.ensures.answers
