-- `calendar::day_of` meets its contract: by cases on what the digits say.
-- Assumes nothing.
use Rattle.calendar.specs.Calendar.{day_of}
use borrow.Author.Tests.{eq-eqb, ne_eqb}
use Rattle.calendar.proofs.day_of.Goals as goal

pub returns-then-s-ne8 : goal.returns-then-s-ne8
unfolding day_of
returns-then-s-ne8 c = simp (ne_eqb _ _ c.if-s-ne8.true)

pub returns-in_err-n : goal.returns-in_err-n
unfolding day_of
returns-in_err-n c = simp (eq-eqb _ _ c.if-s-ne8.false, ← c.digits.ensures, c.in_err-n.was) c.from_residual.ensures

pub returns : goal.returns
unfolding day_of
returns c = simp (eq-eqb _ _ c.if-s-ne8.false, ← c.digits.ensures, c.in_ok-n.was) c.date_day.ensures
