-- `calendar::date_day` meets its contract: a test that fails says that the numbers are no date, and where all pass they are one.
-- Assumes nothing.
use Rattle.std.proofs.Common.{sym, arith}
use Rattle.calendar.proofs.Dates.{date_is, date_is_not}
use Rattle.calendar.proofs.date_day.Goals as goal

pub returns-then-year-lt2000 : goal.returns-then-year-lt2000
returns-then-year-lt2000 c = sym (date_is_not _ _ _ (λ date. grind arith))

pub returns-then-month_days-day : goal.returns-then-month_days-day
returns-then-month_days-day c = sym (date_is_not _ _ _ (λ date. omega arith))

pub returns : goal.returns
returns c = rw c.first_day.ensures.0 (sym (date_is _ _ _ (omega arith)))
