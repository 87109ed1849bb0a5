-- `written_dates::date_number` meets its contract: the month of the day and its first day give the date.
-- Assumes nothing.
use native.Mathlib.Omega.{arith}
use Rattle.written_dates.proofs.Dates.{month_number}
use Rattle.written_dates.proofs.date_number.Goals as goal

pub overflow_sub-result : goal.overflow_sub-result
overflow_sub-result c = omega (arith, c.first_day.ensures.0, c.month_of_day-k.ensures.low)

pub returns : goal.returns
returns c = omega (arith, c.first_day.ensures.0, month_number c.month_of_day-k.result c.args.day c.month_of_day-k.ensures)
