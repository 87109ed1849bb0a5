-- `readings::date_of` meets its contract: an ID of eight digits is a date where the calendar has its number, and an empty field stays one.
-- Assumes nothing.
use Rattle.std.proofs.Common.{◌-◌, ◌/◌, ◌%◌, sym, ◌∙◌, refl, arith}
use Rattle.calendar.proofs.Dates.{date_bound}
use Rattle.readings.proofs.Ids.{date_empty, date_read, date_missed}
use Rattle.readings.proofs.date_of.Goals as goal

pub returns-then-id-eq0 : goal.returns-then-id-eq0
returns-then-id-eq0 c = λ s read. date_empty s c.args.id read c.if-id-eq0.true

pub returns-in_err-day : goal.returns-in_err-day
returns-in_err-day c = λ s read. rw c.from_residual.ensures (date_missed s c.args.id read c.if-id-eq0.false (sym c.date_day.ensures ∙ c.in_err-day.was))

pub overflow_add-result : goal.overflow_add-result
overflow_add-result c =
    let n = c.args.id.number - 1 in
    record { fits = omega (arith, date_bound (n / 10000) (n / 100 % 100) (n % 100) c.in_ok-day.day (sym c.date_day.ensures ∙ c.in_ok-day.was)) }

pub returns : goal.returns
returns c = λ s read. date_read s c.args.id read c.if-id-eq0.false _ c.in_ok-day.day (sym c.date_day.ensures ∙ c.in_ok-day.was) refl refl
