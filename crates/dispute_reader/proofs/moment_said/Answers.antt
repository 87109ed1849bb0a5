-- `dispute_reader::moment_said` meets its contract: a date time is 14 digits, and says their number.
-- Assumes nothing.
use mathlib.Core.Path.{sym, ◌∙◌}
use Rattle.dispute_reader.proofs.OneField.{field_empty, told_moment, fits_no_moment}
use Rattle.dispute_reader.proofs.moment_said.Goals as goal

pub returns-then-is_empty : goal.returns-then-is_empty
returns-then-is_empty c = field_empty _ _ (sym c.is_empty.ensures ∙ c.if-is_empty.true)

pub returns-in_err-date_time_of : goal.returns-in_err-date_time_of
returns-in_err-date_time_of c =
    rw c.from_residual.ensures (fits_no_moment _ (sym c.is_empty.ensures ∙ c.if-is_empty.false) (sym c.date_time_of.ensures ∙ c.in_err-date_time_of.was))

pub returns : goal.returns
returns c = told_moment _ _ _ (sym c.date_time_of.ensures ∙ c.in_ok-date_time_of.was) c.digits_said.ensures
