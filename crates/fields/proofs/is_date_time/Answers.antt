-- `fields::is_date_time` meets its contract.
-- Assumes nothing.
use Rattle.std.proofs.Common.{sym, ◌∙◌}
use Rattle.fields.specs.Fields.{fits_type}
use Rattle.fields.proofs.is_date_time.Goals as goal

pub returns-then-is_empty : goal.returns-then-is_empty
unfolding fits_type
returns-then-is_empty c = simp (sym c.is_empty.ensures ∙ c.if-is_empty.true)

pub returns : goal.returns
unfolding fits_type
returns c = simp (sym c.is_empty.ensures ∙ c.if-is_empty.false, ← c.date_time_of.ensures) c.is_some.ensures
