-- `dispute_reader::code_said` meets its contract: an amount is missing, misses its type, or is a value, which is passed on as it is.
-- Assumes nothing.
use mathlib.Core.Path.{refl, sym, ◌∙◌}
use borrow.Author.Rules.{rules}
use Rattle.lists.proofs.Signed.{value_kept}
use Rattle.dispute_reader.proofs.OneField.{code_empty, code_number_lem, code_missed}
use Rattle.dispute_reader.proofs.code_said.Goals as goal

pub returns-in-Missing : goal.returns-in-Missing
returns-in-Missing c = code_empty _ (sym c.amount_of.ensures ∙ c.in-Missing.is)

pub returns-in-Value : goal.returns-in-Value
returns-in-Value c = code_number_lem _ _ _ (sym c.amount_of.ensures ∙ c.in-Value.is) (value_kept (search rules) refl)

pub returns-in-Misses : goal.returns-in-Misses
returns-in-Misses c = code_missed _ (sym c.amount_of.ensures ∙ c.in-Misses.is)
