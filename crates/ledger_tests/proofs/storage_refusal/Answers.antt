-- Answers to the goals of `ledger_tests::storage_refusal`: 102, and then 101.
-- Assumes nothing.
use mathlib.Core.Path.{refl, sym, ◌∙◌}
use native.Mathlib.Omega.{arith}
use borrow.Author.Tests.{lt-ltb, le-ltb}
use Rattle.refusals.proofs.Stages.{line_fails, line_passes, none_fails}
use Rattle.ledger_tests.proofs.storage_refusal.Goals as goal

pub returns-then-has_stored-clause-value : goal.returns-then-has_stored-clause-value
returns-then-has_stored-clause-value c = (line_fails 102 0 (sym c.has_stored.ensures ∙ c.if-has_stored.true) c.refused.ensures).first

pub returns-then-places-chains-clause-value : goal.returns-then-places-chains-clause-value
returns-then-places-chains-clause-value c =
    (line_passes 102 0 (sym c.has_stored.ensures ∙ c.if-has_stored.false)
    (line_fails 101 0 (lt-ltb _ _ (omega (arith, c.requires.used_bound.3.count))) c.refused-then-places-chains.ensures)).first

pub returns-clause-value : goal.returns-clause-value
returns-clause-value c =
    (line_passes 102 0 (sym c.has_stored.ensures ∙ c.if-has_stored.false)
    (line_passes 101 0 (le-ltb _ _ (omega (arith, c.requires.used_bound.3.count))) (none_fails refl))).first
