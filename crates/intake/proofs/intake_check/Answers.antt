-- `intake::intake_check` meets its contract: the number and the line that Check answers are small enough for one word.
-- Assumes nothing.
use Rattle.std.proofs.Common.{◌≡◌, sym, subst, ℕ, ◌≤◌, List, arith}
use Rattle.refusals.specs.declared.Outcome.{Outcome}
use Rattle.refusals.specs.Check.{check_of}
use Rattle.refusals.proofs.Outcomes.{check_small}
use Rattle.intake.proofs.intake_check.Goals as goal

-- the number and the line that Check answers are small
small : (retailer : ℕ) (distributors file : List ℕ) (o : Outcome) → o ≡ check_of retailer distributors file → (o.number ≤ 104) × (o.line ≤ 4096)
small retailer distributors file o e = subst (λ (x : Outcome). (x.number ≤ 104) × (x.line ≤ 4096)) (sym e) (check_small retailer distributors file)

pub overflow_mul-result : goal.overflow_mul-result
overflow_mul-result c = omega (arith, small _ _ _ _ c.in-Err.ensures.value)

pub overflow_add-result : goal.overflow_add-result
overflow_add-result c = omega (arith, small _ _ _ _ c.in-Err.ensures.value)
