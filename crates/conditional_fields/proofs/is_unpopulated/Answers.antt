-- `is_unpopulated` meets its contract: each arm asks what the test asks of a record of its type.
-- Assumes nothing.
use mathlib.Core.Path.{◌≡◌, sym, ◌∙◌}
use mathlib.Core.Bool.{Bool, true, false, cond}
use Prim.Native.Nat.{◌≤◌}
use native.Mathlib.Omega.{arith}
use borrow.Author.Tests.{eq-eqb, ne_eqb}
use Rattle.readings.specs.InsideLeadingBytes.{packed_after}
use Rattle.conditional_fields.proofs.Records.{unasked, as_empty, period_told, usage_told, demand_told, charge_told, other_told}
use Rattle.conditional_fields.proofs.is_unpopulated.Goals.{else-energized, then-energized}
use Rattle.conditional_fields.proofs.is_unpopulated.Goals as goal

few : (energized : Bool) → cond energized 7 1 ≤ 7
few true = omega arith
few false = omega arith

pub returns-then-numbers-ne-YES : goal.returns-then-numbers-ne-YES
unfolding packed_after
returns-then-numbers-ne-YES c = λ file line period r e. unasked (period_told r period c.in-2.is) (ne_eqb _ _ c.if-numbers-ne-YES.true)

pub returns-then-numbers-ne-CUMULATIVE : goal.returns-then-numbers-ne-CUMULATIVE
unfolding packed_after
returns-then-numbers-ne-CUMULATIVE c = λ file line period r e. unasked (usage_told r period c.in-3.is e) (ne_eqb _ _ c.if-numbers-ne-CUMULATIVE.true)

pub returns-then-not-is_ratchet : goal.returns-then-not-is_ratchet
returns-then-not-is_ratchet c = λ file line period r e. unasked (demand_told r period c.in-4.is) (sym c.is_ratchet.ensures ∙ c.if-not-is_ratchet.true)

pub returns-then-numbers-ne-YES-2 : goal.returns-then-numbers-ne-YES-2
unfolding packed_after
returns-then-numbers-ne-YES-2 c = λ file line period r e. unasked (charge_told r period c.in-7.is) (ne_eqb _ _ c.if-numbers-ne-YES-2.true)

pub returns-else-numbers-ne-YES : goal.returns-else-numbers-ne-YES
unfolding packed_after
returns-else-numbers-ne-YES c = λ file line period r e. as_empty (period_told r period c.in-2.is) (eq-eqb _ _ c.if-numbers-ne-YES.false) c.some_empty.ensures

pub returns-after-energized : goal.returns-after-energized
unfolding packed_after
returns-after-energized c =
    let counted : c.if-energized.count ≡ cond c.args.energized 7 1 = elim c.if-energized.branch [ then-energized w ↦ w.count-is ∙ rw w.if-energized.true | else-energized w ↦ w.count-is ∙ rw w.if-energized.false ] in
    λ file line period r e. as_empty (usage_told r period c.in-3.is e) (eq-eqb _ _ c.if-numbers-ne-CUMULATIVE.false) (rw (counted) at c.some_empty-in-3.ensures)

pub returns-else-not-is_ratchet : goal.returns-else-not-is_ratchet
returns-else-not-is_ratchet c = λ file line period r e. as_empty (demand_told r period c.in-4.is) (sym c.is_ratchet.ensures ∙ c.if-not-is_ratchet.false) c.some_empty-in-4.ensures

pub returns-else-numbers-ne-YES-2 : goal.returns-else-numbers-ne-YES-2
unfolding packed_after
returns-else-numbers-ne-YES-2 c = λ file line period r e. as_empty (charge_told r period c.in-7.is) (eq-eqb _ _ c.if-numbers-ne-YES-2.false) c.some_empty-in-7.ensures

pub returns-in_default : goal.returns-in_default
returns-in_default c = λ file line period r e. other_told r period c.in_default.in_default-own.rest.0.0.0.1 c.in_default.in_default-own.rest.0.0.1 c.in_default.in_default-own.rest.0.1 c.in_default.in_default-own.rest.1
