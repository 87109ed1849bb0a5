-- A sum is 0 just where the summands are opposites.
-- Assumes nothing.
use mathlib.Core.Path.{◌≡◌, sym, ◌∙◌, ap}
use mathlib.Core.Logic.{◌↔◌}
use mathlib.Core.Bool.{true}
use native.Mathlib.Omega.{arith}
use borrow.Author.Tests.{eq-eqb, eqb-true}
use lib.IntN.{ℤ, pos, negsuc, neg_ℤ, nat_abs, ◌+ℤ◌, +ℤ_idl, +ℤ_idr, +ℤ_assoc, +ℤ_invl, +ℤ_invr}
use Rattle.soundness.specs.Sound.{is_zero}

pub is_zero_lem : (z : ℤ) → (is_zero z ≡ true) ↔ (z ≡ pos 0)
is_zero_lem z = (λ e. none z (eqb-true (nat_abs z) 0 e), λ e. eq-eqb (nat_abs z) 0 (ap nat_abs e))
  where
    none : (z : ℤ) → nat_abs z ≡ 0 → z ≡ pos 0
    none (pos n) e = ap pos e
    none (negsuc n) e = absurd (omega arith)

pub opposite_sum : (a b : ℤ) → (is_zero (a +ℤ b) ≡ true) ↔ (b ≡ neg_ℤ a)
opposite_sum a b = (
  λ e. sym (+ℤ_idl b) ∙ ap (λ (z : ℤ). z +ℤ b) (sym (+ℤ_invl a)) ∙ +ℤ_assoc (neg_ℤ a) a b ∙ ap (λ (z : ℤ). neg_ℤ a +ℤ z) ((is_zero_lem (a +ℤ b)).0 e) ∙ +ℤ_idr (neg_ℤ a),
  λ e. (is_zero_lem (a +ℤ b)).1 (ap (λ (z : ℤ). a +ℤ z) e ∙ +ℤ_invr a),
)
