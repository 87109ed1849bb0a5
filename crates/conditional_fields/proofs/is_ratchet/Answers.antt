-- `is_ratchet` meets its contract: the numbers of the code are those that say the ratchets.
-- Assumes nothing.
use mathlib.Core.Path.{◌≡◌, refl, sym, ◌∙◌, ap}
use mathlib.Core.Logic.{◌⊎◌, inl, inr, ⊎_elim}
use mathlib.Core.Bool.{Bool, true, false}
use Prim.Native.Nat.{ℕ, ◌+◌, ◌^◌, ◌<◌}
use native.Mathlib.Omega.{arith}
use lib.IntN.{pos}
use Rattle.amounts.specs.InsideSaid.{said_by}
use Rattle.amounts.specs.declared.Amount.TheVariants.{Value as Units}
use Rattle.amounts.proofs.Sayings.{said_plain, said_units}
use Rattle.format.specs.Conditional.{is_one_of, ratchets}
use Rattle.format.proofs.Conditional.{one_of}
use Rattle.conditional_fields.proofs.is_ratchet.Goals as goal

-- the number is that of a ratchet
abbrev Says : ℕ → Type 0
Says x = (x ≡ 10 ^ 15 + 4100) ⊎ ((x ≡ 10 ^ 15 + 4110) ⊎ ((x ≡ 10 ^ 15 + 4120) ⊎ (x ≡ 10 ^ 15 + 4200)))

says_one : (x : ℕ) → Says x → true ≡ is_one_of ratchets (said_by x)
says_one x = ⊎_elim (λ e. said 4100 e (omega arith) refl) (⊎_elim (λ e. said 4110 e (omega arith) refl) (⊎_elim (λ e. said 4120 e (omega arith) refl) (λ e. said 4200 e (omega arith) refl)))
  where
    said : (n : ℕ) → x ≡ 10 ^ 15 + n → n < 10 ^ 15 → true ≡ is_one_of ratchets (Units (pos n)) → true ≡ is_one_of ratchets (said_by x)
    said n e small one = one ∙ ap (is_one_of ratchets) (sym (ap said_by e ∙ said_plain n small))

says_none : (x : ℕ) → (Says x → ⊥) → false ≡ is_one_of ratchets (said_by x)
says_none x none = go (is_one_of ratchets (said_by x)) refl
  where
    go : (b : Bool) → is_one_of ratchets (said_by x) ≡ b → false ≡ b
    go false e = refl
    go true e =
        let w = one_of (said_by x) e in
        let is = said_units x w.0 w.1 in
        absurd (none (⊎_elim (λ q. inl (is ∙ ap (λ (n : ℕ). 10 ^ 15 + n) q)) (⊎_elim (λ q. inr (inl (is ∙ ap (λ (n : ℕ). 10 ^ 15 + n) q))) (⊎_elim (λ q. inr (inr (inl (is ∙ ap (λ (n : ℕ). 10 ^ 15 + n) q)))) (λ q. inr (inr (inr (is ∙ ap (λ (n : ℕ). 10 ^ 15 + n) q)))))) w.2))

pub returns-in-1000000000004100 : goal.returns-in-1000000000004100
returns-in-1000000000004100 c = says_one c.args.number c.in-1000000000004100.is

pub returns-in_default : goal.returns-in_default
returns-in_default c = says_none c.args.number c.in_default.in_default-own.rest.1
