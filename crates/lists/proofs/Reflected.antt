-- What computed tests say, as an if and only if.
--     none_fails    a search answers the end exactly where a fact holds at each place
--     some_fails    the same of whether it finds something
--     neither_of    `a || b` is false exactly where both are
--     not_both      `a && b` is false exactly where b is false if a is true
--     both_of       `a && b` is true exactly where both are
--     alike         two tests are equal where each passes if the other does
--     denied        `not a` is false exactly where a is true
--     same_bytes_is, empty_is    equality of bytes, and emptiness
-- Assumes nothing.
use mathlib.Core.Path.{◌≡◌, refl, sym, ap, subst}
use mathlib.Core.List.{List, [], ◌∷◌}
use mathlib.Core.Logic.{◌↔◌}
use mathlib.Core.Bool.{Bool, true, false, not, ◌&&◌, ◌||◌, true≢false}
use Prim.Native.Nat.{ℕ, ◌<◌}
use native.Mathlib.Omega.{arith}
use lib.ListN.{length}
use Rattle.lists.specs.Below.{first_below, some_below}
use Rattle.lists.specs.Bytes.{same_bytes}
use Rattle.lists.proofs.Below.{none_below, none_is_end, some_none, none_some}
use Rattle.lists.proofs.Bytes.{same_is, is_same}

module _ (f : ℕ → Bool) (P : ℕ → Type 0) (is : (j : ℕ) → (f j ≡ false) ↔ P j) (n : ℕ) where
  pub none_fails : (first_below f n ≡ n) ↔ ((j : ℕ) → j < n → P j)
  none_fails = (λ e j h. (is j).0 (none_below f n e j h), λ all. none_is_end f n (λ j h. (is j).1 (all j h)))

  pub some_fails : (some_below f n ≡ false) ↔ ((j : ℕ) → j < n → P j)
  some_fails = (λ e j h. (is j).0 (some_none f n e j h), λ all. none_some f n (λ j h. (is j).1 (all j h)))

pub neither_of : (a b : Bool) → (a || b ≡ false) ↔ ((a ≡ false) × (b ≡ false))
neither_of true b = (λ e. absurd (true≢false e), λ q. q.0)
neither_of false b = (λ e. (refl, e), λ q. q.1)

pub not_both : (a b : Bool) → (a && b ≡ false) ↔ (a ≡ true → b ≡ false)
not_both true b = (λ e _. e, λ q. q refl)
not_both false b = (λ e q. absurd (true≢false (sym q)), λ q. refl)

pub both_of : (a b : Bool) → (a && b ≡ true) ↔ ((a ≡ true) × (b ≡ true))
both_of true b = (λ e. (refl, e), λ q. q.1)
both_of false b = (λ e. absurd (true≢false (sym e)), λ q. q.0)

pub alike : (a b : Bool) → (a ≡ true → b ≡ true) → (b ≡ true → a ≡ true) → a ≡ b
alike true b f g = sym (f refl)
alike false true f g = g refl
alike false false f g = refl

pub denied : (a : Bool) → (not a ≡ false) ↔ (a ≡ true)
denied true = (λ e. refl, λ e. refl)
denied false = (λ e. sym e, λ e. sym e)

pub same_bytes_is : (xs ys : List ℕ) → (same_bytes xs ys ≡ true) ↔ (xs ≡ ys)
same_bytes_is xs ys = (same_is xs ys, λ e. subst (λ (l : List ℕ). same_bytes xs l ≡ true) e (is_same xs))

pub empty_is : (s : List ℕ) → (length s ≡ 0) ↔ (s ≡ [])
empty_is [] = (λ e. refl, λ e. refl)
empty_is (b ∷ s) = (λ e. absurd (omega arith), λ e. ap length e)
