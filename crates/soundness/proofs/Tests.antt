-- What a test means, put together from what its parts mean.
--     equal, below, at_most                     tests of numbers
--     both, unless, implies, exactly, fails     tests of tests
--     neither, excused, not_fails               tests of which is known that they fail
--     one_or_two, one_to_three                  ranges
--     none_means, some_means                    a search that finds nothing, and one that finds something
-- Assumes nothing.
use mathlib.Core.Path.{◌≡◌, refl, sym, ◌∙◌}
use mathlib.Core.Logic.{◌↔◌, ◌⊎◌, inl, inr, ⊎_elim}
use mathlib.Core.Bool.{Bool, true, false, not, cond, ◌&&◌, ◌||◌, true≢false, false≢true}
use Prim.Native.Nat.{ℕ, ◌≤◌, ◌<◌}
use native.Mathlib.Omega.{arith}
use native.Mathlib.Decide.{ℕ_discrete}
use borrow.Author.Tests.{not-false, eqb-true, eq-eqb, ltb-true, lt-ltb, leb-true, le-leb}
use lib.Dec.{eqb, leb, ltb}
use Rattle.lists.specs.Below.{some_below}
use Rattle.lists.proofs.Below.{some_holds, some_is, some_none, none_some}
use Rattle.soundness.specs.Sound.{within}

-- ---- numbers
pub equal : (a b : ℕ) → (eqb a b ≡ true) ↔ (a ≡ b)
equal a b = (eqb-true a b, eq-eqb a b)

pub below : (a b : ℕ) → (ltb a b ≡ true) ↔ (a < b)
below a b = (ltb-true a b, lt-ltb a b)

pub at_most : (a b : ℕ) → (leb a b ≡ true) ↔ (a ≤ b)
at_most a b = (leb-true a b, le-leb a b)

-- ---- a test s that means P, and a test t that means Q
module _ {P Q : Type 0} where
  pub both : {s t : Bool} → (s ≡ true) ↔ P → (t ≡ true) ↔ Q → (s && t ≡ true) ↔ (P × Q)
  both {s} {t} p q = (split s p.0, λ h. rw (p.1 h.0) (q.1 h.1))
    where
      split : (b : Bool) → (b ≡ true → P) → b && t ≡ true → P × Q
      split true holds e = (holds refl, q.0 e)
      split false holds e = absurd (false≢true e)

  pub unless : {s t : Bool} → (s ≡ true) ↔ P → (t ≡ true) ↔ Q → (s || t ≡ true) ↔ ((P → ⊥) → Q)
  unless {s} {t} p q = (split s p.0, join s p.1)
    where
      split : (b : Bool) → (b ≡ true → P) → b || t ≡ true → (P → ⊥) → Q
      split true holds e never = absurd (never (holds refl))
      split false holds e never = q.0 e

      join : (b : Bool) → (P → b ≡ true) → ((P → ⊥) → Q) → b || t ≡ true
      join true back otherwise = refl
      join false back otherwise = q.1 (otherwise (λ x. false≢true (back x)))

  pub implies : {s t : Bool} → (s ≡ true) ↔ P → (t ≡ true) ↔ Q → (not s || t ≡ true) ↔ (P → Q)
  implies {s} {t} p q = (split s p.1, join s p.0)
    where
      split : (b : Bool) → (P → b ≡ true) → not b || t ≡ true → P → Q
      split true back e x = q.0 e
      split false back e x = absurd (false≢true (back x))

      join : (b : Bool) → (b ≡ true → P) → (P → Q) → not b || t ≡ true
      join true holds then = q.1 (then (holds refl))
      join false holds then = refl

  -- t holds where s does, and only there
  pub exactly : {s t : Bool} → (s ≡ true) ↔ P → (t ≡ true) ↔ Q → (cond s t (not t) ≡ true) ↔ (Q ↔ P)
  exactly {s} {t} p q = (split s t p q, join s t p q)
    where
      split : (b c : Bool) → (b ≡ true) ↔ P → (c ≡ true) ↔ Q → cond b c (not c) ≡ true → Q ↔ P
      split true c p q e = (λ y. p.0 refl, λ x. q.0 e)
      split false true p q e = absurd (false≢true e)
      split false false p q e = (λ y. absurd (false≢true (q.1 y)), λ x. absurd (false≢true (p.1 x)))

      join : (b c : Bool) → (b ≡ true) ↔ P → (c ≡ true) ↔ Q → Q ↔ P → cond b c (not c) ≡ true
      join true c p q same = q.1 (same.1 (p.0 refl))
      join false true p q same = p.1 (same.0 (q.0 refl))
      join false false p q same = refl

pub fails : {P : Type 0} {s : Bool} → (s ≡ true) ↔ P → (s ≡ false) ↔ (P → ⊥)
fails {P} {s} p = (λ e x. true≢false (sym (p.1 x) ∙ e), go s p.0)
  where
    go : (b : Bool) → (b ≡ true → P) → (P → ⊥) → b ≡ false
    go true holds never = absurd (never (holds refl))
    go false holds never = refl

-- ---- tests that fail
module _ {P Q : Type 0} where
  pub neither : {s t : Bool} → (s ≡ false) ↔ P → (t ≡ false) ↔ Q → (s || t ≡ false) ↔ (P × Q)
  neither {s} {t} p q = (split s p.0, λ h. rw (p.1 h.0) (q.1 h.1))
    where
      split : (b : Bool) → (b ≡ false → P) → b || t ≡ false → P × Q
      split true holds e = absurd (true≢false e)
      split false holds e = (holds refl, q.0 e)

  pub excused : {s t : Bool} → (s ≡ true) ↔ P → (t ≡ true) ↔ Q → (s && not t ≡ false) ↔ (P → Q)
  excused {s} {t} p q = (split s t p q, join s t p q)
    where
      split : (b c : Bool) → (b ≡ true) ↔ P → (c ≡ true) ↔ Q → b && not c ≡ false → P → Q
      split true true p q e x = q.0 refl
      split true false p q e x = absurd (true≢false e)
      split false c p q e x = absurd (false≢true (p.1 x))

      join : (b c : Bool) → (b ≡ true) ↔ P → (c ≡ true) ↔ Q → (P → Q) → b && not c ≡ false
      join true true p q then = refl
      join true false p q then = sym (q.1 (then (p.0 refl)))
      join false c p q then = refl

pub not_fails : {P : Type 0} {s : Bool} → (s ≡ true) ↔ P → (not s ≡ false) ↔ P
not_fails {P} {s} p = (λ e. p.0 (not-false s e), λ x. rw (p.1 x))

-- ---- ranges
pub one_or_two : (n : ℕ) → (within 1 2 n ≡ true) ↔ ((n ≡ 1) ⊎ (n ≡ 2))
one_or_two n = (
  λ e. let h = bounds.0 e in go (ℕ_discrete n 1) h.0 h.1,
  λ s. bounds.1 (⊎_elim (λ e. omega (arith, e)) (λ e. omega (arith, e)) s, ⊎_elim (λ e. omega (arith, e)) (λ e. omega (arith, e)) s),
)
  where
    bounds : (within 1 2 n ≡ true) ↔ ((1 ≤ n) × (n ≤ 2))
    bounds = both (at_most 1 n) (at_most n 2)

    go : Dec (n ≡ 1) → 1 ≤ n → n ≤ 2 → (n ≡ 1) ⊎ (n ≡ 2)
    go (yes one) low high = inl one
    go (no other) low high = inr (omega (arith, other))

pub one_to_three : (n : ℕ) → (within 1 3 n ≡ true) ↔ ((n ≡ 1) ⊎ (n ≡ 2) ⊎ (n ≡ 3))
one_to_three n = (
  λ e. let h = bounds.0 e in go (ℕ_discrete n 1) (ℕ_discrete n 2) h.0 h.1,
  λ s. bounds.1 (low s, high s),
)
  where
    bounds : (within 1 3 n ≡ true) ↔ ((1 ≤ n) × (n ≤ 3))
    bounds = both (at_most 1 n) (at_most n 3)

    go : Dec (n ≡ 1) → Dec (n ≡ 2) → 1 ≤ n → n ≤ 3 → (n ≡ 1) ⊎ (n ≡ 2) ⊎ (n ≡ 3)
    go (yes one) two low high = inl one
    go (no other) (yes two) low high = inr (inl two)
    go (no other) (no others) low high = inr (inr (omega (arith, other, others)))

    low : (n ≡ 1) ⊎ (n ≡ 2) ⊎ (n ≡ 3) → 1 ≤ n
    low (inl e) = omega (arith, e)
    low (inr (inl e)) = omega (arith, e)
    low (inr (inr e)) = omega (arith, e)

    high : (n ≡ 1) ⊎ (n ≡ 2) ⊎ (n ≡ 3) → n ≤ 3
    high (inl e) = omega (arith, e)
    high (inr (inl e)) = omega (arith, e)
    high (inr (inr e)) = omega (arith, e)

-- ---- a search that finds nothing, and one that finds something
pub none_means : (f : ℕ → Bool) (P : ℕ → Type 0) → ((j : ℕ) → (f j ≡ true) ↔ P j) → (n : ℕ) → (some_below f n ≡ false) ↔ ((j : ℕ) → j < n → P j → ⊥)
none_means f P means n = (
  λ e j h. (fails (means j)).0 (some_none f n e j h),
  λ none. none_some f n (λ j h. (fails (means j)).1 (none j h)),
)

pub some_means : (f : ℕ → Bool) (n : ℕ) → (some_below f n ≡ true) ↔ ((j : ℕ) × (j < n) × (f j ≡ true))
some_means f n = (some_holds f n, λ w. some_is f n w.0 w.1 w.2)
