-- The places of a list: of one that is one element longer, and of one with another element at a place; and what a test over the list says of them.
--     longer_each, changed_each       what holds at each place
--     place_some                      a test that passes at some place
--     no_place                        a test that passes nowhere
-- Assumes nothing.
use mathlib.Core.Path.{◌≡◌, sym, subst}
use mathlib.Core.Bool.{Bool, true}
use mathlib.Core.List.{List, [], ◌∷◌, ◌++◌}
use Prim.Native.Nat.{ℕ, zero, suc, ◌<◌}
use native.Mathlib.Omega.{arith}
use native.Mathlib.Decide.{dec_lt, ℕ_discrete}
use lib.ListN.{length, get_or, set, length-append, length-set, get_or-append}
use lib.Seq.{get_or-append_seam, get_or-set_same, get_or-set_other}
use Rattle.lists.specs.Selections.{any, count}
use Rattle.lists.proofs.Selections.{cases}

module _ {A : Type 0} (d : A) where
  -- what holds at each place of a list and of one element more
  pub longer_each : (P : ℕ → A → Type 0) (l : List A) (x : A) → ((i : ℕ) → i < length l → P i (get_or l i d)) → P (length l) x
      → (i : ℕ) → i < length (l ++ x ∷ []) → P i (get_or (l ++ x ∷ []) i d)
  longer_each P l x old new i h = go (dec_lt i (length l))
    where
      go : Dec (i < length l) → P i (get_or (l ++ x ∷ []) i d)
      go (yes k) = subst (P i) (sym (get_or-append l (x ∷ []) d i k)) (old i k)
      go (no k) =
          let last : length l ≡ i = omega (arith, length-append l (x ∷ [])) in
          subst (λ (j : ℕ). P j (get_or (l ++ x ∷ []) j d)) last (subst (P (length l)) (sym (get_or-append_seam l x [] d)) new)

  -- and of a list with another element at p
  pub changed_each : (P : ℕ → A → Type 0) (l : List A) (p : ℕ) (x : A) → p < length l → ((i : ℕ) → i < length l → (i ≡ p → ⊥) → P i (get_or l i d)) → P p x
      → (i : ℕ) → i < length (set l p x) → P i (get_or (set l p x) i d)
  changed_each P l p x inside old new i h = go (ℕ_discrete i p)
    where
      go : Dec (i ≡ p) → P i (get_or (set l p x) i d)
      go (yes e) = subst (λ (j : ℕ). P j (get_or (set l p x) j d)) (sym e) (subst (P p) (sym (get_or-set_same l p x d inside)) new)
      go (no e) = subst (P i) (sym (get_or-set_other l p i x d e)) (old i (omega (arith, length-set l p x)) e)

  -- a test passes at some place
  pub place_some : (t : A → Bool) (l : List A) (i : ℕ) → i < length l → t (get_or l i d) ≡ true → any t l ≡ true
  place_some t [] i h e = absurd (omega arith)
  place_some t (x ∷ l) zero h e = rw e
  place_some t (x ∷ l) (suc i) h e = cases (t x) (λ k. rw k) (λ k. rw k (place_some t l i (omega arith) e))

  -- a test passes nowhere
  pub no_place : (t : A → Bool) (l : List A) → count t l ≡ 0 → (i : ℕ) → i < length l → t (get_or l i d) ≡ true → ⊥
  no_place t [] z i h e = absurd (omega arith)
  no_place t (x ∷ l) z zero h e = let k : suc (count t l) ≡ 0 = rw e at z in omega arith
  no_place t (x ∷ l) z (suc i) h e = cases (t x)
      (λ k. let k' : suc (count t l) ≡ 0 = rw k at z in absurd (omega arith))
      (λ k. no_place t l (rw k at z) i (omega arith) e)
