-- Laws of a loop that passes all places below n, and keeps the first at which a test holds.
--     after_other                           a place at which the test does not hold changes nothing
--     so_far_none, so_far_more, so_far_end  before the first place; one place more; no place is left
--     so_far_over                           places are passed at which the test does not hold
-- Assumes nothing.
use mathlib.Core.Path.{◌≡◌, refl, sym, ◌∙◌}
use mathlib.Core.Bool.{Bool, true, false, cond}
use Prim.Native.Nat.{ℕ, ◌+◌, ◌≤◌, ◌<◌}
use native.Mathlib.Nat.{le_refl}
use native.Mathlib.Omega.{arith}
use native.Mathlib.Decide.{dec_lt}
use borrow.Author.Count.{below_more}
use borrow.Author.Tests.{eqb-true, eqb-false}
use lib.Dec.{eqb}
use Rattle.lists.specs.Below.{first_below}
use Rattle.lists.specs.InsideFirstSoFar.{first_after, SoFar}
use Rattle.lists.proofs.Below.{first_is, none_is_end}

pub after_other : (first n i : ℕ) → first_after false first n i ≡ first
unfolding first_after
after_other first n i = go (eqb first n) refl
  where
    go : (b : Bool) → eqb first n ≡ b → cond b n first ≡ first
    go true e = sym (eqb-true first n e)
    go false e = refl

module _ (f : ℕ → Bool) (n : ℕ) where
  pub so_far_none : SoFar f n 0 n
  so_far_none = record { most = le_refl n; found = λ h. absurd (omega (arith, h)); none = λ e j h. absurd (omega arith) }

  module _ {i r : ℕ} (s : SoFar f n i r) where
    pub so_far_more : i < n → {here : Bool} → here ≡ f i → {next : ℕ} → next ≡ first_after here r n i → SoFar f n (i + 1) next
    unfolding first_after
    so_far_more h e made = rw (made, e) (go (eqb r n) refl)
      where
        asked : r ≡ n → (b : Bool) → f i ≡ b → SoFar f n (i + 1) (cond b i n)
        asked end true q = record { most = omega (arith, h); found = λ l. first_is f n i h q (s.none end); none = λ z. absurd (omega (arith, h, z)) }
        asked end false q = record { most = le_refl n; found = λ l. absurd (omega (arith, l)); none = λ z. below_more (λ (j : ℕ). f j ≡ false) i (s.none end) q }

        go : (b : Bool) → eqb r n ≡ b → SoFar f n (i + 1) (cond b (cond (f i) i n) r)
        go true q = asked (eqb-true r n q) (f i) refl
        go false q = record { most = s.most; found = s.found; none = λ z. absurd (eqb-false r n q z) }

    pub so_far_over : (k : ℕ) → ((j : ℕ) → i ≤ j → j < k → f j ≡ false) → SoFar f n k r
    so_far_over k passed = record { most = s.most; found = s.found; none = λ end j h. go end j h (dec_lt j i) }
      where
        go : r ≡ n → (j : ℕ) → j < k → Dec (j < i) → f j ≡ false
        go end j h (yes l) = s.none end j l
        go end j h (no l) = passed j (omega (arith, l)) h

    pub so_far_end : n ≤ i → r ≡ first_below f n
    so_far_end all = go (dec_lt r n)
      where
        go : Dec (r < n) → r ≡ first_below f n
        go (yes h) = sym (s.found h)
        go (no h) = let end : r ≡ n = omega (arith, h, s.most) in end ∙ sym (none_is_end f n (λ j l. s.none end j (omega arith)))
