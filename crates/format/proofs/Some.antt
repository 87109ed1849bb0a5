-- A loop that passes all places, and keeps whether the test has kept.
--     some_start, some_now, some_kept    before the first place; the test holds at i; it doesn't
-- Assumes nothing.
use mathlib.Core.Path.{◌≡◌, refl, sym, ◌∙◌}
use mathlib.Core.Bool.{Bool, true, false}
use Prim.Native.Nat.{ℕ, ◌+◌}
use native.Mathlib.Omega.{arith}
use borrow.Author.Count.{below_more}
use Rattle.lists.specs.Below.{some_below}
use Rattle.lists.proofs.Below.{some_holds, some_none, some_is, none_some}

module _ (f : ℕ → Bool) where
  pub some_start : false ≡ some_below f 0
  some_start = sym (none_some f 0 (λ j h. absurd (omega arith)))

  pub some_now : (i : ℕ) → f i ≡ true → true ≡ some_below f (i + 1)
  some_now i e = sym (some_is f (i + 1) i (omega arith) e)

  pub some_kept : (i : ℕ) → f i ≡ false → some_below f i ≡ some_below f (i + 1)
  some_kept i e = go (some_below f i) refl
    where
      go : (b : Bool) → some_below f i ≡ b → some_below f i ≡ some_below f (i + 1)
      go true q = let w = some_holds f i q in q ∙ sym (some_is f (i + 1) w.0 (omega (arith, w.1)) w.2)
      go false q = q ∙ sym (none_some f (i + 1) (below_more (λ (k : ℕ). f k ≡ false) i (some_none f i q) e))
