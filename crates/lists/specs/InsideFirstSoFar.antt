-- A loop that passes all places below n, and keeps the first at which a test holds; n stands for none.
-- Assumes nothing.
use Rattle.std.specs.Prelude.{ℕ, ◌≤◌, ◌<◌, ◌≡◌, Bool, false, cond, eqb}
use Rattle.lists.specs.Below.{first_below}

-- what is kept once the test is asked at place i, where `first` was kept before
unfoldable pub first_after : Bool → ℕ → ℕ → ℕ → ℕ
first_after holds first n i = cond (eqb first n) (cond holds i n) first

-- r is kept after the first i places: the first place below n at which f holds, or n
pub record SoFar (f : ℕ → Bool) (n i r : ℕ) : Type 0 where
  pub most : r ≤ n
  pub found : r < n → first_below f n ≡ r
  pub none : r ≡ n → (j : ℕ) → j < i → f j ≡ false
