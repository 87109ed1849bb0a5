-- The first place at which a test finds something: every test of a file is such a search, and stops at the first record that fails.
-- Assumes nothing.
use Rattle.std.specs.Prelude.{ℕ, zero, suc, ◌+◌, Bool, cond, ltb}

-- the first of k places from i on at which f holds, or the place after them
unfoldable pub first_from : (ℕ → Bool) → ℕ → ℕ → ℕ
first_from f i zero = i
first_from f i (suc k) = cond (f i) i (first_from f (suc i) k)

-- the first place below n at which f holds, or n
unfoldable pub first_below : (ℕ → Bool) → ℕ → ℕ
first_below f n = first_from f 0 n

-- f holds at some place below n
unfoldable pub some_below : (ℕ → Bool) → ℕ → Bool
some_below f n = ltb (first_below f n) n

-- the nearest place below n at which f holds, as that place and one; 0 where there is none
unfoldable pub nearest_below : (ℕ → Bool) → ℕ → ℕ
nearest_below f zero = zero
nearest_below f (suc n) = cond (f n) (suc n) (nearest_below f n)

-- how many places below n there are at which f holds
unfoldable pub count_below : (ℕ → Bool) → ℕ → ℕ
count_below f zero = zero
count_below f (suc n) = count_below f n + cond (f n) 1 0
