-- Numbers as decimal digits: byte 48 is the digit 0, and the first digit is the highest.
-- Assumes nothing.
use Rattle.std.specs.Prelude.{ℕ, zero, suc, ◌+◌, ◌/◌, ◌%◌, List, [], ◌∷◌, ◌++◌, cond, ltb}

-- the last w digits of n: n padded with zeros to w digits where it has no more
unfoldable pub digits_in : ℕ → ℕ → List ℕ
digits_in zero n = []
digits_in (suc w) n = digits_in w (n / 10) ++ ((48 + n % 10) ∷ [])

-- how many digits n has, counted up to f and one
unfoldable pub count_up_to : ℕ → ℕ → ℕ
count_up_to zero n = 1
count_up_to (suc f) n = cond (ltb n 10) 1 (suc (count_up_to f (n / 10)))

-- a number of 64 bits has at most 20
unfoldable pub digit_count : ℕ → ℕ
digit_count n = count_up_to 19 n

-- n without leading zeros; 0 is one digit
unfoldable pub plain_digits : ℕ → List ℕ
plain_digits n = digits_in (digit_count n) n
