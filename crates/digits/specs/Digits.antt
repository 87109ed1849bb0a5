-- What decimal digits say: byte 48 is the digit 0, byte 57 the digit 9, and the first digit is the highest.
-- Assumes nothing.
use Rattle.std.specs.Prelude.{ℕ, ◌+◌, ◌-◌, ◌*◌, List, [], ◌∷◌, Bool, true, cond, ◌&&◌, length, leb, eqb}
use Rattle.std.specs.Prelude.{Option, Some, None}

abbrev pub is_digit : ℕ → Bool
is_digit b = leb 48 b && leb b 57

unfoldable pub all_digits : List ℕ → Bool
all_digits [] = true
all_digits (b ∷ s) = is_digit b && all_digits s

-- the number v, followed by the digits of a list
unfoldable pub followed_by : ℕ → List ℕ → ℕ
followed_by v [] = v
followed_by v (b ∷ s) = followed_by (v * 10 + (b - 48)) s

abbrev pub number_of : List ℕ → ℕ
number_of s = followed_by 0 s

-- a count of l to h
abbrev pub within : ℕ → ℕ → ℕ → Bool
within l h n = leb l n && leb n h

-- document 01, "The file": "1 to 15 digits, without sign, compared by value"; leading zeros are allowed
unfoldable pub digits_of : List ℕ → Option ℕ
digits_of s = cond (within 1 15 (length s) && all_digits s) (Some (number_of s)) None

-- document 01, "The file": "Site IDs are 13 digits, distributor IDs 4, retailer IDs 9": just n digits
unfoldable pub fixed_digits_of : ℕ → List ℕ → Option ℕ
fixed_digits_of n s = cond (eqb (length s) n) (digits_of s) None
