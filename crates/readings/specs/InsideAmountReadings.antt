-- What is read of an amount that stands at the start of a line's bytes: where the field ends, and what it says as one number.
-- Assumes nothing.
use Rattle.std.specs.Prelude.{◌≡◌, ℕ, ◌+◌, ◌^◌, ◌<◌, ◌≤◌, true, false, List, length, take, Option, Some, None}
use Rattle.digits.specs.Digits.{all_digits, number_of}
use Rattle.amounts.specs.Amounts.{is_unsigned, units_of}
use Rattle.readings.specs.declared.Reading.{Reading}
use Rattle.readings.specs.InsideLeadingBytes.{field_end, leading_field}

-- what is read of an amount without its sign at the start of s: `whole` digits at most, then optionally a point and up to `scale` digits
pub record MagnitudeRead (whole scale : ℕ) (s : List ℕ) (r : Reading) : Type 0 where
  pub ends : r.len ≡ field_end s
  pub fits : is_unsigned whole scale (leading_field s) ≡ true
  pub says : whole + scale ≤ 15 → r.number ≡ units_of scale (leading_field s)
  pub small : r.number < 10 ^ 15

-- the whole part w of an amount stands before p
pub record WholeRead (s : List ℕ) (w p whole : ℕ) : Type 0 where
  pub inside : p ≤ length s
  pub some : 1 ≤ p
  pub few : p ≤ whole
  pub digits : all_digits (take p s) ≡ true
  pub value : w ≡ number_of (take p s)
  pub longest : (m : ℕ) → m ≤ length s → m ≤ 15 → all_digits (take m s) ≡ true → m ≤ p

-- what is read of an amount without its sign at the start of s, or none where there is none
abbrev pub MagnitudeTold : ℕ → ℕ → List ℕ → Option Reading → Type 0
MagnitudeTold whole scale s (Some r) = MagnitudeRead whole scale s r
MagnitudeTold whole scale s None = is_unsigned whole scale (leading_field s) ≡ false
