-- Laws of the word in which the host gets an answer: its upper 32 bits are the number, its lower 32 bits the value.
--     packed_number, packed_value    the two halves of the word, for a value that fits
--     check_fits, day_fits, code_fits    the values that the functions answer fit
-- Assumes nothing.
use mathlib.Core.Path.{◌≡◌, refl}
use mathlib.Core.List.{List}
use Prim.Native.Nat.{ℕ, ◌/◌, ◌%◌, ◌^◌, ◌<◌}
use native.Mathlib.Omega.{arith}
use Rattle.std.specs.Prelude.{Option, Some, None}
use Rattle.calendar.specs.Calendar.{day_of}
use Rattle.calendar.proofs.Dates.{day_bound}
use Rattle.refusals.specs.Codes.{code_of}
use Rattle.refusals.proofs.RejectionCodes.{code_range}
use Rattle.refusals.specs.Check.{check_of}
use Rattle.refusals.proofs.Outcomes.{check_small}
use Rattle.refusals.specs.Answers.{Answer, packed, check_answer, day_answer, code_answer}

module _ (a : Answer) (fits : a.value < 2 ^ 32) where
  pub packed_number : packed a / 2 ^ 32 ≡ a.number
  packed_number = omega arith

  pub packed_value : packed a % 2 ^ 32 ≡ a.value
  packed_value = omega arith

pub check_fits : (retailer : ℕ) (distributors file : List ℕ) → (check_answer (check_of retailer distributors file)).value < 2 ^ 32
check_fits retailer distributors file = omega (arith, (check_small retailer distributors file).1)

pub day_fits : (date : List ℕ) → (day_answer (day_of date)).value < 2 ^ 32
day_fits date = go (day_of date) refl
  where
    go : (r : Option ℕ) → day_of date ≡ r → (day_answer r).value < 2 ^ 32
    go (Some day) e = omega (arith, day_bound date day e)
    go None e = omega arith

pub code_fits : (test : ℕ) → (code_answer (code_of test)).value < 2 ^ 32
code_fits test = go (code_of test) refl
  where
    go : (r : Option ℕ) → code_of test ≡ r → (code_answer r).value < 2 ^ 32
    go (Some code) e = omega (arith, (code_range test code e).1)
    go None e = omega arith
