-- Document 01, "Desk examples": the starred ones, as one table, and one theorem over the reading rules.
-- Assumes nothing.
use Prim.Native.Nat.{ℕ}
use Prim.Native.String.{String}
use mathlib.Core.Path.{◌≡◌, refl}
use mathlib.Core.List.{List, [], ◌∷◌, map}
use mathlib.Core.Bool.{Bool, true, false}
use lib.IntN.{pos}
use Rattle.lists.specs.First.{first_where}
use Rattle.lists.specs.Written.{written}
use Rattle.digits.specs.Digits.{all_digits, followed_by, digits_of}
use Rattle.std.specs.Prelude.{Option, Some, None}
use Rattle.calendar.specs.declared.Period.{Period}
use Rattle.calendar.specs.Calendar.{month_days, first_day, is_date, day_at, day_of}
use Rattle.calendar.specs.Periods.{shares_day}
use Rattle.amounts.specs.declared.Amount.{Amount}
use Rattle.amounts.specs.declared.Amount.TheVariants.{Value, Misses}
use Rattle.amounts.specs.Amounts.{is_unsigned, is_number, units_of, amount_of}

-- what an example asks: the day of a date; an amount at two places; whether two periods, by their dates, share a day
pub data Question : Type 0 where
  day : String → Question
  two_places : String → Question
  share : String → String → String → String → Question

pub data Reading : Type 0 where
  day_is : Option ℕ → Reading
  amount_is : Amount → Reading
  sharing : Bool → Reading

-- the day number of a date, for a date
abbrev day_number : Option ℕ → ℕ
day_number (Some d) = d
day_number None = 0

abbrev period : String → String → Period
period from to = record { start = day_number (day_of (written from)); end = day_number (day_of (written to)) }

abbrev pub answer : Question → Reading
answer (day date) = day_is (day_of (written date))
answer (two_places amount) = amount_is (amount_of 11 2 (written amount))
answer (share from to from' to') = sharing (shares_day (period from to) (period from' to'))

abbrev pub examples : List (Question × Reading)
examples =
    (day "20000101", day_is (Some 0))
    ∷ (day "20000229", day_is (Some 59))
    ∷ (day "20010101", day_is (Some 366))
    ∷ (day "20991231", day_is (Some 36524))
    ∷ (day "20010229", day_is None)
    ∷ (day "21000101", day_is None)
    ∷ (two_places "12.5", amount_is (Value (pos 1250)))
    ∷ (two_places "-0", amount_is (Value (pos 0)))
    ∷ (two_places "12.", amount_is Misses)
    ∷ (two_places ".5", amount_is Misses)
    ∷ (two_places "0.005", amount_is Misses)
    ∷ (share "20260101" "20260131" "20260131" "20260227", sharing true)
    ∷ (share "20260101" "20260131" "20260201" "20260227", sharing false)
    ∷ []

pub examples_hold : map (λ (e : Question × Reading). answer e.0) examples ≡ map (λ (e : Question × Reading). e.1) examples
unfolding first_where all_digits followed_by digits_of month_days first_day is_date day_at day_of shares_day is_unsigned is_number units_of amount_of
examples_hold = refl
