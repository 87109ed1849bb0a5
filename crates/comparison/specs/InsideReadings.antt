-- What the comparison tests get of each reading: a number, 0 where the bytes were read and 3 where they miss their type,
-- and what stands behind each reference afterwards, which a miss leaves as it was.
-- Assumes nothing.
use Rattle.std.specs.Prelude.{ℕ, List, Bool, cond, eqb, Option, Some, None}
use Rattle.digits.specs.Digits.{digits_of, fixed_digits_of}
use Rattle.calendar.specs.declared.Moment.{Moment}
use Rattle.calendar.specs.Periods.{shares_day}

-- 1 for what holds, and 0
abbrev pub flag : Bool → ℕ
flag b = cond b 1 0

-- ---- digits: just n of them, or 1 to 15 where n is 0
abbrev pub digits_for : ℕ → List ℕ → Option ℕ
digits_for n s = cond (eqb n 0) (digits_of s) (fixed_digits_of n s)

abbrev pub digits_number : Option ℕ → ℕ
digits_number (Some v) = 0
digits_number None = 3

abbrev pub value_after : ℕ → Option ℕ → ℕ
value_after before (Some v) = v
value_after before None = before

-- ---- a date time
abbrev pub date_time_number : Option Moment → ℕ
date_time_number (Some m) = 0
date_time_number None = 3

abbrev pub day_after : ℕ → Option Moment → ℕ
day_after before (Some m) = m.day
day_after before None = before

abbrev pub second_after : ℕ → Option Moment → ℕ
second_after before (Some m) = m.second
second_after before None = before

-- ---- two periods, given by their start and end days
abbrev pub shares_day_of : ℕ → ℕ → ℕ → ℕ → Bool
shares_day_of start1 end1 start2 end2 = shares_day (record { start = start1; end = end1 }) (record { start = start2; end = end2 })
