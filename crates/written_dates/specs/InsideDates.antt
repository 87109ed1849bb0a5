-- A day as a date, YYYYMMDD.
-- Assumes nothing.
use Rattle.std.specs.Prelude.{ℕ, suc, ◌+◌, ◌*◌, ◌≤◌, ◌<◌, List}
use Rattle.calendar.specs.Calendar.{first_day}
use Rattle.calendar.specs.InsideDates.{Date, date_after}
use Rattle.writing.specs.Decimals.{digits_in}

abbrev pub date_number : Date → ℕ
date_number a = a.year * 10000 + a.month * 100 + a.day

-- the date of a day, as one number
unfoldable pub date_number_of : ℕ → ℕ
date_number_of day = date_number (date_after day)

unfoldable pub date_digits : ℕ → List ℕ
date_digits day = digits_in 8 (date_number_of day)

-- the day is one of the month k, counted from January 2000
pub record InMonth (k day : ℕ) : Type 0 where
  pub month : k < 1200
  pub low : first_day k ≤ day
  pub high : day < first_day (suc k)
