-- The calendar of the years 2000 to 2099. Document 01, "The file": "A date is eight digits, YYYYMMDD, years 2000 to 2099. Day 0 is 20000101."
-- Months are counted from January 2000, which is 0, and days from 1 January 2000, which is 0.
-- Assumes nothing.
use Rattle.std.specs.Prelude.{ℕ, zero, suc, ◌+◌, ◌-◌, ◌*◌, ◌/◌, ◌%◌, List, Bool, cond, ◌&&◌, ◌||◌, not, length, take, drop, eqb, leb}
use Rattle.digits.specs.Digits.{digits_of}
use Rattle.std.specs.Prelude.{Option, Some, None}
use Rattle.calendar.specs.declared.Moment.{Moment}

-- ---- leap years and lengths of months
abbrev pub leap_year : ℕ → Bool
leap_year y = eqb (y % 400) 0 || (not (eqb (y % 100) 0) && eqb (y % 4) 0)

-- the days of month m (0 is January) of year y
abbrev pub days_in : ℕ → ℕ → ℕ
days_in y m = cond (eqb m 1) (cond (leap_year y) 29 28) (cond (eqb m 3 || eqb m 5 || eqb m 8 || eqb m 10) 30 31)

unfoldable pub month_days : ℕ → ℕ
month_days k = days_in (2000 + k / 12) (k % 12)

-- "The day number of the first of each of these 1,200 months is a table": its rule, the days of the months before
unfoldable pub first_day : ℕ → ℕ
first_day zero = 0
first_day (suc k) = first_day k + month_days k

-- ---- dates
-- the month that a year and a month of 1 to 12 name
abbrev pub month_of : ℕ → ℕ → ℕ
month_of y m = (y - 2000) * 12 + (m - 1)

-- "years 2000 to 2099": a month of 1 to 12, and a day of that month
unfoldable pub is_date : ℕ → ℕ → ℕ → Bool
is_date y m d = leb 2000 y && leb y 2099 && leb 1 m && leb m 12 && leb 1 d && leb d (month_days (month_of y m))

unfoldable pub day_at : ℕ → ℕ → ℕ → Option ℕ
day_at y m d = cond (is_date y m d) (Some (first_day (month_of y m) + (d - 1))) None

-- the digits YYYYMMDD read as one number
abbrev pub date_day : ℕ → Option ℕ
date_day n = day_at (n / 10000) (n / 100 % 100) (n % 100)

abbrev pub number_day : Option ℕ → Option ℕ
number_day (Some n) = date_day n
number_day None = None

-- "A date is eight digits"
unfoldable pub day_of : List ℕ → Option ℕ
day_of s = cond (eqb (length s) 8) (number_day (digits_of s)) None

-- ---- date times: "a date and six digits HHMMSS (000000 to 235959)"
-- the second of the day, the digits HHMMSS read as one number
abbrev pub is_time : ℕ → Bool
is_time n = leb (n / 10000) 23 && leb (n / 100 % 100) 59 && leb (n % 100) 59

abbrev pub second_of : ℕ → ℕ
second_of n = n / 10000 * 3600 + n / 100 % 100 * 60 + n % 100

abbrev pub moment : ℕ → ℕ → Moment
moment day second = record { day = day; second = second }

abbrev pub at_time : ℕ → Option ℕ → Option Moment
at_time day (Some n) = cond (is_time n) (Some (moment day (second_of n))) None
at_time day None = None

abbrev pub on_day : Option ℕ → Option ℕ → Option Moment
on_day (Some day) time = at_time day time
on_day None time = None

unfoldable pub date_time_of : List ℕ → Option Moment
date_time_of s = cond (eqb (length s) 14) (on_day (day_of (take 8 s)) (digits_of (drop 8 s))) None
