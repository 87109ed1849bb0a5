-- The dates of the calendar, one after the other. That those from 1 January 2000 on have the day numbers 0, 1, 2 and so on is a law (proofs/Dates); a date that is
-- written (crate written_dates) is one of them.
-- Assumes nothing.
use Rattle.std.specs.Prelude.{ℕ, zero, suc, ◌+◌, ◌-◌, cond, ltb}
use Rattle.std.specs.Prelude.{Option}
use Rattle.calendar.specs.Calendar.{days_in, day_at}

-- a year, a month (1 is January) and a day of the month (1 is the first)
pub record Date : Type 0 where
  pub year : ℕ
  pub month : ℕ
  pub day : ℕ

abbrev pub date : ℕ → ℕ → ℕ → Date
date y m d = record { year = y; month = m; day = d }

-- the day number of a date
abbrev pub day_of_date : Date → Option ℕ
day_of_date a = day_at a.year a.month a.day

-- the date after: the next day of the month, or else the first of the next month, or else 1 January of the next year
unfoldable pub next_date : Date → Date
next_date a =
    cond (ltb a.day (days_in a.year (a.month - 1)))
    (date a.year a.month (a.day + 1))
    (cond (ltb a.month 12) (date a.year (a.month + 1) 1) (date (a.year + 1) 1 1))

-- the date n days after 1 January 2000
unfoldable pub date_after : ℕ → Date
date_after zero = date 2000 1 1
date_after (suc n) = next_date (date_after n)
