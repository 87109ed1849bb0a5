-- Laws of days as dates.
--     month_guess         a month of the number day / 31 does not start after the day
--     in_this, in_last    where the search for the month of a day ends
--     month_number        the date of a day of a month, as one number
--     read_date           a date that was written is read as its day
-- Assumes nothing.
use mathlib.Core.Path.{◌≡◌, refl, ◌∙◌, ap, subst}
use mathlib.Core.List.{List}
use mathlib.Core.Bool.{Bool, true, false, cond}
use Prim.Native.Nat.{ℕ, zero, suc, ◌+◌, ◌-◌, ◌*◌, ◌/◌, ◌%◌, ◌≤◌, ◌<◌}
use native.Mathlib.Numerals.{add-one}
use native.Mathlib.Omega.{arith}
use lib.Dec.{eqb}
use lib.ListN.{length}
use Rattle.digits.specs.Digits.{digits_of, fixed_digits_of}
use Rattle.std.specs.Prelude.{Option, Some, None}
use Rattle.calendar.specs.Calendar.{month_days, first_day, month_of, number_day, day_of}
use Rattle.calendar.specs.InsideDates.{date, date_after}
use Rattle.calendar.proofs.Days.{first_order, month_bounds}
use Rattle.calendar.proofs.Dates.{date_is, date_says, date_number_lem, one_date}
use Rattle.writing.proofs.ReadBack.{read_fixed}
use Rattle.written_dates.specs.InsideDates.{date_number, date_number_of, date_digits, InMonth}

first_few : (k : ℕ) → first_day k ≤ 31 * k
unfolding first_day
first_few zero = omega arith
first_few (suc k) = omega (arith, first_few k, (month_bounds k).1)

-- ---- the search for the month of a day
pub month_guess : (day : ℕ) → first_day (day / 31) ≤ day
month_guess day = omega (arith, first_few (day / 31))

pub in_this : (k day next : ℕ) → k < 1199 → first_day k ≤ day → day < next → next ≡ first_day (k + 1) → InMonth k day
in_this k day next s l h e = record { month = omega arith; low = l; high = subst (λ (d : ℕ). day < d) (e ∙ ap first_day (add-one k)) h }

pub in_last : (k day : ℕ) → k ≡ 1199 → first_day k ≤ day → day ≤ 36524 → InMonth 1199 day
unfolding first_day month_days
in_last k day e l h =
    let end : first_day (suc 1199) ≡ 36525 = refl in
    record { month = omega arith; low = subst (λ (j : ℕ). first_day j ≤ day) e l; high = omega arith }

-- ---- the date of a day
month_end : (k : ℕ) → k < 1200 → first_day (suc k) ≤ 36525
unfolding first_day month_days
month_end k h = first_order (suc k) 1200 h

module _ (k day : ℕ) (h : InMonth k day) where
  month_date : date_after day ≡ date (2000 + k / 12) (k % 12 + 1) (day - first_day k + 1)
  unfolding first_day
  month_date =
      let place : month_of (2000 + k / 12) (k % 12 + 1) ≡ k = omega arith in
      let low = h.low in
      let high = h.high in
      let end = month_end k h.month in
      let size : month_days (month_of (2000 + k / 12) (k % 12 + 1)) ≡ month_days k = ap month_days place in
      let start : first_day (month_of (2000 + k / 12) (k % 12 + 1)) ≡ first_day k = ap first_day place in
      one_date (date_after day) (date (2000 + k / 12) (k % 12 + 1) (day - first_day k + 1)) day
      (date_number_lem day (omega arith))
      (date_is _ _ _ (omega (arith, h.month)) ∙ ap Some (omega arith))

  pub month_number : date_number_of day ≡ (2000 + k / 12) * 10000 + (k % 12 + 1) * 100 + (day - first_day k + 1)
  unfolding date_number_of
  month_number = ap date_number month_date

-- ---- what is read of a date that was written
-- a date is read of just eight digits
fixed_day : (s : List ℕ) → day_of s ≡ number_day (fixed_digits_of 8 s)
unfolding day_of fixed_digits_of
fixed_day s = go (eqb (length s) 8) (digits_of s)
  where
    go : (b : Bool) (n : Option ℕ) → cond b (number_day n) None ≡ number_day (cond b n None)
    go true n = refl
    go false n = refl

pub read_date : (day : ℕ) → day ≤ 36524 → day_of (date_digits day) ≡ Some day
unfolding date_digits date_number_of
read_date day h =
    let a = date_after day in
    let g = (date_says a.year a.month a.day day (date_number_lem day h)).0 in
    let few : a.day ≤ 31 = omega (arith, g.day_high, (month_bounds (month_of a.year a.month)).1) in
    let n = date_number a in
    let year : n / 10000 ≡ a.year = omega arith in
    let month : n / 100 % 100 ≡ a.month = omega arith in
    let of_month : n % 100 ≡ a.day = omega arith in
    fixed_day (date_digits day) ∙ ap number_day (read_fixed 8 n (omega arith) (omega arith) (omega arith)) ∙ rw (year, month, of_month) (date_number_lem day h)
