-- The first days of the months: the table is the list that the rule makes, and later months start later.
--     table_length    the table has 1,200 entries
--     rule            an entry of the table is the rule's day
--     first_order     later months start later
--     bound           the last of the 1,200 months starts on day 36,494
--     before_end      a month that starts before day 36,525 is one of the 1,200
-- Assumes nothing.
use mathlib.Core.Path.{◌≡◌, refl, sym, ◌∙◌, ap, subst}
use mathlib.Core.Bool.{Bool, true, false, cond, ◌||◌}
use Prim.Native.Nat.{ℕ, zero, suc, ◌+◌, ◌-◌, ◌/◌, ◌%◌, ◌≤◌, ◌<◌}
use native.Mathlib.Nat.{zero-add, add-zero, add-suc, suc-add, le_refl, le_of_suc-le-suc}
use native.Mathlib.Omega.{arith}
use borrow.Author.Tests.{ltb-true, ltb-false}
use lib.Dec.{ltb, eqb}
use lib.ListN.{length, get_or}
use Rattle.calendar.specs.Calendar.{leap_year, month_days, first_day}
use Rattle.calendar.specs.InsideFirstDays.{days_from, first_days}

entry : (n i k : ℕ) → k < n → get_or (days_from n i (first_day i)) k 0 ≡ first_day (i + k)
unfolding days_from first_day
entry zero i k h = absurd (omega arith)
entry (suc n) i zero h = rw add-zero
entry (suc n) i (suc k) h = entry n (suc i) k (le_of_suc-le-suc h) ∙ ap first_day (suc-add i k ∙ sym (add-suc i k))

size : (n i day : ℕ) → length (days_from n i day) ≡ n
unfolding days_from
size zero i day = refl
size (suc n) i day = ap suc (size n (suc i) (day + month_days i))

-- its 1,200 entries
pub table_length : length first_days ≡ 1200
unfolding first_days
table_length = size 1200 0 0

pub rule : (k : ℕ) → k < 1200 → get_or first_days k 0 ≡ first_day k
unfolding first_days first_day
rule k h = entry 1200 0 k h ∙ ap first_day (zero-add k)

months_on : (i k : ℕ) → first_day i ≤ first_day (i + k)
unfolding first_day
months_on i zero = rw add-zero (le_refl _)
months_on i (suc k) = rw add-suc (omega (arith, months_on i k))

pub first_order : (i j : ℕ) → i ≤ j → first_day i ≤ first_day j
first_order i j h = subst (λ (m : ℕ). first_day i ≤ first_day m) same (months_on i (j - i))
  where
    same : i + (j - i) ≡ j
    same = omega arith

pub bound : (k : ℕ) → k < 1200 → first_day k ≤ 36494
unfolding first_day month_days
bound k h = first_order k 1199 (omega arith)

pub before_end : (k : ℕ) → first_day k < 36525 → k < 1200
unfolding first_day month_days
before_end k h = go (ltb k 1200) refl
  where
    go : (t : Bool) → ltb k 1200 ≡ t → k < 1200
    go true e = ltb-true k 1200 e
    go false e = absurd (omega (arith, first_order 1200 k (ltb-false k 1200 e)))

-- each month has a day, and none more than 31
length_bounds : (february leap short : Bool) → let n : ℕ = cond february (cond leap 29 28) (cond short 30 31) in (1 ≤ n) × (n ≤ 31)
length_bounds true true short = (omega arith, omega arith)
length_bounds true false short = (omega arith, omega arith)
length_bounds false leap true = (omega arith, omega arith)
length_bounds false leap false = (omega arith, omega arith)

pub month_bounds : (k : ℕ) → (1 ≤ month_days k) × (month_days k ≤ 31)
unfolding month_days
month_bounds k = let m = k % 12 in length_bounds (eqb m 1) (leap_year (2000 + k / 12)) (eqb m 3 || eqb m 5 || eqb m 8 || eqb m 10)
