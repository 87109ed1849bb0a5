-- The day numbers of dates: the dates of 2000 to 2099, in order, have the numbers 0, 1, .. 36,524, each once.
--     first_date, last_date         1 January 2000 is day 0, and 31 December 2099 day 36,524
--     next_day                      the date after has the next number
--     date_number_lem                   the date n days after 1 January 2000 has the number n
--     each_once                     a date has the number n just where it is that date, and n is at most 36,524
--     date_is, date_is_not          the day number of a date, and the answer for what is none
--     day_bound, date_time_bound    how large what is read can be
--     date_time_digits              a date time is 14 digits
-- Assumes nothing.
use mathlib.Core.Path.{◌≡◌, refl, sym, ◌∙◌, ap}
use mathlib.Core.Logic.{◌↔◌}
use mathlib.Core.List.{List}
use mathlib.Core.Bool.{Bool, true, false, cond, ◌&&◌, and-eq-true_iff}
use Prim.Native.Nat.{ℕ, zero, suc, ◌+◌, ◌-◌, ◌/◌, ◌%◌, ◌≤◌, ◌<◌}
use native.Mathlib.Numerals.{add-one}
use native.Mathlib.Omega.{arith}
use borrow.Author.Tests.{le-leb, leb-true, ltb-true, ltb-false, eqb-true}
use lib.Dec.{leb, ltb, eqb}
use lib.ListN.{length, take, drop, take-append-drop}
use Rattle.std.specs.Prelude.{Option, Some, None}
use Rattle.std.proofs.lemmas.Option.{same_Some}
use Rattle.calendar.specs.declared.Moment.{Moment}
use Rattle.calendar.specs.Calendar.{moment}
use Rattle.digits.specs.Digits.{all_digits, digits_of}
use Rattle.digits.proofs.Laws.{all_append, digits_say}
use Rattle.calendar.specs.Calendar.{days_in, month_days, first_day, month_of, is_date, day_at, number_day, day_of, is_time, second_of, on_day, date_time_of}
use Rattle.calendar.specs.InsideDates.{Date, date, day_of_date, next_date, date_after}
use Rattle.calendar.proofs.Days.{first_order, before_end, month_bounds}

pub first_date : day_at 2000 1 1 ≡ Some 0
unfolding day_at is_date first_day month_days
first_date = refl

pub last_date : day_at 2099 12 31 ≡ Some 36524
unfolding day_at is_date first_day month_days
last_date = refl

-- ---- what a day number says of a date
pub record Dated (y m d : ℕ) : Type 0 where
  pub year_low : 2000 ≤ y
  pub year_high : y ≤ 2099
  pub month_low : 1 ≤ m
  pub month_high : m ≤ 12
  pub day_low : 1 ≤ d
  pub day_high : d ≤ month_days (month_of y m)

pub date_is : (y m d : ℕ) → Dated y m d → day_at y m d ≡ Some (first_day (month_of y m) + (d - 1))
unfolding day_at is_date
date_is y m d h =
    simp (
      le-leb _ _ h.year_low,
      le-leb _ _ h.year_high,
      le-leb _ _ h.month_low,
      le-leb _ _ h.month_high,
      le-leb _ _ h.day_low,
      le-leb _ _ h.day_high,
    )

is_dated : (y m d : ℕ) → is_date y m d ≡ true → Dated y m d
unfolding is_date
is_dated y m d e =
    let year = leb 2000 y && leb y 2099 in
    let month = year && leb 1 m && leb m 12 in
    let t5 = (and-eq-true_iff (month && leb 1 d) (leb d (month_days (month_of y m)))).0 e in
    let t4 = (and-eq-true_iff month (leb 1 d)).0 t5.0 in
    let t3 = (and-eq-true_iff (year && leb 1 m) (leb m 12)).0 t4.0 in
    let t2 = (and-eq-true_iff year (leb 1 m)).0 t3.0 in
    let t1 = (and-eq-true_iff (leb 2000 y) (leb y 2099)).0 t2.0 in
    record {
      year_low = leb-true _ _ t1.0;
      year_high = leb-true _ _ t1.1;
      month_low = leb-true _ _ t2.1;
      month_high = leb-true _ _ t3.1;
      day_low = leb-true _ _ t4.1;
      day_high = leb-true _ _ t5.1;
    }

pub date_is_not : (y m d : ℕ) → (Dated y m d → ⊥) → day_at y m d ≡ None
unfolding day_at
date_is_not y m d h = go (is_date y m d) refl
  where
    go : (t : Bool) → is_date y m d ≡ t → cond t (Some (first_day (month_of y m) + (d - 1))) None ≡ None
    go true i = absurd (h (is_dated y m d i))
    go false i = refl

no_date : {n : ℕ} → None ≡ Some n → ⊥
no_date e = let z : ◌≡◌ {A = ℕ} 0 1 = cc in omega arith

pub date_says : (y m d n : ℕ) → day_at y m d ≡ Some n → Dated y m d × (first_day (month_of y m) + (d - 1) ≡ n)
unfolding day_at
date_says y m d n e = go (is_date y m d) refl e
  where
    go : (t : Bool) → is_date y m d ≡ t → cond t (Some (first_day (month_of y m) + (d - 1))) None ≡ Some n
        → Dated y m d × (first_day (month_of y m) + (d - 1) ≡ n)
    go true i e = (is_dated y m d i, cc)
    go false i e = absurd (no_date e)

pub date_bound : (y m d n : ℕ) → day_at y m d ≡ Some n → n ≤ 36524
unfolding first_day month_days
date_bound y m d n e =
    let t = date_says y m d n e in
    let g = t.0 in
    let month_end : first_day (suc (month_of y m)) ≤ 36525 = first_order (suc (month_of y m)) 1200 (omega arith) in
    omega arith

-- ---- the date after
-- the days of a month, by its year and its number
month_length : (y m : ℕ) → 2000 ≤ y → 1 ≤ m → m ≤ 12 → month_days (month_of y m) ≡ days_in y (m - 1)
unfolding month_days
month_length y m h l u =
    let year : 2000 + month_of y m / 12 ≡ y = omega arith in
    let month : month_of y m % 12 ≡ m - 1 = omega arith in
    rw (year, month)

-- the first of the next month, after the last day of a month
month_after : (y m d next-y next-m : ℕ) → Dated y m d → month_days (month_of y m) ≤ d → Dated next-y next-m 1 → month_of next-y next-m ≡ suc (month_of y m)
    → day_at next-y next-m 1 ≡ Some (first_day (month_of y m) + (d - 1) + 1)
unfolding first_day
month_after y m d next-y next-m g last next e = date_is next-y next-m 1 next ∙ ap Some (omega (arith, ap first_day e))

next_is : (y m d : ℕ) → Dated y m d → first_day (month_of y m) + (d - 1) < 36524 → (in-month in-year : Bool) → ltb d (days_in y (m - 1)) ≡ in-month → ltb m 12 ≡ in-year
    → day_of_date (cond in-month (date y m (d + 1)) (cond in-year (date y (m + 1) 1) (date (y + 1) 1 1))) ≡ Some (first_day (month_of y m) + (d - 1) + 1)
unfolding first_day
next_is y m d g h true in-year p q =
    let long = month_length y m g.year_low g.month_low g.month_high in
    let more : d < month_days (month_of y m) = omega (arith, ltb-true d (days_in y (m - 1)) p) in
    date_is y m (d + 1) (omega arith) ∙ ap Some (omega arith)
next_is y m d g h false true p q =
    let long = month_length y m g.year_low g.month_low g.month_high in
    let last : month_days (month_of y m) ≤ d = omega (arith, ltb-false d (days_in y (m - 1)) p) in
    month_after y m d y (m + 1) g last (omega (arith, ltb-true m 12 q, (month_bounds (month_of y (m + 1))).0)) (omega arith)
next_is y m d g h false false p q =
    let long = month_length y m g.year_low g.month_low g.month_high in
    let last : month_days (month_of y m) ≤ d = omega (arith, ltb-false d (days_in y (m - 1)) p) in
    let december : 12 ≤ m = ltb-false m 12 q in
    let more : suc (month_of y m) < 1200 = before_end (suc (month_of y m)) (omega arith) in
    month_after y m d (y + 1) 1 g last (omega (arith, (month_bounds (month_of (y + 1) 1)).0)) (omega arith)

pub next_day : (a : Date) (n : ℕ) → day_of_date a ≡ Some n → n < 36524 → day_of_date (next_date a) ≡ Some (n + 1)
unfolding next_date
next_day a n e h =
    let t = date_says a.year a.month a.day n e in
    next_is a.year a.month a.day t.0 (omega arith) (ltb a.day (days_in a.year (a.month - 1))) (ltb a.month 12) refl refl
    ∙ ap (λ (k : ℕ). Some (k + 1)) t.1

-- ---- each number once
pub date_number_lem : (n : ℕ) → n ≤ 36524 → day_of_date (date_after n) ≡ Some n
unfolding date_after
date_number_lem zero h = first_date
date_number_lem (suc n) h = next_day (date_after n) n (date_number_lem n (omega arith)) (omega arith) ∙ ap Some (add-one n)

-- days of two months have one number: no month is the earlier one
not_before : (j k d c : ℕ) → d ≤ month_days j → first_day j + (d - 1) ≡ first_day k + (c - 1) → 1 ≤ d → j < k → ⊥
unfolding first_day
not_before j k d c h e l b = omega (arith, first_order (suc j) k b)

same_month : (j k d c : ℕ) → 1 ≤ d → d ≤ month_days j → 1 ≤ c → c ≤ month_days k → first_day j + (d - 1) ≡ first_day k + (c - 1) → j ≡ k
same_month j k d c dl dh cl ch e = go (ltb j k) (ltb k j) refl refl
  where
    go : (t u : Bool) → ltb j k ≡ t → ltb k j ≡ u → j ≡ k
    go true u p q = absurd (not_before j k d c dh e dl (ltb-true j k p))
    go false true p q = absurd (not_before k j c d ch (sym e) cl (ltb-true k j q))
    go false false p q = omega (arith, ltb-false j k p, ltb-false k j q)

pub one_date : (a b : Date) (n : ℕ) → day_of_date a ≡ Some n → day_of_date b ≡ Some n → a ≡ b
one_date a b n p q =
    let s = date_says a.year a.month a.day n p in
    let t = date_says b.year b.month b.day n q in
    let g = s.0 in
    let h = t.0 in
    let month : month_of a.year a.month ≡ month_of b.year b.month = same_month _ _ a.day b.day g.day_low g.day_high h.day_low h.day_high (s.1 ∙ sym t.1) in
    let year : a.year ≡ b.year = omega arith in
    let month_of_year : a.month ≡ b.month = omega arith in
    let day : a.day ≡ b.day = omega (arith, ap first_day month) in
    λ i. record { year = year i; month = month_of_year i; day = day i }

pub each_once : (a : Date) (n : ℕ) → (day_of_date a ≡ Some n) ↔ ((a ≡ date_after n) × (n ≤ 36524))
each_once a n = (
  λ e. let h = date_bound a.year a.month a.day n e in (one_date a (date_after n) n e (date_number_lem n h), h),
  λ w. ap day_of_date w.0 ∙ date_number_lem n w.1,
)

-- ---- how large what is read can be
pub day_bound : (s : List ℕ) (n : ℕ) → day_of s ≡ Some n → n ≤ 36524
unfolding day_of
day_bound s n e = go (eqb (length s) 8) (digits_of s) e
  where
    go : (t : Bool) (v : Option ℕ) → cond t (number_day v) None ≡ Some n → n ≤ 36524
    go true (Some v) e = date_bound (v / 10000) (v / 100 % 100) (v % 100) n e
    go true None e = absurd (no_date e)
    go false v e = absurd (no_date e)

time_bound : (n : ℕ) → is_time n ≡ true → second_of n < 86400
time_bound n e =
    let t2 = (and-eq-true_iff (leb (n / 10000) 23 && leb (n / 100 % 100) 59) (leb (n % 100) 59)).0 e in
    let t1 = (and-eq-true_iff (leb (n / 10000) 23) (leb (n / 100 % 100) 59)).0 t2.0 in
    let hour = leb-true (n / 10000) 23 t1.0 in
    let minute = leb-true (n / 100 % 100) 59 t1.1 in
    let second = leb-true (n % 100) 59 t2.1 in
    omega arith

no_date_time : {d t : ℕ} → None ≡ Some (moment d t) → ⊥
no_date_time e = let z : ◌≡◌ {A = ℕ} 0 1 = cc in omega arith

pub date_time_bound : (s : List ℕ) (d t : ℕ) → date_time_of s ≡ Some (moment d t) → (d ≤ 36524) × (t < 86400)
unfolding date_time_of
date_time_bound s d t e = go (eqb (length s) 14) (day_of (take 8 s)) (digits_of (drop 8 s)) refl e
  where
    at : (k n : ℕ) (b : Bool) → is_time n ≡ b → cond b (Some (moment k (second_of n))) None ≡ Some (moment d t) → day_of (take 8 s) ≡ Some k → (d ≤ 36524) × (t < 86400)
    at k n true i e a =
        let same = same_Some (moment k (second_of n)) (moment d t) e in
        let day : k ≡ d = ap (λ (m : Moment). m.day) same in
        let second : second_of n ≡ t = ap (λ (m : Moment). m.second) same in
        (omega (arith, day_bound (take 8 s) k a), omega (arith, time_bound n i))
    at k n false i e a = absurd (no_date_time e)

    go : (w : Bool) (a : Option ℕ) (v : Option ℕ) → day_of (take 8 s) ≡ a → cond w (on_day a v) None ≡ Some (moment d t) → (d ≤ 36524) × (t < 86400)
    go true (Some k) (Some n) a e = at k n (is_time n) refl e a
    go true (Some k) None a e = absurd (no_date_time e)
    go true None v a e = absurd (no_date_time e)
    go false a v p e = absurd (no_date_time e)

-- ---- which bytes are read
day_digits : (s : List ℕ) (n : ℕ) → day_of s ≡ Some n → all_digits s ≡ true
unfolding day_of
day_digits s n e = go (eqb (length s) 8) (digits_of s) refl e
  where
    go : (w : Bool) (v : Option ℕ) → digits_of s ≡ v → cond w (number_day v) None ≡ Some n → all_digits s ≡ true
    go true (Some v) q e = (digits_say s v q).digits
    go true None q e = absurd (no_date e)
    go false v q e = absurd (no_date e)

pub date_time_digits : (s : List ℕ) (d t : ℕ) → date_time_of s ≡ Some (moment d t) → (length s ≡ 14) × (all_digits s ≡ true)
unfolding date_time_of
date_time_digits s d t e = go (eqb (length s) 14) (day_of (take 8 s)) (digits_of (drop 8 s)) refl refl refl e
  where
    go : (w : Bool) (a : Option ℕ) (v : Option ℕ) → eqb (length s) 14 ≡ w → day_of (take 8 s) ≡ a → digits_of (drop 8 s) ≡ v → cond w (on_day a v) None ≡ Some (moment d t)
        → (length s ≡ 14) × (all_digits s ≡ true)
    go true (Some k) (Some n) l a v e = (
      eqb-true (length s) 14 l,
      ap all_digits (sym (take-append-drop 8 s)) ∙ all_append (take 8 s) (drop 8 s) ∙ simp (day_digits (take 8 s) k a, (digits_say (drop 8 s) n v).digits),
    )
    go true (Some k) None l a v e = absurd (no_date_time e)
    go true None v l a q e = absurd (no_date_time e)
    go false a v l p q e = absurd (no_date_time e)
