-- A loop over the digits at the start of s, which has read i of them.
--     run_digits, run_value    one digit more
--     run_bound                i digits say less than the i-th power of ten
--     no_run                   where none are read
-- Assumes nothing.
use Rattle.std.proofs.Common.{◌≡◌, ℕ, zero, suc, ◌+◌, ◌-◌, ◌*◌, ◌^◌, ◌<◌, ◌≤◌, Bool, true, false, leb, List, [], ◌∷◌, ◌++◌, length, get_or, take, sym, refl, ◌∙◌, subst, add-one, arith, length-take-le, get_or-take, take-suc, le-leb, leb-false, leb-true}
use Rattle.readings.specs.declared.Run.{Run}
use Rattle.readings.specs.InsideLeadingBytes.{DigitsRead, AllRead}
use Rattle.digits.specs.Digits.{is_digit, all_digits, followed_by, number_of}
use Rattle.digits.proofs.Laws.{ten_room, both_true, number_bound}

digits_and_one : (t : List ℕ) (b : ℕ) → all_digits t ≡ true → 48 ≤ b → b ≤ 57 → all_digits (t ++ (b ∷ [])) ≡ true
unfolding all_digits
digits_and_one [] b d l u = simp (le-leb _ _ l, le-leb _ _ u)
digits_and_one (a ∷ t) b d l u =
    let q = both_true (is_digit a) (all_digits t) d in
    simp (q.0, digits_and_one t b q.1 l u)

followed_and_one : (t : List ℕ) (v b : ℕ) → followed_by v (t ++ (b ∷ [])) ≡ followed_by v t * 10 + (b - 48)
unfolding followed_by
followed_and_one [] v b = refl
followed_and_one (a ∷ t) v b = followed_and_one t (v * 10 + (a - 48)) b

module _ (s : List ℕ) (i : ℕ) where
  pub run_digits : i < length s → all_digits (take i s) ≡ true → 48 ≤ get_or s i 0 → get_or s i 0 ≤ 57 → all_digits (take (i + 1) s) ≡ true
  run_digits h d l u = rw (add-one, take-suc s i 0 h) (digits_and_one (take i s) (get_or s i 0) d l u)

  pub run_value : i < length s → number_of (take (i + 1) s) ≡ number_of (take i s) * 10 + (get_or s i 0 - 48)
  run_value h = rw (add-one, take-suc s i 0 h) (followed_and_one (take i s) 0 (get_or s i 0))

  pub run_bound : i ≤ length s → all_digits (take i s) ≡ true → number_of (take i s) < 10 ^ i
  run_bound h d = subst (λ (m : ℕ). number_of (take i s) < 10 ^ m) (length-take-le i s h) (number_bound (take i s) d)

  -- at most 15 digits write a small number
  pub small_run : (value : ℕ) → i ≤ length s → i ≤ 15 → all_digits (take i s) ≡ true → value ≡ number_of (take i s) → value < 10 ^ 15
  small_run value within few digits e = rw e (ten_room i (run_bound within digits) few)

-- a byte among digits is one
pub digit_at : (t : List ℕ) (k : ℕ) → k < length t → all_digits t ≡ true → (48 ≤ get_or t k 0) × (get_or t k 0 ≤ 57)
unfolding all_digits
digit_at [] k h d = absurd (omega arith)
digit_at (b ∷ t) zero h d =
    let q = both_true (leb 48 b) (leb b 57) (both_true (is_digit b) (all_digits t) d).0 in
    (leb-true 48 b q.0, leb-true b 57 q.1)
digit_at (b ∷ t) (suc k) h d = digit_at t k (omega arith) (both_true (is_digit b) (all_digits t) d).1

-- no more digits stand at the start of s, up to 15, than were read
pub run_longest : (s : List ℕ) (r : Run) → AllRead s r → (m : ℕ) → m ≤ length s → m ≤ 15 → all_digits (take m s) ≡ true → m ≤ r.len
run_longest s r a m inside few d = go (leb m r.len) refl
  where
    go : (b : Bool) → leb m r.len ≡ b → m ≤ r.len
    go true e = leb-true m r.len e
    go false e =
        let less : r.len < m = leb-false m r.len e in
        let q = digit_at (take m s) r.len (rw (length-take-le m s inside) less) d in
        let same = get_or-take m s r.len 0 less in
        absurd (a.stops (omega arith) (omega arith) (omega (arith, q.0, same)) (omega (arith, q.1, same)))

-- no digits are the digits of any bytes
pub no_run : (s : List ℕ) (r : Run) → r.len ≡ 0 → r.value ≡ 0 → DigitsRead s r
unfolding all_digits followed_by
no_run s r none nothing =
    record {
      inside = omega (arith, none);
      few = omega (arith, none);
      digits = rw none refl;
      value = nothing ∙ sym (rw none refl);
    }
