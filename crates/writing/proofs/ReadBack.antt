-- What is read of numbers that were written, and written of numbers that were read.
--     digits_in_all, digits_in_number, plain_all, plain_number    what is written is digits, which say the number
--     plain_some, plain_few, plain_first    how many digits a number has without leading zeros, and that it has none
--     read_fixed, read_plain       what is read of a number that was written
--     digits_again, plain_again    digits written of the number that they say are those digits
-- Assumes nothing.
use mathlib.Core.Path.{◌≡◌, refl, sym, ◌∙◌, ap, ap₂}
use mathlib.Core.List.{List, [], ◌∷◌, ◌++◌, append_assoc, append-nil}
use mathlib.Core.Bool.{Bool, true, false, cond}
use Prim.Native.Nat.{ℕ, zero, suc, ◌+◌, ◌-◌, ◌*◌, ◌/◌, ◌%◌, ◌^◌, ◌≤◌, ◌<◌}
use native.Mathlib.Nat.{add-zero, suc-add, zero-add, mul_assoc, mul-le-mul_right, pow-suc, pow-succ', pow-le-pow_right}
use native.Mathlib.Decide.{dec_lt, dec_le}
use native.Mathlib.Omega.{arith}
use borrow.Author.Tests.{le-leb, lt-ltb, ltb-true, leb-true, eq-eqb}
use lib.Dec.{lit<, leb, ltb}
use lib.ListN.{length, get_or}
use Rattle.digits.specs.Digits.{is_digit, all_digits, followed_by, number_of, digits_of, fixed_digits_of}
use Rattle.std.specs.Prelude.{Some}
use Rattle.digits.proofs.Laws.{all_append, both_true, digits_are, number_bound, ten_room, number_leading_zero}
use Rattle.writing.specs.Decimals.{digits_in, count_up_to, digit_count, plain_digits}
use Rattle.writing.proofs.Numbers.{digits_in_length, plain_length}

-- ---- digits followed by digits
followed_append : (v : ℕ) (xs ys : List ℕ) → followed_by v (xs ++ ys) ≡ followed_by (followed_by v xs) ys
unfolding followed_by
followed_append v [] ys = refl
followed_append v (x ∷ xs) ys = followed_append (v * 10 + (x - 48)) xs ys

-- ---- the last w digits
pub digits_in_all : (w n : ℕ) → all_digits (digits_in w n) ≡ true
unfolding digits_in all_digits
digits_in_all zero n = refl
digits_in_all (suc w) n =
    all_append (digits_in w (n / 10)) ((48 + n % 10) ∷ [])
    ∙ simp (digits_in_all w (n / 10), le-leb 48 (48 + n % 10) (omega arith), le-leb (48 + n % 10) 57 (omega arith))

pub digits_in_number : (w n : ℕ) → n < 10 ^ w → number_of (digits_in w n) ≡ n
unfolding digits_in followed_by
digits_in_number zero n h = omega arith
digits_in_number (suc w) n h =
    let less : n / 10 < 10 ^ w = omega (arith, pow-suc 10 w) in
    followed_append 0 (digits_in w (n / 10)) ((48 + n % 10) ∷ [])
    ∙ rw (digits_in_number w (n / 10) less) (omega arith)

-- ---- how many digits
count_low : (f n : ℕ) → 1 ≤ count_up_to f n
unfolding count_up_to
count_low zero n = omega arith
count_low (suc f) n = go (ltb n 10)
  where
    go : (b : Bool) → 1 ≤ cond b 1 (suc (count_up_to f (n / 10)))
    go true = omega arith
    go false = omega arith

count_holds : (f n : ℕ) → n < 10 ^ (f + 1) → n < 10 ^ count_up_to f n
unfolding count_up_to
count_holds zero n h = omega arith
count_holds (suc f) n h = go (ltb n 10) refl (count_holds f (n / 10))
  where
    go : (b : Bool) → ltb n 10 ≡ b → (n / 10 < 10 ^ (f + 1) → n / 10 < 10 ^ count_up_to f (n / 10)) → n < 10 ^ cond b 1 (suc (count_up_to f (n / 10)))
    go true e rest = omega (arith, ltb-true n 10 e)
    go false e rest =
        let more : 10 ^ (suc f + 1) ≡ 10 ^ (f + 1) * 10 = ap (λ (k : ℕ). 10 ^ k) (suc-add f 1) ∙ pow-suc 10 (f + 1) in
        rw pow-suc (omega (arith, rest (omega arith)))

count_high : (f n w : ℕ) → 1 ≤ w → n < 10 ^ w → count_up_to f n ≤ w
unfolding count_up_to
count_high zero n w l h = l
count_high (suc f) n zero l h = absurd (omega arith)
count_high (suc f) n (suc zero) l h = rw (lt-ltb n 10 (omega arith)) (omega arith)
count_high (suc f) n (suc (suc w)) l h = go (ltb n 10) (count_high f (n / 10) (suc w) (omega arith))
  where
    go : (b : Bool) → (n / 10 < 10 ^ suc w → count_up_to f (n / 10) ≤ suc w) → cond b 1 (suc (count_up_to f (n / 10))) ≤ suc (suc w)
    go true rest = omega arith
    go false rest = omega (arith, rest (omega (arith, pow-suc 10 (suc w))))

-- ---- without leading zeros
module _ (n : ℕ) where
  pub plain_some : 1 ≤ length (plain_digits n)
  unfolding digit_count
  plain_some = rw plain_length (count_low 19 n)

  pub plain_few : (w : ℕ) → 1 ≤ w → n < 10 ^ w → length (plain_digits n) ≤ w
  unfolding digit_count
  plain_few w l h = rw plain_length (count_high 19 n w l h)

  pub plain_all : all_digits (plain_digits n) ≡ true
  unfolding plain_digits
  plain_all = digits_in_all (digit_count n) n

  pub plain_number : n < 10 ^ 20 → number_of (plain_digits n) ≡ n
  unfolding plain_digits digit_count
  plain_number h = digits_in_number (digit_count n) n (count_holds 19 n h)

  -- more than one digit doesn't begin with 0: the others alone would say the number
  pub plain_first : n < 10 ^ 20 → 1 < length (plain_digits n) → get_or (plain_digits n) 0 0 ≡ 48 → ⊥
  unfolding all_digits
  plain_first h l z = go (plain_digits n) refl l z
    where
      go : (s : List ℕ) → plain_digits n ≡ s → 1 < length s → get_or s 0 0 ≡ 48 → ⊥
      go [] e l z = omega arith
      go (b ∷ t) e l z =
          let digits = (both_true (is_digit b) (all_digits t) (ap all_digits (sym e) ∙ plain_all)).1 in
          let same : n ≡ number_of t = sym (plain_number h) ∙ ap number_of (e ∙ ap (λ (x : ℕ). x ∷ t) z) ∙ number_leading_zero t in
          omega (arith, plain_few (length t) (omega arith) (omega (arith, number_bound t digits)), ap length e)

-- ---- what is read of what was written
-- an ID with all its digits
pub read_fixed : (w n : ℕ) → 1 ≤ w → w ≤ 15 → n < 10 ^ w → fixed_digits_of w (digits_in w n) ≡ Some n
unfolding fixed_digits_of
read_fixed w n l u h =
    let size = digits_in_length w n in
    rw (eq-eqb _ _ size) (digits_are (digits_in w n) (omega arith) (omega arith) (digits_in_all w n) ∙ ap Some (digits_in_number w n h))

-- an ID without leading zeros
pub read_plain : (n : ℕ) → n < 10 ^ 15 → digits_of (plain_digits n) ≡ Some n
read_plain n h =
    digits_are (plain_digits n) (plain_some n) (plain_few n 15 (omega arith) h) (plain_all n) ∙ ap Some (plain_number n (omega arith))

-- ---- what is written of what was read
-- the digits of v, followed by others
followed_again : (s : List ℕ) (k v : ℕ) → all_digits s ≡ true → digits_in (k + length s) (followed_by v s) ≡ digits_in k v ++ s
unfolding digits_in all_digits followed_by
followed_again [] k v d = rw (add-zero, append-nil)
followed_again (b ∷ s) k v d =
    let e = both_true (is_digit b) (all_digits s) d in
    let r = both_true (leb 48 b) (leb b 57) e.0 in
    let low : 48 ≤ b = leb-true 48 b r.0 in
    let high : b ≤ 57 = leb-true b 57 r.1 in
    let w = v * 10 + (b - 48) in
    let place : k + suc (length s) ≡ suc k + length s = omega arith in
    let front : w / 10 ≡ v = omega arith in
    let back : 48 + w % 10 ≡ b = omega arith in
    ap (λ (j : ℕ). digits_in j (followed_by w s)) place
    ∙ followed_again s (suc k) w e.1
    ∙ ap₂ (λ (u x : ℕ). (digits_in k u ++ (x ∷ [])) ++ s) front back
    ∙ append_assoc (digits_in k v) (b ∷ []) s

pub digits_again : (s : List ℕ) → all_digits s ≡ true → digits_in (length s) (number_of s) ≡ s
unfolding digits_in
digits_again s d = ap (λ (j : ℕ). digits_in j (number_of s)) (sym (zero-add (length s))) ∙ followed_again s 0 0 d

followed_least : (s : List ℕ) (v : ℕ) → v * 10 ^ length s ≤ followed_by v s
unfolding followed_by
followed_least [] v = omega arith
followed_least (b ∷ s) v =
    let w = v * 10 + (b - 48) in
    let more : v * 10 ^ suc (length s) ≡ v * 10 * 10 ^ length s = rw pow-succ' (sym (mul_assoc v 10 (10 ^ length s))) in
    omega (arith, mul-le-mul_right {m = v * 10} {n = w} (10 ^ length s) (omega arith), followed_least s w)

-- without a leading zero no smaller number has so many digits
number_least : (s : List ℕ) → all_digits s ≡ true → 1 ≤ length s → (get_or s 0 0 ≡ 48 → ⊥) → 10 ^ (length s - 1) ≤ number_of s
unfolding followed_by all_digits
number_least [] d l z = absurd (omega arith)
number_least (b ∷ s) d l z =
    let r = both_true (leb 48 b) (leb b 57) (both_true (is_digit b) (all_digits s) d).0 in
    let w = 0 * 10 + (b - 48) in
    let size : suc (length s) - 1 ≡ length s = omega arith in
    let some : 1 ≤ w = omega (arith, leb-true 48 b r.0, z) in
    rw size (omega (arith, mul-le-mul_right {m = 1} {n = w} (10 ^ length s) some, followed_least s w))

module _ (s : List ℕ) (d : all_digits s ≡ true) (l : 1 ≤ length s) (u : length s ≤ 15) (z : 1 < length s → get_or s 0 0 ≡ 48 → ⊥) where
  number_few : number_of s < 10 ^ 20
  number_few = omega (arith, ten_room (length s) (number_bound s d) u)

  number_digits : Dec (1 < length s) → Dec (length s ≤ digit_count (number_of s)) → digit_count (number_of s) ≡ length s
  unfolding digit_count
  number_digits (yes m) (yes k) = omega (arith, k, count_high 19 (number_of s) (length s) l (number_bound s d))
  number_digits (yes m) (no k) =
      let n = number_of s in
      let least = number_least s d l (z m) in
      let less = pow-le-pow_right {n = 10} (lit< tt) {i = count_up_to 19 n} {j = length s - 1} (omega (arith, k)) in
      absurd (omega (arith, count_holds 19 n number_few))
  number_digits (no m) k = omega (arith, m, count_low 19 (number_of s), count_high 19 (number_of s) (length s) l (number_bound s d))

  pub plain_again : plain_digits (number_of s) ≡ s
  unfolding plain_digits
  plain_again =
      ap (λ (k : ℕ). digits_in k (number_of s)) (number_digits (dec_lt 1 (length s)) (dec_le (length s) (digit_count (number_of s)))) ∙ digits_again s d
