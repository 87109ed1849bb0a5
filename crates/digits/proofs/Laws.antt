-- Laws of digits.
--     digits_next, digits_end           one turn of a loop over the bytes, and its end
--     digits_bound                      n digits say less than the n-th power of ten
--     digits_say, digits_none           what an answer tells of the bytes
--     fixed_say, fixed_same             what is said by just so many digits, and that no other bytes say it
--     leading_zero                      a leading zero changes no value
--     all_append                        digits followed by digits
-- Assumes nothing.
use mathlib.Core.Path.{◌≡◌, refl, sym, ◌∙◌, ap, subst}
use mathlib.Core.List.{List, [], ◌∷◌, ◌++◌}
use mathlib.Core.Bool.{Bool, true, false, cond, ◌&&◌, and-false, and_assoc}
use Prim.Native.Nat.{ℕ, suc, ◌+◌, ◌-◌, ◌*◌, ◌^◌, ◌≤◌, ◌<◌}
use native.Mathlib.Nat.{add-zero, zero-add, pow-suc, pow-le-pow_right, lt_of_lt_of_le}
use native.Mathlib.Numerals.{add-one}
use native.Mathlib.Omega.{arith}
use borrow.Author.Tests.{le-leb, lt-leb, leb-true, eqb-true}
use lib.Dec.{lit<, leb, eqb}
use lib.ListN.{length, get_or, drop, drop_of_length-le}
use lib.Seq.{drop-cons}
use Rattle.std.specs.Prelude.{Some, None}
use Rattle.digits.specs.Digits.{is_digit, all_digits, followed_by, number_of, digits_of, fixed_digits_of}

-- one digit more
pub ten_more : (i : ℕ) {v d : ℕ} → v < 10 ^ i → d < 10 → v * 10 + d < 10 ^ (i + 1)
ten_more i h k = rw (add-one, pow-suc) (omega arith)

-- at most 15 digits
pub ten_room : (i : ℕ) {v : ℕ} → v < 10 ^ i → i ≤ 15 → v < 10 ^ 15
ten_room i h k = lt_of_lt_of_le h (pow-le-pow_right (lit< tt) k)

-- ---- a loop over the bytes that stands at place i
module _ (s : List ℕ) (i : ℕ) (h : i < length s) where
  pub digits_next : (t : Bool) → is_digit (get_or s i 0) ≡ t → all_digits (drop i s) ≡ t && all_digits (drop (i + 1) s)
  unfolding all_digits
  digits_next t e = rw (add-one, drop-cons s i 0) (ap (λ (b : Bool). b && all_digits (drop (suc i) s)) e)

  pub followed_step : (v : ℕ) → followed_by v (drop i s) ≡ followed_by (v * 10 + (get_or s i 0 - 48)) (drop (i + 1) s)
  unfolding followed_by
  followed_step v = rw (add-one, drop-cons s i 0)

module _ (s : List ℕ) (i : ℕ) (h : length s ≤ i) where
  pub digits_end : all_digits (drop i s) ≡ true
  unfolding all_digits
  digits_end = rw (drop_of_length-le s {i = i} h)

  pub followed_end : (v : ℕ) → followed_by v (drop i s) ≡ v
  unfolding followed_by
  followed_end v = rw (drop_of_length-le s {i = i} h)

-- ---- what is said of the whole
pub both_true : (a b : Bool) → a && b ≡ true → (a ≡ true) × (b ≡ true)
both_true true true e = (refl, refl)
both_true true false e = (refl, e)
both_true false true e = (e, refl)
both_true false false e = (e, e)

pub digit_range : (b : ℕ) → is_digit b ≡ true → (48 ≤ b) × (b ≤ 57)
digit_range b e = let r = both_true (leb 48 b) (leb b 57) e in (leb-true 48 b r.0, leb-true b 57 r.1)

followed_bound : (s : List ℕ) (v k : ℕ) → all_digits s ≡ true → v < 10 ^ k → followed_by v s < 10 ^ (k + length s)
unfolding all_digits followed_by
followed_bound [] v k d h = rw add-zero h
followed_bound (b ∷ s) v k d h =
    let q = both_true (is_digit b) (all_digits s) d in
    let r = digit_range b q.0 in
    subst (λ (m : ℕ). followed_by (v * 10 + (b - 48)) s < 10 ^ m) (omega arith) (followed_bound s (v * 10 + (b - 48)) (k + 1) q.1 (ten_more k h (omega arith)))

pub number_bound : (s : List ℕ) → all_digits s ≡ true → number_of s < 10 ^ length s
number_bound s d = subst (λ (m : ℕ). number_of s < 10 ^ m) (zero-add (length s)) (followed_bound s 0 0 d (lit< tt))

pub record Digits (s : List ℕ) (n : ℕ) : Type 0 where
  pub some : 1 ≤ length s
  pub few : length s ≤ 15
  pub digits : all_digits s ≡ true
  pub value : number_of s ≡ n

digits_told : (s : List ℕ) (n : ℕ) (l u d : Bool) → leb 1 (length s) ≡ l → leb (length s) 15 ≡ u → all_digits s ≡ d
    → cond ((l && u) && d) (Some (number_of s)) None ≡ Some n → Digits s n
digits_told s n true true true l u d e = record { some = leb-true _ _ l; few = leb-true _ _ u; digits = d; value = cc }
digits_told s n true true false l u d e = let z : ◌≡◌ {A = ℕ} 0 1 = cc in absurd (omega arith)
digits_told s n true false true l u d e = let z : ◌≡◌ {A = ℕ} 0 1 = cc in absurd (omega arith)
digits_told s n true false false l u d e = let z : ◌≡◌ {A = ℕ} 0 1 = cc in absurd (omega arith)
digits_told s n false true true l u d e = let z : ◌≡◌ {A = ℕ} 0 1 = cc in absurd (omega arith)
digits_told s n false true false l u d e = let z : ◌≡◌ {A = ℕ} 0 1 = cc in absurd (omega arith)
digits_told s n false false true l u d e = let z : ◌≡◌ {A = ℕ} 0 1 = cc in absurd (omega arith)
digits_told s n false false false l u d e = let z : ◌≡◌ {A = ℕ} 0 1 = cc in absurd (omega arith)

pub digits_say : (s : List ℕ) (n : ℕ) → digits_of s ≡ Some n → Digits s n
unfolding digits_of
digits_say s n e = digits_told s n (leb 1 (length s)) (leb (length s) 15) (all_digits s) refl refl refl e

-- the answer for bytes that are digits
pub digits_are : (s : List ℕ) → 1 ≤ length s → length s ≤ 15 → all_digits s ≡ true → digits_of s ≡ Some (number_of s)
unfolding digits_of
digits_are s l u d = simp (le-leb _ _ l, le-leb _ _ u, d)

-- bytes that are not
pub digits_not : (s : List ℕ) → all_digits s ≡ false → digits_of s ≡ None
unfolding digits_of
digits_not s d = simp (d, and-false)

pub digits_too_few : (s : List ℕ) → length s < 1 → digits_of s ≡ None
unfolding digits_of
digits_too_few s h = simp (lt-leb _ _ h)

pub digits_too_many : (s : List ℕ) → 15 < length s → digits_of s ≡ None
unfolding digits_of
digits_too_many s h = simp (lt-leb _ _ h, and-false)

pub digits_bound : (s : List ℕ) (n : ℕ) → digits_of s ≡ Some n → n < 10 ^ length s
digits_bound s n e = let d = digits_say s n e in subst (λ (m : ℕ). m < 10 ^ length s) d.value (number_bound s d.digits)

-- bytes that are no number though few enough
pub digits_none : (s : List ℕ) → digits_of s ≡ None → 1 ≤ length s → length s ≤ 15 → all_digits s ≡ false
digits_none s e l u = go (all_digits s) refl
  where
    go : (d : Bool) → all_digits s ≡ d → all_digits s ≡ false
    go true d = let z : ◌≡◌ {A = ℕ} 0 1 = cc (digits_are s l u d) in absurd (omega arith)
    go false d = d

-- ---- so many digits, and no others, say a number
pub fixed_say : (width : ℕ) (s : List ℕ) (n : ℕ) → fixed_digits_of width s ≡ Some n → (length s ≡ width) × (digits_of s ≡ Some n)
unfolding fixed_digits_of
fixed_say width s n e = go (eqb (length s) width) refl e
  where
    go : (b : Bool) → eqb (length s) width ≡ b → cond b (digits_of s) None ≡ Some n → (length s ≡ width) × (digits_of s ≡ Some n)
    go true q e = (eqb-true (length s) width q, e)
    go false q e = let z : ◌≡◌ {A = ℕ} 0 1 = cc in absurd (omega arith)

followed_same : (s t : List ℕ) (v w : ℕ) → length s ≡ length t → all_digits s ≡ true → all_digits t ≡ true → followed_by v s ≡ followed_by w t → (v ≡ w) × (s ≡ t)
unfolding all_digits followed_by
followed_same [] [] v w l d f e = (e, refl)
followed_same [] (c ∷ t) v w l d f e = absurd (omega arith)
followed_same (b ∷ s) [] v w l d f e = absurd (omega arith)
followed_same (b ∷ s) (c ∷ t) v w l d f e =
    let p = both_true (is_digit b) (all_digits s) d in
    let q = both_true (is_digit c) (all_digits t) f in
    let x = digit_range b p.0 in
    let y = digit_range c q.0 in
    let later = followed_same s t (v * 10 + (b - 48)) (w * 10 + (c - 48)) (omega arith) p.1 q.1 e in
    let z : b ≡ c = omega arith in
    (omega arith, rw (z, later.1))

pub fixed_same : (width : ℕ) (s t : List ℕ) (n : ℕ) → fixed_digits_of width s ≡ Some n → fixed_digits_of width t ≡ Some n → s ≡ t
fixed_same width s t n d f =
    let p = fixed_say width s n d in
    let q = fixed_say width t n f in
    let x = digits_say s n p.1 in
    let y = digits_say t n q.1 in
    (followed_same s t 0 0 (p.0 ∙ sym q.0) x.digits y.digits (x.value ∙ sym y.value)).1

-- a leading zero (byte 48) changes no value
pub number_leading_zero : (s : List ℕ) → number_of (48 ∷ s) ≡ number_of s
unfolding followed_by
number_leading_zero s = refl

pub leading_zero : (s : List ℕ) → 1 ≤ length s → length s < 15 → digits_of (48 ∷ s) ≡ digits_of s
unfolding digits_of all_digits followed_by
leading_zero s l u = simp (le-leb 1 (suc (length s)) (omega arith), le-leb (suc (length s)) 15 (omega arith), le-leb _ _ l, le-leb (length s) 15 (omega arith))

pub all_append : (xs ys : List ℕ) → all_digits (xs ++ ys) ≡ all_digits xs && all_digits ys
unfolding all_digits
all_append [] ys = refl
all_append (x ∷ xs) ys = rw (all_append xs ys) (sym (and_assoc (is_digit x) (all_digits xs) (all_digits ys)))
