-- Laws of numbers as digits.
--     digits_in_length             w digits are w bytes
--     count_is                     how many digits a number between powers of ten has
--     count_few                    no number is given more than 20 digits
--     plain_length, plain_short    how many bytes a number without leading zeros has
-- Assumes nothing.
use mathlib.Core.Path.{◌≡◌, refl, ◌∙◌}
use mathlib.Core.List.{[], ◌∷◌}
use mathlib.Core.Bool.{Bool, true, false, cond}
use Prim.Native.Nat.{ℕ, zero, suc, ◌+◌, ◌*◌, ◌/◌, ◌%◌, ◌^◌, ◌≤◌, ◌<◌}
use native.Mathlib.Nat.{pow-suc, one-le-pow}
use native.Mathlib.Numerals.{add-one}
use native.Mathlib.Omega.{arith}
use borrow.Author.Tests.{lt-ltb, le-ltb}
use lib.Dec.{ltb}
use lib.ListN.{length, length-append}
use Rattle.writing.specs.Decimals.{digits_in, count_up_to, digit_count, plain_digits}

pub digits_in_length : (w n : ℕ) → length (digits_in w n) ≡ w
unfolding digits_in
digits_in_length zero n = refl
digits_in_length (suc w) n = length-append (digits_in w (n / 10)) ((48 + n % 10) ∷ []) ∙ rw (digits_in_length w (n / 10), add-one)

-- ---- how many digits
-- n has k + 1 digits, of f + 1 at most
pub count_is : (f k n : ℕ) → k ≤ f → n < 10 * 10 ^ k → (1 ≤ k → 10 ^ k ≤ n) → count_up_to f n ≡ k + 1
unfolding count_up_to
count_is zero k n h b l = omega arith
count_is (suc f) zero n h b l = rw (lt-ltb n 10 (omega arith))
count_is (suc f) (suc k) n h b l =
    let more : 10 ^ suc k ≡ 10 ^ k * 10 = pow-suc 10 k in
    let low = l (omega arith) in
    rw (le-ltb n 10 (omega (arith, one-le-pow k 10 (omega arith))), count_is f k (n / 10) (omega arith) (omega arith) (λ _. omega arith)) (omega arith)

count_up_to_few : (f n : ℕ) → count_up_to f n ≤ f + 1
unfolding count_up_to
count_up_to_few zero n = omega arith
count_up_to_few (suc f) n = go (ltb n 10) (count_up_to_few f (n / 10))
  where
    go : (b : Bool) → count_up_to f (n / 10) ≤ f + 1 → cond b 1 (suc (count_up_to f (n / 10))) ≤ suc f + 1
    go true h = omega arith
    go false h = omega arith

pub count_few : (n : ℕ) → digit_count n ≤ 20
unfolding digit_count
count_few n = count_up_to_few 19 n

-- ---- without leading zeros
pub plain_length : (n : ℕ) → length (plain_digits n) ≡ digit_count n
unfolding plain_digits
plain_length n = digits_in_length (digit_count n) n

pub plain_short : (n : ℕ) → length (plain_digits n) ≤ 20
plain_short n = omega (arith, plain_length n, count_few n)
