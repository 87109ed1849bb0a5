-- One turn of each loop that writes from the last byte back, and its end: what is still to be written, on the run as it is.
-- Assumes nothing.
use mathlib.Core.Path.{◌≡◌, refl, ◌∙◌, ap}
use mathlib.Core.List.{List, [], ◌∷◌, ◌++◌}
use Prim.Native.Nat.{ℕ, suc, ◌+◌, ◌-◌, ◌/◌, ◌%◌, ◌≤◌, ◌<◌}
use native.Mathlib.Omega.{arith}
use lib.ListN.{length, get_or, take, set}
use lib.Seq.{length-take-le, take-suc}
use Rattle.writing.specs.Decimals.{digits_in}
use Rattle.writing.specs.InsideWriting.{written_at}
use Rattle.writing.proofs.Places.{written_none, written_back}
use Rattle.writing.proofs.Numbers.{digits_in_length}

module _ (out : List ℕ) (at : ℕ) where
  none_left : (left : ℕ → List ℕ) → left 0 ≡ [] → (k : ℕ) → k ≤ 0 → written_at out at (left k) ≡ out
  none_left left e k h = let none : k ≡ 0 = omega arith in rw (none, e) (written_none out at)

  pub digits_back : (k v b : ℕ) → 0 < k → at + k ≤ length out → b ≡ 48 + v % 10
      → written_at out at (digits_in k v) ≡ written_at (set out (at + (k - 1)) b) at (digits_in (k - 1) (v / 10))
  unfolding digits_in
  digits_back k v b s h e =
      let one : k ≡ suc (k - 1) = omega arith in
      let split : digits_in k v ≡ digits_in (k - 1) (v / 10) ++ (b ∷ []) = ap (λ (j : ℕ). digits_in j v) one ∙ rw e in
      written_back out at (digits_in (k - 1) (v / 10)) (digits_in k v) (k - 1) b (digits_in_length (k - 1) (v / 10)) split (omega arith)

  pub digits_end : (k v : ℕ) → k ≤ 0 → written_at out at (digits_in k v) ≡ out
  unfolding digits_in
  digits_end k v h = none_left (λ (j : ℕ). digits_in j v) refl k h

  pub bytes_back : (bytes : List ℕ) (k : ℕ) → 0 < k → k ≤ length bytes → at + k ≤ length out
      → written_at out at (take k bytes) ≡ written_at (set out (at + (k - 1)) (get_or bytes (k - 1) 0)) at (take (k - 1) bytes)
  bytes_back bytes k s l h =
      let one : k ≡ suc (k - 1) = omega arith in
      let split : take k bytes ≡ take (k - 1) bytes ++ (get_or bytes (k - 1) 0 ∷ []) =
      ap (λ (i : ℕ). take i bytes) one ∙ take-suc bytes (k - 1) 0 (omega arith) in
      written_back out at (take (k - 1) bytes) (take k bytes) (k - 1) (get_or bytes (k - 1) 0) (length-take-le (k - 1) bytes (omega arith)) split (omega arith)

  pub bytes_end : (bytes : List ℕ) (k : ℕ) → k ≤ 0 → written_at out at (take k bytes) ≡ out
  bytes_end bytes k h = none_left (λ (j : ℕ). take j bytes) refl k h
