-- Laws of texts as numbers to the base 256.
--     packed_none, packed_more           no byte; one byte more
--     byte_more, byte_room               n bytes say less than the n-th power of 256; what four bytes say
-- Assumes nothing.
use Rattle.std.proofs.Common.{◌≡◌, ℕ, ◌+◌, ◌*◌, ◌^◌, ◌<◌, ◌≤◌, List, [], ◌∷◌, ◌++◌, length, get_or, take, refl, lt_of_lt_of_le, pow-suc, add-one, arith, lit<, take-suc}
use native.Mathlib.Nat.{pow-le-pow_right}
use Rattle.readings.specs.InsideLeadingBytes.{packed_after, packed}

packed_last : (s : List ℕ) (v b : ℕ) → packed_after v (s ++ (b ∷ [])) ≡ packed_after v s * 256 + b
unfolding packed_after
packed_last [] v b = refl
packed_last (a ∷ s) v b = packed_last s (v * 256 + a) b

pub packed_none : packed [] ≡ 0
unfolding packed_after
packed_none = refl

pub packed_more : (s : List ℕ) (k : ℕ) → k < length s → packed (take (k + 1) s) ≡ packed (take k s) * 256 + get_or s k 0
packed_more s k h = rw (add-one, take-suc s k 0 h) (packed_last (take k s) 0 (get_or s k 0))

pub byte_more : (k : ℕ) {v b : ℕ} → v < 256 ^ k → b < 256 → v * 256 + b < 256 ^ (k + 1)
byte_more k h l = rw (add-one, pow-suc) (omega arith)

pub byte_room : (k : ℕ) {v : ℕ} → v < 256 ^ k → k ≤ 4 → v < 256 ^ 4
byte_room k h l = lt_of_lt_of_le h (pow-le-pow_right (lit< tt) l)
