-- Laws of where the field at the start of a line's bytes ends.
--     field_length                           how long the field is
--     end_none, end_here, end_first, end_some    the end of no bytes; of bytes that a comma starts; of bytes that another byte starts
--     ends_there                             a place at which the field can end, and no comma before it: the field ends there
--     end_more, end_after                    one byte more that isn't a comma; what is left of the field after such bytes
--     digits_before                          digits stand before the field's end
--     same_byte                              a byte that stands in s is the same by any default
--     next_ends, next_inside, next_is        the byte that is read at a place, where s may end
-- Assumes nothing.
use Rattle.std.proofs.Common.{◌≡◌, ℕ, zero, suc, ◌+◌, ◌<◌, ◌≤◌, Bool, true, false, cond, eqb, leb, List, [], ◌∷◌, length, get_or, take, drop, sym, refl, ap, ◌∙◌, zero-le, suc-add, zero-add, arith, length-take-le, eq-eqb, ne_eqb, eqb-true, leb-false, leb-true}
use borrow.Author.Tests.{eqb-false}
use lib.ListN.{get_or-eq_default}
use Rattle.lists.specs.First.{first_where, is_byte}
use Rattle.lists.proofs.First.{first_le}
use Rattle.digits.specs.Digits.{is_digit, all_digits}
use Rattle.digits.proofs.Laws.{both_true}
use Rattle.readings.specs.InsideLeadingBytes.{field_end, leading_field, Ends}

pub field_length : (s : List ℕ) → length (leading_field s) ≡ field_end s
field_length s = length-take-le (field_end s) s (first_le (is_byte 44) s)

-- ---- where the field ends
-- no comma stands first
pub end_first : (b : ℕ) (s : List ℕ) → (b ≡ 44 → ⊥) → field_end (b ∷ s) ≡ suc (field_end s)
unfolding first_where
end_first b s h = rw (ne_eqb b 44 h)

-- a comma stands first
pub end_here : (b : ℕ) (s : List ℕ) → b ≡ 44 → field_end (b ∷ s) ≡ 0
unfolding first_where
end_here b s e = rw (eq-eqb b 44 e)

pub end_none : field_end [] ≡ 0
unfolding first_where
end_none = refl

-- a byte before the field's end isn't a comma
pub end_some : (b : ℕ) (s : List ℕ) (k : ℕ) → suc k ≤ field_end (b ∷ s) → (field_end (b ∷ s) ≡ suc (field_end s)) × (k ≤ field_end s)
unfolding first_where
end_some b s k h = go (eqb b 44) h
  where
    go : (t : Bool) → suc k ≤ cond t 0 (suc (field_end s)) → (cond t 0 (suc (field_end s)) ≡ suc (field_end s)) × (k ≤ field_end s)
    go true l = absurd (omega arith)
    go false l = (refl, omega arith)

pub ends_there : (s : List ℕ) (k : ℕ) → Ends s k → k ≤ field_end s → k ≡ field_end s
ends_there [] k e h = omega (arith, end_none)
ends_there (b ∷ s) zero e h = sym (end_here b s (e.1 (omega arith)))
ends_there (b ∷ s) (suc k) e h =
    let q = end_some b s k h in
    ap suc (ends_there s k (omega (arith, e.0), λ l. e.1 (omega arith)) q.1) ∙ sym q.0

-- the field can end where it does
pub end_ends : (s : List ℕ) → Ends s (field_end s)
unfolding first_where
end_ends [] = (omega (arith, end_none), λ l. absurd (omega arith))
end_ends (b ∷ s) = go (eqb b 44) refl (end_ends s)
  where
    go : (t : Bool) → eqb b 44 ≡ t → Ends s (field_end s) → Ends (b ∷ s) (field_end (b ∷ s))
    go true e q = rw (end_here b s (eqb-true b 44 e)) (zero-le, λ l. eqb-true b 44 e)
    go false e q = rw (end_first b s (eqb-false b 44 e)) (omega (arith, q.0), λ l. q.1 (omega arith))

-- one byte more that isn't a comma
pub end_more : (s : List ℕ) (k : ℕ) → k ≤ field_end s → k < length s → (get_or s k 0 ≡ 44 → ⊥) → k + 1 ≤ field_end s
end_more [] k h l n = absurd (omega arith)
end_more (b ∷ s) zero h l n = omega (arith, end_first b s n)
end_more (b ∷ s) (suc k) h l n =
    let q = end_some b s k h in
    let m = end_more s k q.1 (omega arith) n in
    omega (arith, m, q.0)

-- what is left of the field
pub end_after : (s : List ℕ) (k : ℕ) → k ≤ field_end s → field_end s ≡ k + field_end (drop k s)
end_after s zero h = sym (zero-add (field_end s))
end_after [] (suc k) h = absurd (omega (arith, end_none))
end_after (b ∷ s) (suc k) h =
    let q = end_some b s k h in
    let m = end_after s k q.1 in
    q.0 ∙ ap suc m ∙ sym (suc-add k (field_end (drop k s)))

pub digits_before : (s : List ℕ) (k : ℕ) → k ≤ length s → all_digits (take k s) ≡ true → k ≤ field_end s
unfolding all_digits
digits_before s zero l d = zero-le
digits_before [] (suc k) l d = absurd (omega arith)
digits_before (b ∷ s) (suc k) l d =
    let q = both_true (is_digit b) (all_digits (take k s)) d in
    let r = both_true (leb 48 b) (leb b 57) q.0 in
    let low : 48 ≤ b = leb-true 48 b r.0 in
    let m = digits_before s k (omega arith) q.1 in
    omega (arith, m, end_first b s (λ e. omega (arith, low, e)))

-- ---- the byte at k, or a comma where s ends before it
pub same_byte : (s : List ℕ) (k d e : ℕ) → k < length s → get_or s k d ≡ get_or s k e
same_byte [] k d e h = absurd (omega arith)
same_byte (b ∷ s) zero d e h = refl
same_byte (b ∷ s) (suc k) d e h = same_byte s k d e (omega arith)

pub next_ends : (s : List ℕ) (k : ℕ) → k ≤ length s → get_or s k 44 ≡ 44 → Ends s k
next_ends s k h e = (h, λ l. same_byte s k 0 44 l ∙ e)

pub next_inside : (s : List ℕ) (k : ℕ) → (get_or s k 44 ≡ 44 → ⊥) → k < length s
next_inside s k n = go (leb (length s) k) refl
  where
    go : (b : Bool) → leb (length s) k ≡ b → k < length s
    go true e = absurd (n (get_or-eq_default s 44 (leb-true (length s) k e)))
    go false e = leb-false (length s) k e

pub next_is : (s : List ℕ) (k : ℕ) → (get_or s k 44 ≡ 44 → ⊥) → get_or s k 0 ≡ get_or s k 44
next_is s k n = same_byte s k 0 44 (next_inside s k n)
