-- What the first separator parts.
-- Assumes nothing.
use mathlib.Core.Path.{◌≡◌, refl, sym, ◌∙◌, ap, ap₂}
use mathlib.Core.List.{List, [], ◌∷◌}
use mathlib.Core.Bool.{Bool, true, false, cond}
use Prim.Native.Nat.{ℕ, zero, suc, ◌+◌, ◌-◌, ◌≤◌, ◌<◌, suc-le-suc, zero-le}
use native.Mathlib.Nat.{le_of_suc-le-suc, sub-zero, zero-sub, suc-sub-suc}
use native.Mathlib.Numerals.{add-one}
use native.Mathlib.Omega.{arith}
use native.Mathlib.Decide.{dec_lt}
use borrow.Author.Tests.{eq-eqb, ne_eqb, lt-ltb, le-ltb}
use lib.Dec.{eqb}
use lib.ListN.{length, get_or, take, drop, length-take, length-drop, drop_of_length-le}
use lib.Seq.{take_all, drop-drop, get_or-take, get_or-drop, take-take, take-nil, drop-nil}
use Rattle.lists.proofs.First.{first_le}
use Rattle.lists.specs.First.{first_where, is_byte}
use Rattle.records.specs.Text.{onto, cut, chomp, ended, lines_of, fields_of}
use Rattle.records.specs.InsidePlacedLines.{part, LineEnd}

-- a separator at k, the first: the part before it, and the parts after it
pub cut_more : (d : ℕ) (s : List ℕ) → first_where (is_byte d) s < length s
    → cut d s ≡ take (first_where (is_byte d) s) s ∷ cut d (drop (first_where (is_byte d) s + 1) s)
unfolding first_where cut
cut_more d [] h = absurd (omega arith)
cut_more d (b ∷ s) h = go (cut_more d s) (eqb b d) h
  where
    go : (first_where (is_byte d) s < length s → cut d s ≡ take (first_where (is_byte d) s) s ∷ cut d (drop (first_where (is_byte d) s + 1) s))
        → (t : Bool) → cond t 0 (suc (first_where (is_byte d) s)) < suc (length s)
        → cond t ([] ∷ cut d s) (onto b (cut d s)) ≡ take (cond t 0 (suc (first_where (is_byte d) s))) (b ∷ s) ∷ cut d (drop (cond t 0 (suc (first_where (is_byte d) s)) + 1) (b ∷ s))
    go rest true h = refl
    go rest false h = rw (rest (le_of_suc-le-suc h), add-one, add-one)

-- no separator: one part
pub cut_last : (d : ℕ) (s : List ℕ) → length s ≤ first_where (is_byte d) s → cut d s ≡ s ∷ []
unfolding first_where cut
cut_last d [] h = refl
cut_last d (b ∷ s) h = go (cut_last d s) (eqb b d) h
  where
    go : (length s ≤ first_where (is_byte d) s → cut d s ≡ s ∷ []) → (t : Bool) → suc (length s) ≤ cond t 0 (suc (first_where (is_byte d) s))
        → cond t ([] ∷ cut d s) (onto b (cut d s)) ≡ (b ∷ s) ∷ []
    go rest true h = absurd (omega arith)
    go rest false h = rw (rest (le_of_suc-le-suc h))

ended_more : (d : ℕ) (l t : List ℕ) → ended (l ∷ cut d t) ≡ chomp l ∷ ended (cut d t)
unfolding cut ended
ended_more d l [] = refl
ended_more d l (b ∷ t) = go (eqb b d) (cut d t)
  where
    go : (q : Bool) (ls : List (List ℕ)) → ended (l ∷ cond q ([] ∷ ls) (onto b ls)) ≡ chomp l ∷ ended (cond q ([] ∷ ls) (onto b ls))
    go true ls = refl
    go false [] = refl
    go false (m ∷ ls) = refl

-- a line that ends, and the lines after it
pub lines_more : (s : List ℕ) → first_where (is_byte 10) s < length s
    → lines_of s ≡ chomp (take (first_where (is_byte 10) s) s) ∷ lines_of (drop (first_where (is_byte 10) s + 1) s)
lines_more s h = ap ended (cut_more 10 s h) ∙ ended_more 10 _ _

-- a last line without its end
pub lines_last : (s : List ℕ) → 0 < length s → length s ≤ first_where (is_byte 10) s → lines_of s ≡ s ∷ []
unfolding ended
lines_last s p h = ap ended (cut_last 10 s h) ∙ rw (ne_eqb (length s) 0 (λ e. omega arith))

pub lines_none : lines_of [] ≡ []
unfolding cut ended
lines_none = refl

-- there is a line where there are bytes
pub lines_some : (s : List ℕ) → 0 < length s → 0 < length (lines_of s)
lines_some s p = go (dec_lt (first_where (is_byte 10) s) (length s))
  where
    go : Dec (first_where (is_byte 10) s < length s) → 0 < length (lines_of s)
    go (yes h) = rw (lines_more s h) (suc-le-suc zero-le)
    go (no h) = rw (lines_last s p (omega (arith, h))) (suc-le-suc zero-le)

-- one line more, from a to r
pub lines_step : (s : List ℕ) (a e r : ℕ) → a < length s → e ≡ a + first_where (is_byte 10) (drop a s) → LineEnd s a e r
    → lines_of (drop a s) ≡ part s a r ∷ lines_of (drop (e + 1) s)
lines_step s a e r h q l = go (dec_lt e (length s))
  where
    k : ℕ
    k = first_where (is_byte 10) (drop a s)

    size : e - a ≡ k
    size = omega (arith, q)

    past : a + (k + 1) ≡ e + 1
    past = omega (arith, q)

    go : Dec (e < length s) → lines_of (drop a s) ≡ part s a r ∷ lines_of (drop (e + 1) s)
    go (yes p) =
        lines_more (drop a s) (rw length-drop (omega (arith, q)))
        ∙ rw (l.same, lt-ltb e (length s) p, size, drop-drop) (ap (λ (m : ℕ). chomp (take k (drop a s)) ∷ lines_of (drop m s)) past)
    go (no p) =
        lines_last (drop a s) (rw length-drop (omega arith)) (rw length-drop (omega (arith, q, p)))
        ∙ rw (l.same, le-ltb e (length s) (omega (arith, p)), size, take_all k (drop a s) (rw length-drop (omega (arith, q, p))), drop_of_length-le s {i = e + 1} (omega (arith, p)), lines_none)

module _ (s : List ℕ) (a e : ℕ) (l : e ≤ length s) where
  pub part_length : length (part s a e) ≡ e - a
  part_length = simp (length-take, length-drop) (omega arith)

  module _ (h : a < e) where
    size_last : length (part s a e) - 1 ≡ e - 1 - a
    size_last = omega (arith, part_length)

    last : get_or (part s a e) (length (part s a e) - 1) 0 ≡ get_or s (e - 1) 0
    last = rw size_last (get_or-take (e - a) (drop a s) (e - 1 - a) 0 (omega arith) ∙ get_or-drop a s (e - 1 - a) 0 ∙ ap (λ (m : ℕ). get_or s m 0) place)
      where
        place : a + (e - 1 - a) ≡ e - 1
        place = omega arith

    -- a line with a byte 13 at its end, and one without
    pub chomp_yes : get_or s (e - 1) 0 ≡ 13 → part s a (e - 1) ≡ chomp (part s a e)
    chomp_yes q = rw (last, eq-eqb _ _ q, size_last) (sym (take-take (e - 1 - a) (e - a) (drop a s) (omega arith)))

    pub chomp_no : (get_or s (e - 1) 0 ≡ 13 → ⊥) → part s a e ≡ chomp (part s a e)
    chomp_no q = rw (last, ne_eqb _ _ q)

pub chomp_none : (s : List ℕ) (a e : ℕ) → e ≤ a → part s a e ≡ chomp (part s a e)
chomp_none s a e h = rw none
  where
    none : e - a ≡ 0
    none = omega arith

drop_take : (n m : ℕ) (l : List ℕ) → drop n (take m l) ≡ take (m - n) (drop n l)
drop_take zero m l = rw sub-zero
drop_take (suc n) zero l = rw zero-sub
drop_take (suc n) (suc m) [] = rw (suc-sub-suc, drop-nil, take-nil)
drop_take (suc n) (suc m) (x ∷ l) = rw suc-sub-suc (drop_take n m l)

-- one field more, from a to e: another follows, or it is the last
module _ (s : List ℕ) (a e end : ℕ) (h : a ≤ end) (u : end ≤ length s) (q : e ≡ a + first_where (is_byte 44) (part s a end)) where
  fields_first : take (first_where (is_byte 44) (part s a end)) (part s a end) ≡ part s a e
  fields_first = take-take (first_where (is_byte 44) (part s a end)) (end - a) (drop a s) (omega (arith, first_le (is_byte 44) (part s a end), part_length s a end u)) ∙ ap (λ (k : ℕ). take k (drop a s)) size
    where
      size : first_where (is_byte 44) (part s a end) ≡ e - a
      size = omega (arith, q)

  pub fields_more : e < end → fields_of (part s a end) ≡ part s a e ∷ fields_of (part s (e + 1) end)
  fields_more p =
      cut_more 44 (part s a end) (omega (arith, q, part_length s a end u))
      ∙ rw (fields_first, drop_take, drop-drop) (ap₂ (λ (i j : ℕ). part s a e ∷ cut 44 (take i (drop j s))) left past)
    where
      left : end - a - (first_where (is_byte 44) (part s a end) + 1) ≡ end - (e + 1)
      left = omega (arith, q)

      past : a + (first_where (is_byte 44) (part s a end) + 1) ≡ e + 1
      past = omega (arith, q)

  pub fields_last : e ≡ end → fields_of (part s a end) ≡ part s a e ∷ []
  fields_last p = cut_last 44 (part s a end) (omega (arith, q, part_length s a end u)) ∙ rw p

-- there is always a part
pub cut_some : (d : ℕ) (s : List ℕ) → 0 < length (cut d s)
cut_some d s = go (dec_lt (first_where (is_byte d) s) (length s))
  where
    go : Dec (first_where (is_byte d) s < length s) → 0 < length (cut d s)
    go (yes h) = rw (cut_more d s h) (suc-le-suc zero-le)
    go (no h) = rw (cut_last d s (omega (arith, h))) (suc-le-suc zero-le)
