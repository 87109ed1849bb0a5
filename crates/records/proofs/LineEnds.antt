-- Laws of the count of bytes 10.
--     ends_none, ends_more, ends_kept    a loop that stands at place i: at the end; a byte 10 more; another byte
--     ends_part       those of a part, and of the rest after it
--     ends_few        there are at most as many as bytes
--     lines_few       there is at most one line more
-- Assumes nothing.
use mathlib.Core.Path.{◌≡◌, refl, ◌∙◌, ap}
use mathlib.Core.List.{List, [], ◌∷◌}
use mathlib.Core.Bool.{Bool, true, false, cond}
use Prim.Native.Nat.{ℕ, zero, suc, ◌+◌, ◌-◌, ◌≤◌, ◌<◌, suc-le-suc, zero-le}
use native.Mathlib.Nat.{le_refl, zero-add}
use native.Mathlib.Numerals.{add-one}
use native.Mathlib.Omega.{arith}
use borrow.Author.Tests.{eq-eqb, ne_eqb}
use lib.Dec.{eqb}
use lib.ListN.{length, get_or, take, drop, drop_of_length-le}
use lib.Seq.{drop-cons, drop-drop}
use Rattle.records.specs.Text.{onto, cut, ended, lines_of}
use Rattle.records.specs.InsidePlacedLines.{part}
use Rattle.records.specs.InsideLineEnds.{line_ends}

pub ends_none : (s : List ℕ) (i : ℕ) → length s ≤ i → line_ends (drop i s) ≡ 0
unfolding line_ends
ends_none s i h = rw (drop_of_length-le s {i = i} h)

pub ends_more : (s : List ℕ) (i : ℕ) → i < length s → get_or s i 0 ≡ 10 → line_ends (drop i s) ≡ 1 + line_ends (drop (i + 1) s)
unfolding line_ends
ends_more s i h e = rw (add-one, drop-cons s i 0 h) (rw (eq-eqb _ _ e))

pub ends_kept : (s : List ℕ) (i : ℕ) → i < length s → (get_or s i 0 ≡ 10 → ⊥) → line_ends (drop i s) ≡ line_ends (drop (i + 1) s)
unfolding line_ends
ends_kept s i h e = rw (add-one, drop-cons s i 0 h) (rw (ne_eqb _ _ e, zero-add))

ends_parts : (k : ℕ) (s : List ℕ) → line_ends s ≡ line_ends (take k s) + line_ends (drop k s)
unfolding line_ends
ends_parts zero s = rw zero-add
ends_parts (suc k) [] = refl
ends_parts (suc k) (b ∷ s) = omega (arith, ends_parts k s)

pub ends_part : (s : List ℕ) (a e : ℕ) → a ≤ e → line_ends (drop a s) ≡ line_ends (part s a e) + line_ends (drop e s)
ends_part s a e h = ends_parts (e - a) (drop a s) ∙ rw drop-drop (ap (λ (m : ℕ). line_ends (part s a e) + line_ends (drop m s)) past)
  where
    past : a + (e - a) ≡ e
    past = omega arith

pub ends_few : (s : List ℕ) → line_ends s ≤ length s
unfolding line_ends
ends_few [] = zero-le
ends_few (b ∷ s) = go (eqb b 10) (ends_few s)
  where
    go : (t : Bool) → line_ends s ≤ length s → cond t 1 0 + line_ends s ≤ suc (length s)
    go true h = omega arith
    go false h = omega arith

-- ---- lines
-- each byte 10 makes one part more
cut_ends : (s : List ℕ) → length (cut 10 s) ≡ line_ends s + 1
unfolding cut line_ends
cut_ends [] = refl
cut_ends (b ∷ s) = go (eqb b 10) (cut 10 s) (cut_ends s)
  where
    go : (t : Bool) (ls : List (List ℕ)) → length ls ≡ line_ends s + 1 → length (cond t ([] ∷ ls) (onto b ls)) ≡ cond t 1 0 + line_ends s + 1
    go true ls e = omega arith
    go false [] e = absurd (omega arith)
    go false (l ∷ ls) e = omega arith

ended_few : (ls : List (List ℕ)) → length (ended ls) ≤ length ls
unfolding ended
ended_few [] = zero-le
ended_few (l ∷ []) = go (eqb (length l) 0)
  where
    go : (t : Bool) → length (cond t [] (l ∷ [])) ≤ 1
    go true = zero-le
    go false = le_refl 1
ended_few (l ∷ m ∷ ls) = suc-le-suc (ended_few (m ∷ ls))

pub lines_few : (s : List ℕ) → length (lines_of s) ≤ line_ends s + 1
lines_few s = omega (arith, ended_few (cut 10 s), cut_ends s)
