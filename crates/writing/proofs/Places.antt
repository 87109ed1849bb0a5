-- Laws of bytes written from a place on.
--     written_length   the run keeps its length
--     written_none     no bytes change nothing
--     written_back     one turn of a loop that writes from the last byte back
--     written_more     bytes written after bytes are both of them
--     written_one      a store is one byte
--     piece            what is still to be written, after a piece of it
-- Assumes nothing.
use mathlib.Core.Path.{◌≡◌, sym, ◌∙◌, ap, ap₂}
use mathlib.Core.List.{List, [], ◌∷◌, ◌++◌, append_assoc}
use Prim.Native.Nat.{ℕ, suc, ◌+◌, ◌≤◌, ◌<◌}
use native.Mathlib.Nat.{add-zero}
use native.Mathlib.Numerals.{add-one}
use native.Mathlib.Omega.{arith}
use lib.ListN.{length, take, drop, set, length-append, length-drop, take-append-drop}
use lib.Seq.{length-take-le, take-set-le, take_at, drop_at, drop-drop, set_split}
use Rattle.writing.specs.InsideWriting.{written_at}

module _ (out : List ℕ) (at : ℕ) where
  pub written_length : (bs : List ℕ) → at + length bs ≤ length out → length (written_at out at bs) ≡ length out
  unfolding written_at
  written_length bs h =
      length-append (take at out) (bs ++ drop (at + length bs) out)
      ∙ simp (length-append, length-drop, length-take-le at out (omega arith)) (omega arith)

  pub written_none : written_at out at [] ≡ out
  unfolding written_at
  written_none = rw add-zero (take-append-drop at out)

  -- ys is xs and one byte more, which the turn stores at place k of them
  pub written_back : (xs ys : List ℕ) (k b : ℕ) → length xs ≡ k → ys ≡ xs ++ (b ∷ []) → at + k < length out
      → written_at out at ys ≡ written_at (set out (at + k) b) at xs
  unfolding written_at
  written_back xs ys k b e s h =
      let i = at + k in
      let tail : drop (at + length xs) (set out i b) ≡ b ∷ drop (suc i) out =
      ap (λ (n : ℕ). drop (at + n) (set out i b)) e ∙ ap (λ (l : List ℕ). drop i l) (set_split out i b h)
      ∙ drop_at (take i out) (b ∷ drop (suc i) out) i (length-take-le i out (omega arith)) in
      let past : at + length ys ≡ suc i = omega (arith, e, ap length s, length-append xs (b ∷ [])) in
      rw (take-set-le at out i b (omega arith), tail, past, s, append_assoc)

  pub written_more : (xs ys : List ℕ) → at ≤ length out → written_at (written_at out at xs) (at + length xs) ys ≡ written_at out at (xs ++ ys)
  unfolding written_at
  written_more xs ys h =
      let w = take at out ++ (xs ++ drop (at + length xs) out) in
      let p = take at out ++ xs in
      let split : w ≡ p ++ drop (at + length xs) out = sym (append_assoc (take at out) xs (drop (at + length xs) out)) in
      let size : length p ≡ at + length xs = length-append (take at out) xs ∙ rw (length-take-le at out h) in
      let begin : take (at + length xs) w ≡ p = ap (λ (l : List ℕ). take (at + length xs) l) split ∙ take_at p _ _ size in
      let rest : drop (at + length xs + length ys) w ≡ drop (at + length xs + length ys) out =
      sym (drop-drop (length ys) (at + length xs) w)
      ∙ ap (λ (l : List ℕ). drop (length ys) l) (ap (λ (l : List ℕ). drop (at + length xs) l) split ∙ drop_at p _ _ size)
      ∙ drop-drop (length ys) (at + length xs) out in
      let past : at + length (xs ++ ys) ≡ at + length xs + length ys = omega (arith, length-append xs ys) in
      rw (begin, rest, past, append_assoc, append_assoc)

  pub written_one : (b : ℕ) → at < length out → set out at b ≡ written_at out at (b ∷ [])
  unfolding written_at
  written_one b h = set_split out at b h ∙ rw add-one

  -- the piece xs, which left `next`
  pub piece : (next xs ys : List ℕ) (to : ℕ) → at ≤ length out → next ≡ written_at out at xs → to ≡ at + length xs
      → written_at out at (xs ++ ys) ≡ written_at next to ys
  piece next xs ys to h e q = sym (ap₂ (λ (o : List ℕ) (n : ℕ). written_at o n ys) e q ∙ written_more xs ys h)
