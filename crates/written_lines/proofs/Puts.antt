-- Laws of parts that are put one after another.
--     put_of             a part written, and a store: a part put
--     put_length         the run keeps its length
--     put                one part of a line: what is still to be written, on the run as it is
--     Puts, puts_line    a line that is put part by part is written
--     puts_next          the place after it
--     line_length        how many bytes it has
-- Assumes nothing.
use mathlib.Core.Path.{◌≡◌, sym, ◌∙◌, ap, ap₂}
use mathlib.Core.List.{List, [], ◌∷◌, ◌++◌, append_assoc}
use Prim.Native.Nat.{ℕ, ◌+◌, ◌≤◌, ◌<◌}
use native.Mathlib.Omega.{arith}
use lib.ListN.{length, set, length-append}
use Rattle.writing.specs.InsideWriting.{written_at}
use Rattle.writing.proofs.Places.{written_length, written_one, written_more, piece}
use Rattle.written_lines.specs.InsidePut.{Put}
use Rattle.written_lines.specs.Lines.{line_of}

pub put_of : (out o1 part : List ℕ) (at to end : ℕ) → at + length part < length out → o1 ≡ written_at out at part → to ≡ at + length part
    → Put out at part end (set o1 to end) (to + 1)
put_of out o1 part at to end h e q =
    let long = ap length e ∙ written_length out at part (omega arith) in
    record {
      same =
          written_one o1 to end (omega arith)
          ∙ ap₂ (λ (o : List ℕ) (n : ℕ). written_at o n (end ∷ [])) e q
          ∙ written_more out at part (end ∷ []) (omega arith);
      next = omega arith;
    }

module _ {before : List ℕ} {at : ℕ} {part : List ℕ} {end : ℕ} {after : List ℕ} {next : ℕ} (p : Put before at part end after next) where
  pub put_length : at + length part < length before → length after ≡ length before
  put_length h = ap length p.same ∙ written_length before at (part ++ (end ∷ [])) (omega (arith, length-append part (end ∷ [])))

  -- a part, and what comes after it
  pub put : (rest : List ℕ) → at ≤ length before → written_at before at (part ++ (end ∷ rest)) ≡ written_at after next rest
  put rest h =
      ap (λ (bs : List ℕ). written_at before at bs) (sym (append_assoc part (end ∷ []) rest))
      ∙ piece before at after (part ++ (end ∷ [])) rest next h p.same (omega (arith, p.next, length-append part (end ∷ [])))

-- how many bytes: each part and the byte that ends it
abbrev pub bytes_of : List (List ℕ) → ℕ
bytes_of [] = 0
bytes_of (l ∷ ls) = length l + 1 + bytes_of ls

-- ---- a line: its parts put one after another, each ended by the byte `between` and the last by byte 10
pub data Puts (between : ℕ) : List ℕ → ℕ → List (List ℕ) → List ℕ → ℕ → Type 0 where
  last : {out : List ℕ} {at : ℕ} {l after : List ℕ} {to : ℕ} → Put out at l 10 after to → Puts between out at (l ∷ []) after to
  more : {out : List ℕ} {at : ℕ} {l mid : List ℕ} {next : ℕ} {m : List ℕ} {ls : List (List ℕ)} {after : List ℕ} {to : ℕ}
      → Put out at l between mid next → Puts between mid next (m ∷ ls) after to → Puts between out at (l ∷ m ∷ ls) after to

pub line_length : (between : ℕ) (l : List ℕ) (ls : List (List ℕ)) → length (line_of between (l ∷ ls)) ≡ bytes_of (l ∷ ls)
unfolding line_of
line_length between l [] = omega (arith, length-append l (10 ∷ []))
line_length between l (m ∷ ls) = omega (arith, length-append l (between ∷ line_of between (m ∷ ls)), line_length between m ls)

pub puts_line : {between : ℕ} {out : List ℕ} {at : ℕ} {ls : List (List ℕ)} {after : List ℕ} {to : ℕ} → Puts between out at ls after to
    → at + bytes_of ls ≤ length out → after ≡ written_at out at (line_of between ls)
unfolding line_of
puts_line (last p) h = p.same
puts_line {between} (more {l} {m} {ls} p rest) h =
    puts_line rest (omega (arith, p.next, put_length p (omega arith))) ∙ sym (put p (line_of between (m ∷ ls)) (omega arith))

pub puts_next : {between : ℕ} {out : List ℕ} {at : ℕ} {ls : List (List ℕ)} {after : List ℕ} {to : ℕ} → Puts between out at ls after to → to ≡ at + bytes_of ls
puts_next (last p) = omega (arith, p.next)
puts_next (more p rest) = omega (arith, p.next, puts_next rest)
