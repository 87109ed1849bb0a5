-- Laws of the printed line.
--     number_piece                        what is still to be written, after a number and the byte after it
--     accepted_length, rejected_length    how long a line is
--     accepted_is, rejected_is, zero_is   the line of each case of an answer
--     line_short                          no line is longer than 72 bytes
-- Assumes nothing.
use mathlib.Core.Path.{◌≡◌, sym, ◌∙◌, ap}
use Rattle.std.specs.Prelude.{Ok, Err}
use mathlib.Core.Bool.{Bool, true, false, cond}
use mathlib.Core.List.{List, [], ◌∷◌, ◌++◌, append_assoc}
use Prim.Native.Nat.{ℕ, ◌+◌, ◌≤◌}
use native.Mathlib.Omega.{arith}
use borrow.Author.Tests.{eq-eqb, ne_eqb}
use lib.Dec.{eqb}
use lib.ListN.{length, length-append}
use Rattle.booking.specs.Answers.{Answer}
use Rattle.refusals.specs.declared.Outcome.{Outcome}
use Rattle.booking.specs.declared.Counts.{Counts}
use Rattle.booking.specs.Booking.{Result, result_of}
use Rattle.writing.specs.Decimals.{plain_digits}
use Rattle.writing.specs.InsideWriting.{written_at}
use Rattle.writing.proofs.Numbers.{plain_short}
use Rattle.writing.proofs.Places.{piece}
use Rattle.desk_answer.specs.Line.{code_number, parted, accepted_line, rejected_line, line_of}

pub number_piece : (out next : List ℕ) (at n end to : ℕ) (ys : List ℕ) → at ≤ length out → next ≡ written_at out at (plain_digits n ++ (end ∷ []))
    → to ≡ at + length (plain_digits n) + 1 → written_at out at (plain_digits n ++ (end ∷ ys)) ≡ written_at next to ys
number_piece out next at n end to ys h e q =
    let size = length-append (plain_digits n) (end ∷ []) in
    ap (λ (l : List ℕ). written_at out at l) (sym (append_assoc (plain_digits n) (end ∷ []) ys))
    ∙ piece out at next (plain_digits n ++ (end ∷ [])) ys to h e (omega arith)

pub accepted_length : (added held : ℕ) → length (accepted_line added held) ≡ 11 + length (plain_digits added) + length (plain_digits held)
unfolding accepted_line parted
accepted_length added held = simp length-append (omega arith)

pub rejected_length : (number code line : ℕ)
    → length (rejected_line number code line) ≡ 12 + length (plain_digits number) + length (plain_digits code) + length (plain_digits line)
unfolding rejected_line parted
rejected_length number code line = simp length-append (omega arith)

module _ {answer : Answer} where
  pub accepted_is : (counts : Counts) → answer ≡ Ok counts → accepted_line counts.added counts.held ≡ line_of (result_of answer)
  unfolding line_of
  accepted_is counts e = rw e

  pub rejected_is : (r : Outcome) → answer ≡ Err r → (r.number ≡ 0 → ⊥) → rejected_line r.number (code_number r.number) r.line ≡ line_of (result_of answer)
  unfolding line_of
  rejected_is r e h = rw (e, ne_eqb r.number 0 h)

  pub zero_is : (r : Outcome) → answer ≡ Err r → r.number ≡ 0 → accepted_line 0 0 ≡ line_of (result_of answer)
  unfolding line_of
  zero_is r e h = rw (e, eq-eqb r.number 0 h)

-- a line fits the room that the functions ask for
pub line_short : (r : Result) → length (line_of r) ≤ 72
unfolding line_of
line_short r = go (eqb r.number 0)
  where
    go : (accepted : Bool) → length (cond accepted (accepted_line r.added r.held) (rejected_line r.number (code_number r.number) r.line)) ≤ 72
    go true = omega (arith, accepted_length r.added r.held, plain_short r.added, plain_short r.held)
    go false =
        omega (arith, rejected_length r.number (code_number r.number) r.line, plain_short r.number, plain_short (code_number r.number), plain_short r.line)
