-- The line that the desk program prints of Book's result. Document 01, "Operations".
-- Assumes nothing.
use Rattle.std.specs.Prelude.{ℕ, cond, List, [], ◌∷◌, ◌++◌, eqb}
use Rattle.lists.specs.Written.{written}
use Rattle.std.specs.Prelude.{Option, Some, None}
use Rattle.refusals.specs.Codes.{code_of}
use Rattle.booking.specs.Booking.{Result}
use Rattle.writing.specs.Decimals.{plain_digits}

-- "code (0 for house numbers)": 0 for every number that has no code
abbrev pub code_or_zero : Option ℕ → ℕ
code_or_zero (Some code) = code
code_or_zero None = 0

unfoldable pub code_number : ℕ → ℕ
code_number number = code_or_zero (code_of number)

-- words and numbers "parted by single spaces, byte 10 last"
unfoldable pub parted : List ℕ → List (List ℕ) → List ℕ
parted part [] = part ++ (10 ∷ [])
parted part (next ∷ rest) = part ++ (32 ∷ parted next rest)

-- "accepted", added, held
unfoldable pub accepted_line : ℕ → ℕ → List ℕ
accepted_line added held = parted (written "accepted") (plain_digits added ∷ plain_digits held ∷ [])

-- "rejected", number, code, line
unfoldable pub rejected_line : ℕ → ℕ → ℕ → List ℕ
rejected_line number code line = parted (written "rejected") (plain_digits number ∷ plain_digits code ∷ plain_digits line ∷ [])

-- number 0 is that of an accepted file
unfoldable pub line_of : Result → List ℕ
line_of r = cond (eqb r.number 0) (accepted_line r.added r.held) (rejected_line r.number (code_number r.number) r.line)
