-- Refusals. What an operation can refuse stands in one list, in document 01's order, and what it answers is the first that applies.
-- "The line answered is that of the failing record, counted from 1"; "line 0 for house numbers, from 101".
-- Assumes nothing.
use Rattle.std.specs.Prelude.{ℕ, ◌+◌, Bool, cond, List, [], ◌∷◌, ltb}
use Rattle.refusals.specs.declared.Outcome.{Outcome}

-- document 01's number and line, and whether it applies
pub record Refusal : Type 0 where
  pub number : ℕ
  pub line : ℕ
  pub applies : Bool

-- a test that fails at a line
abbrev pub at_line : ℕ → ℕ → Bool → Refusal
at_line number line fails = record { number = number; line = line; applies = fails }

-- a house number, which has line 0
abbrev pub house : ℕ → Bool → Refusal
house number applies = at_line number 0 applies

-- a test that answers the place of the first failing record of n, or n
abbrev pub at_record : ℕ → ℕ → ℕ → Refusal
at_record number n place = at_line number (place + 1) (ltb place n)

-- number and line; "0 and 0 when all pass"
abbrev pub outcome : ℕ → ℕ → Outcome
outcome number line = record { number = number; line = line }

abbrev pub passed : Outcome
passed = outcome 0 0

unfoldable pub first_refusal : List Refusal → Outcome
first_refusal [] = passed
first_refusal (r ∷ rest) = cond r.applies (outcome r.number r.line) (first_refusal rest)
