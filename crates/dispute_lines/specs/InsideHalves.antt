-- The fields of a dispute's line in two parts, as they are written.
-- Assumes nothing.
use Rattle.std.specs.Prelude.{ℕ, List, [], ◌∷◌, ◌++◌, take, drop, Option, Some, None}
use Rattle.writing.specs.Decimals.{plain_digits}
use Rattle.dispute_lines.specs.declared.Dispute.{Dispute}
use Rattle.dispute_lines.specs.Line.{dispute_fields}

-- fields 1 to 6
abbrev pub first_fields : Dispute → List ℕ → List (List ℕ)
first_fields d created = take 6 (dispute_fields d created)

-- fields 7 to 11, among which there is no Date Created
abbrev pub last_fields : Dispute → List (List ℕ)
last_fields d = drop 6 (dispute_fields d [])

-- a Record ID, or an empty field where there is none
abbrev pub id_shown : Option ℕ → List ℕ
id_shown (Some id) = plain_digits id
id_shown None = []

-- the start of a line: each of its fields with the comma after it
unfoldable pub start_of : List (List ℕ) → List ℕ
start_of [] = []
start_of (l ∷ ls) = l ++ (44 ∷ start_of ls)
