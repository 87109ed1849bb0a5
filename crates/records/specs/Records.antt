-- A record: its type and its fields.
-- Assumes nothing.
use Rattle.std.specs.Prelude.{ℕ, List, [], ◌∷◌, cond, length, get_or, leb}
use Rattle.tables.specs.Types.{type_named}
use Rattle.records.specs.Text.{fields_of}

-- ---- fields
-- "A record carries the places of its fields, at most 24": a line that has more is no record, and has none
unfoldable pub record_fields : List ℕ → List (List ℕ)
record_fields line = cond (leb (length (fields_of line)) 24) (fields_of line) []

-- field k of a line, counted from 1 as the tables do; empty where there is none
unfoldable pub field : ℕ → List ℕ → List ℕ
field k line = get_or ([] ∷ record_fields line) k []

-- ---- records
-- "Record types are FH, .. in field 3"
unfoldable pub type_in : List ℕ → ℕ
type_in line = type_named (field 3 line)
