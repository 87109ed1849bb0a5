-- Codes of field types: a byte each for the kind and for the two numbers of the type. Every number in the tables is below 256.
-- Assumes nothing.
use Rattle.std.specs.Prelude.{ℕ, ◌+◌, ◌*◌, ◌/◌, ◌%◌, List, map, cond, eqb}
use Rattle.fields.specs.declared.FieldType.{FieldType}
use Rattle.fields.specs.declared.FieldType.TheVariants.{RecordId, Digits, Number, Date, DateTime, Char, Varchar}
use Rattle.tables.specs.Tables.{type_rows}

abbrev pub code : ℕ → ℕ → ℕ → ℕ
code kind first second = kind * 65536 + first * 256 + second

abbrev pub code_of : FieldType → ℕ
code_of RecordId = code 0 0 0
code_of (Digits n) = code 1 n 0
code_of (Number precision scale) = code 2 precision scale
code_of Date = code 3 0 0
code_of DateTime = code 4 0 0
code_of (Char n) = code 5 n 0
code_of (Varchar n) = code 6 n 0

-- the codes of the types of the tables' fields
abbrev pub code_rows : List (List ℕ)
code_rows = map (λ (row : List FieldType). map code_of row) type_rows

abbrev pub of_kind : ℕ → ℕ → ℕ → FieldType
of_kind kind first second =
    cond (eqb kind 1) (Digits first)
    (cond (eqb kind 2) (Number first second)
    (cond (eqb kind 3) Date
    (cond (eqb kind 4) DateTime
    (cond (eqb kind 5) (Char first)
    (cond (eqb kind 6) (Varchar first) RecordId)))))

-- the type that a code stands for
unfoldable pub type_of_code : ℕ → FieldType
type_of_code n = of_kind (n / 65536) (n / 256 % 256) (n % 256)
