-- What is read of the fields of a line, each into one number.
-- Assumes nothing.
use Rattle.std.specs.Prelude.{ℕ, ◌+◌, ◌<◌, ◌≡◌, List, [], true, length, get_or}
use Rattle.records.specs.Text.{fields_of}
use Rattle.fields.specs.Fields.{fits_type}
use Rattle.tables.specs.Tables.{field_count, field_type}
use Rattle.readings.specs.InsideReadings.{Says}

-- the field after k others of a record of a type is f: it fits, and the number n says what it holds
pub record FieldFits (type k : ℕ) (f : List ℕ) (n : ℕ) : Type 0 where
  pub fits : fits_type (field_type type k) f ≡ true
  pub says : Says (field_type type k) f n

abbrev pub field_after : List ℕ → ℕ → List ℕ
field_after line k = get_or (fields_of line) k []

-- all fields of a line fit, they are as many as its type has, and the numbers say what they hold, counted from 1. There is no field 0, and its number is 0.
pub record NumbersRead (type : ℕ) (line numbers : List ℕ) : Type 0 where
  pub none : get_or numbers 0 0 ≡ 0
  pub counted : length (fields_of line) ≡ field_count type
  pub stands : (j : ℕ) → j < field_count type → FieldFits type j (field_after line j) (get_or numbers (j + 1) 0)
