-- What is read of the field that stands at the start of a line's bytes: where it ends, and what it says as one number.
-- Assumes nothing.
use Rattle.std.specs.Prelude.{◌≡◌, ℕ, ◌-◌, ◌≤◌, Bool, true, false, ◌&&◌, List, nat_le, Option, Some, None}
use Rattle.digits.specs.Digits.{digits_of}
use Rattle.calendar.specs.Calendar.{day_of}
use Rattle.amounts.specs.Amounts.{amount_of}
use Rattle.fields.specs.declared.FieldType.{FieldType}
use Rattle.fields.specs.declared.FieldType.TheVariants.{RecordId, Digits, Number, Date, DateTime, Char, Varchar}
use Rattle.fields.specs.Fields.{fits_type}
use Rattle.columns.specs.Columns.{number_in_column}
use Rattle.readings.specs.declared.Reading.{Reading}
use Rattle.readings.specs.InsideLeadingBytes.{field_end, leading_field, packed}
use Rattle.amounts.specs.InsideSaid.{said_by}

-- the number n says what stands in the field f of a type. A number that no test reads says nothing.
unfoldable pub Says : FieldType → List ℕ → ℕ → Type 0
Says RecordId f n = n ≡ number_in_column (digits_of f)
Says (Digits width) f n = n ≡ number_in_column (digits_of f)
Says (Number precision scale) f n = said_by n ≡ amount_of precision scale f
Says Date f n = n ≡ number_in_column (day_of f)
Says DateTime f n = Unit {0}
Says (Char width) f n = width ≤ 4 → n ≡ packed f
Says (Varchar width) f n = width ≤ 4 → n ≡ packed f

-- r is read of the field of a type at the start of s, which fits the type
pub record FieldRead (t : FieldType) (s : List ℕ) (r : Reading) : Type 0 where
  pub ends : r.len ≡ field_end s
  pub fits : fits_type t (leading_field s) ≡ true
  pub says : Says t (leading_field s) r.number

-- what is read of the field at the start of s, or none where it does not fit a type
abbrev pub FieldTold : FieldType → List ℕ → Option Reading → Type 0
FieldTold t s (Some r) = FieldRead t s r
FieldTold t s None = fits_type t (leading_field s) ≡ false

-- a type that is read so: those of the tables are (a number's parts have at most 15 digits, and a text of fixed length at most four bytes)
unfoldable pub is_narrow : FieldType → Bool
is_narrow RecordId = true
is_narrow (Digits width) = true
is_narrow (Number precision scale) = nat_le (precision - scale) 15 && nat_le scale 15
is_narrow Date = true
is_narrow DateTime = true
is_narrow (Char width) = nat_le width 4
is_narrow (Varchar width) = true
