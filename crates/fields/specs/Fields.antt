-- Which bytes fit which type of field: the types of Tables 4-2 to 4-10, read as document 01, "The file", and A4.6 say.
-- Assumes nothing.
use Rattle.std.specs.Prelude.{ℕ, List, Bool, ◌||◌, length, eqb, leb}
use Rattle.std.specs.Prelude.{is_some}
use Rattle.digits.specs.Digits.{digits_of, fixed_digits_of}
use Rattle.calendar.specs.Calendar.{day_of, date_time_of}
use Rattle.amounts.specs.Amounts.{is_number}
use Rattle.fields.specs.declared.FieldType.{FieldType}
use Rattle.fields.specs.declared.FieldType.TheVariants.{RecordId, Digits, Number as Num, Date, DateTime, Char, Varchar}

-- a field that isn't empty
abbrev pub fits_filled : FieldType → List ℕ → Bool
-- "Record, Parent and Reference IDs are 1 to 15 digits, without sign"
fits_filled RecordId s = is_some (digits_of s)
-- "Site IDs are 13 digits, distributor IDs 4, retailer IDs 9"; A5.5: zone IDs 4
fits_filled (Digits n) s = is_some (fixed_digits_of n s)
-- "an optional minus, 1 to p - s digits, then optionally a point and 1 to s digits"
fits_filled (Num p scale) s = is_number p scale s
-- "A date is eight digits, YYYYMMDD, years 2000 to 2099"
fits_filled Date s = is_some (day_of s)
-- "A date time is a date and six digits HHMMSS (000000 to 235959)"
fits_filled DateTime s = is_some (date_time_of s)
-- A4.6.1: "must be x characters in length"; A4.6.2: "a maximum of x characters in length"
fits_filled (Char n) s = eqb (length s) n
fits_filled (Varchar n) s = leb (length s) n

-- document 01, "Tests", 3: "every field that isn't empty fits its type"
unfoldable pub fits_type : FieldType → List ℕ → Bool
fits_type t s = eqb (length s) 0 || fits_filled t s
