-- Test 7 and the columns, by the numbers that a line's fields say.
-- Assumes nothing.
use Rattle.std.specs.Prelude.{ℕ, List, Bool, cond, ◌&&◌, ◌||◌, get_or, eqb}
use Rattle.lists.specs.InsideTabulate.{tabulate}
use Rattle.lists.specs.Written.{written}
use Rattle.format.specs.Format.{commodity_fields, unit_fields, cancel_fields, exemption_fields}
use Rattle.columns.specs.Columns.{field_of}
use Rattle.readings.specs.InsideLeadingBytes.{packed}

-- ---- test 7 by numbers: the number of the field that a list of fields gives a type is that of one of two texts; a type without the field passes
unfoldable pub is_either : ℕ → List ℕ → List ℕ → List ℕ → Bool
is_either k numbers one two = eqb k 0 || (eqb (get_or numbers k 0) (packed one) || eqb (get_or numbers k 0) (packed two))

unfoldable pub codes_stand : List ℕ → ℕ → List ℕ → Bool
codes_stand unit type numbers =
    is_either (get_or commodity_fields type 0) numbers (written "EL") (written "NG")
    && (is_either (get_or unit_fields type 0) numbers unit unit
    && (is_either (get_or cancel_fields type 0) numbers (written "Y") (written "N") && is_either (get_or exemption_fields type 0) numbers (written "Y") (written "N")))

-- the unit of a commodity, electricity or gas, by the number that its code says
unfoldable pub unit_of_number : ℕ → List ℕ
unit_of_number commodity = cond (eqb commodity (packed (written "EL"))) (written "KWH") (written "GJ")

-- ---- what the columns hold of a record of a type, whose fields say the numbers: the number of a column's field, counted from 1
abbrev pub field_number : ℕ → List ℕ → ℕ → ℕ
field_number type numbers column = get_or numbers (field_of column type) 0

unfoldable pub column_number : ℕ → List ℕ → ℕ → ℕ
column_number type numbers column =
    cond (eqb column 0) type (cond (eqb column 7) (cond (eqb (field_number type numbers 7) (packed (written "Y"))) 1 0) (field_number type numbers column))

abbrev pub column_numbers : ℕ → List ℕ → List ℕ
column_numbers type numbers = tabulate (column_number type numbers) 8 0
