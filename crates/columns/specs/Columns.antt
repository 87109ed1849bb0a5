-- The numbers and amounts of a record that tests read. A column has one of them for each record of a file.
-- Assumes nothing.
use Rattle.std.specs.Prelude.{ℕ, ◌+◌, List, [], ◌∷◌, cond, ◌&&◌, get_or, eqb, ltb}
use Rattle.lists.specs.Bytes.{same_bytes}
use Rattle.lists.specs.Written.{written}
use Rattle.std.specs.Prelude.{Option, Some, None}
use Rattle.digits.specs.Digits.{digits_of}
use Rattle.calendar.specs.Calendar.{day_of}
use Rattle.amounts.specs.declared.Amount.{Amount}
use Rattle.amounts.specs.Amounts.{amount_of}
use Rattle.records.specs.Records.{field, type_in}

-- ---- which field of which type a column reads: for FH, SH, TH, DU, DD, DM, CH, OC, FT the field, counted from 1, or 0 for none
abbrev pub field_table : List (List ℕ)
field_table =
    (3 ∷ 3 ∷ 3 ∷ 3 ∷ 3 ∷ 3 ∷ 3 ∷ 3 ∷ 3 ∷ [])
    ∷ (1 ∷ 1 ∷ 1 ∷ 1 ∷ 1 ∷ 1 ∷ 1 ∷ 1 ∷ 1 ∷ [])
    ∷ (2 ∷ 2 ∷ 2 ∷ 2 ∷ 2 ∷ 2 ∷ 2 ∷ 2 ∷ 2 ∷ [])
    ∷ (0 ∷ 4 ∷ 4 ∷ 4 ∷ 4 ∷ 4 ∷ 4 ∷ 4 ∷ 0 ∷ [])
    ∷ (0 ∷ 0 ∷ 8 ∷ 0 ∷ 0 ∷ 0 ∷ 0 ∷ 7 ∷ 0 ∷ [])
    ∷ (0 ∷ 5 ∷ 5 ∷ 5 ∷ 5 ∷ 5 ∷ 5 ∷ 0 ∷ 0 ∷ [])
    ∷ (0 ∷ 6 ∷ 6 ∷ 6 ∷ 6 ∷ 6 ∷ 6 ∷ 0 ∷ 0 ∷ [])
    ∷ (0 ∷ 0 ∷ 7 ∷ 7 ∷ 7 ∷ 7 ∷ 7 ∷ 6 ∷ 0 ∷ [])
    ∷ (0 ∷ 14 ∷ 14 ∷ 0 ∷ 0 ∷ 0 ∷ 18 ∷ 10 ∷ 5 ∷ [])
    ∷ (0 ∷ 12 ∷ 12 ∷ 16 ∷ 0 ∷ 0 ∷ 0 ∷ 0 ∷ 0 ∷ [])
    ∷ []

-- the rows
abbrev pub record_type : ℕ
record_type = 0

abbrev pub record_id : ℕ
record_id = 1

abbrev pub parent_id : ℕ
parent_id = 2

abbrev pub site : ℕ
site = 3

-- TH 8 and OC 7
abbrev pub reference : ℕ
reference = 4

abbrev pub start_day : ℕ
start_day = 5

abbrev pub end_day : ℕ
end_day = 6

abbrev pub cancel : ℕ
cancel = 7

-- the Charge Amount of CH and OC, the Charge Total of SH, TH and FT
abbrev pub charge : ℕ
charge = 8

-- the Usage Amount of DU, the Usage Total of SH and TH
abbrev pub usage : ℕ
usage = 9

unfoldable pub field_of : ℕ → ℕ → ℕ
field_of column type = cond (ltb column 10 && ltb type 9) (get_or (get_or field_table column []) type 0) 0

-- what stands in a column's field of a line
abbrev pub field_in : ℕ → List ℕ → List ℕ
field_in column line = field (field_of column (type_in line)) line

-- ---- numbers: a number stands as itself and one, so that 0 says that the field has none
abbrev pub number_in_column : Option ℕ → ℕ
number_in_column (Some n) = n + 1
number_in_column None = 0

-- 1 for Y
abbrev pub cancel_in_column : List ℕ → ℕ
cancel_in_column s = cond (same_bytes s (written "Y")) 1 0

-- IDs in columns 1 to 4, days in 5 and 6, the Cancel Indicator in 7
unfoldable pub in_column : ℕ → List ℕ → ℕ
in_column column s = cond (ltb column 5) (number_in_column (digits_of s)) (cond (ltb column 7) (number_in_column (day_of s)) (cancel_in_column s))

unfoldable pub number_in : ℕ → List ℕ → ℕ
number_in column line = cond (eqb column 0) (type_in line) (in_column column (field_in column line))

-- ---- amounts: what the field of a column says
unfoldable pub charge_in : List ℕ → Amount
charge_in line = amount_of 11 2 (field_in charge line)

-- of Number(13,4) and Number(14,4), which have the same places
unfoldable pub usage_in : List ℕ → Amount
usage_in line = amount_of 14 4 (field_in usage line)
