-- Tests 2, 3, 4, 5 and 7 of Table 5-1, as document 01, "Tests", reads them. Each answers the place of the first record that fails, or their number.
-- Assumes nothing.
use Rattle.std.specs.Prelude.{ℕ, ◌+◌, ◌-◌, List, [], ◌∷◌, Bool, cond, not, ◌&&◌, ◌||◌, length, get_or, eqb, leb}
use Rattle.lists.specs.Below.{first_below, some_below}
use Rattle.lists.specs.Bytes.{same_bytes}
use Rattle.lists.specs.Written.{written}
use Rattle.fields.specs.Fields.{fits_type}
use Rattle.tables.specs.Types.{FH, FT, may_follow}
use Rattle.records.specs.Records.{record_fields, field, type_in}
use Rattle.tables.specs.Tables.{field_count, field_type, is_mandatory}

abbrev pub line_at : List (List ℕ) → ℕ → List ℕ
line_at lines i = get_or lines i []

abbrev pub is_empty : List ℕ → Bool
is_empty s = eqb (length s) 0

-- ---- 2: "every byte within a line is 32 to 126; field 3 is a known type; the field count is its table's. An empty line fails."
abbrev pub is_printable : ℕ → Bool
is_printable b = leb 32 b && leb b 126

unfoldable pub unformatted : List ℕ → Bool
unformatted line =
    some_below (λ (i : ℕ). not (is_printable (get_or line i 0))) (length line)
    || (leb 9 (type_in line) || not (eqb (length (record_fields line)) (field_count (type_in line))))

unfoldable pub first_unformatted : List (List ℕ) → ℕ
first_unformatted lines = first_below (λ (i : ℕ). unformatted (line_at lines i)) (length lines)

-- ---- 3 and 5 go record by record and field by field; k counts the fields from 0
abbrev pub some_field : (List ℕ → ℕ → Bool) → List ℕ → Bool
some_field fails line = some_below (fails line) (length (record_fields line))

abbrev pub first_by_field : (List ℕ → ℕ → Bool) → List (List ℕ) → ℕ
first_by_field fails lines = first_below (λ (i : ℕ). some_field fails (line_at lines i)) (length lines)

-- 3: "every field that isn't empty fits its type"
unfoldable pub unfit : List ℕ → ℕ → Bool
unfit line k = not (fits_type (field_type (type_in line) k) (field (k + 1) line))

abbrev pub first_unfit : List (List ℕ) → ℕ
first_unfit lines = first_by_field unfit lines

-- 5: "Mandatory fields are filled, but FH's Parent ID, called mandatory, must be empty"
unfoldable pub unfilled : List ℕ → ℕ → Bool
unfilled line k =
    cond (eqb (type_in line) FH && eqb k 1) (not (is_empty (field (k + 1) line))) (is_mandatory (type_in line) k && is_empty (field (k + 1) line))

abbrev pub first_unfilled : List (List ℕ) → ℕ
first_unfilled lines = first_by_field unfilled lines

-- ---- 4: "The first line is FH (otherwise line 1 fails) and the last FT (otherwise the last line fails)"; the others by the table
unfoldable pub misplaced : List ℕ → ℕ → Bool
misplaced types i =
    cond (eqb i 0) (not (eqb (get_or types 0 0) FH)) (not (may_follow (get_or types (i - 1) 0) (get_or types i 0)))
    || (eqb (i + 1) (length types) && not (eqb (get_or types i 0) FT))

unfoldable pub first_misplaced : List ℕ → ℕ
first_misplaced types = first_below (misplaced types) (length types)

-- ---- 7: "Commodity Code is EL or NG; Usage UOM is KWH for EL and GJ for NG; Cancel Indicator and GST exemption are Y or N. Other codes pass."
-- the field of each type, counted from 1, that has the code; 0 where the type has none
abbrev pub commodity_fields : List ℕ
commodity_fields = 6 ∷ 0 ∷ 0 ∷ 0 ∷ 0 ∷ 0 ∷ 0 ∷ 0 ∷ 0 ∷ []

abbrev pub unit_fields : List ℕ
unit_fields = 0 ∷ 13 ∷ 13 ∷ 17 ∷ 0 ∷ 0 ∷ 0 ∷ 0 ∷ 0 ∷ []

abbrev pub cancel_fields : List ℕ
cancel_fields = 0 ∷ 0 ∷ 7 ∷ 7 ∷ 7 ∷ 7 ∷ 7 ∷ 6 ∷ 0 ∷ []

abbrev pub exemption_fields : List ℕ
exemption_fields = 0 ∷ 0 ∷ 0 ∷ 0 ∷ 0 ∷ 0 ∷ 19 ∷ 11 ∷ 0 ∷ []

-- the field that a list of fields gives a line's type is none of two texts; a type without the field passes
unfoldable pub neither : List ℕ → List ℕ → List ℕ → List ℕ → Bool
neither fields one two line =
    not (eqb (get_or fields (type_in line) 0) 0)
    && not (same_bytes (field (get_or fields (type_in line) 0) line) one || same_bytes (field (get_or fields (type_in line) 0) line) two)

-- the unit of the commodity that a file's first line has
unfoldable pub unit_of : List ℕ → List ℕ
unit_of first = cond (same_bytes (field 6 first) (written "EL")) (written "KWH") (written "GJ")

unfoldable pub miscoded : List ℕ → List ℕ → Bool
miscoded unit line =
    neither commodity_fields (written "EL") (written "NG") line
    || (neither unit_fields unit unit line
    || (neither cancel_fields (written "Y") (written "N") line || neither exemption_fields (written "Y") (written "N") line))

unfoldable pub first_miscoded : List (List ℕ) → ℕ
first_miscoded lines = first_below (λ (i : ℕ). miscoded (unit_of (line_at lines 0)) (line_at lines i)) (length lines)
