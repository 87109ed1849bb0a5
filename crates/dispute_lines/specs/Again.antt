-- The fields of a dispute, written again from what was read of them.
-- Assumes nothing.
use Rattle.std.specs.Prelude.{ℕ, List, [], ◌∷◌, Bool, cond, not, ◌&&◌, ◌||◌, eqb, leb, length, get_or}
use Rattle.digits.specs.Digits.{number_of}
use Rattle.format.specs.Format.{is_empty}
use Rattle.writing.specs.Decimals.{digits_in, plain_digits}
use Rattle.dispute_lines.specs.Reading.{field_in}

-- an ID of its number, without leading zeros; an empty field stays empty
unfoldable pub id_again : List ℕ → List ℕ
id_again s = cond (is_empty s) [] (plain_digits (number_of s))

-- just so many digits of its number
unfoldable pub fixed_again : ℕ → List ℕ → List ℕ
fixed_again width s = cond (is_empty s) [] (digits_in width (number_of s))

-- each field as the writer writes it; the abbreviation and the code, which are no IDs, as they stand
abbrev pub fields_again : List (List ℕ) → List (List ℕ)
fields_again fields =
    field_in fields 1
    ∷ id_again (field_in fields 2)
    ∷ fixed_again 9 (field_in fields 3)
    ∷ fixed_again 4 (field_in fields 4)
    ∷ fixed_again 14 (field_in fields 5)
    ∷ id_again (field_in fields 6)
    ∷ fixed_again 13 (field_in fields 7)
    ∷ id_again (field_in fields 8)
    ∷ id_again (field_in fields 9)
    ∷ id_again (field_in fields 10)
    ∷ field_in fields 11
    ∷ []

-- 0 itself is one digit
unfoldable pub lacks_leading_zeros : List ℕ → Bool
lacks_leading_zeros s = leb (length s) 1 || not (eqb (get_or s 0 0) 48)

-- the Transaction ID and the Record IDs have no leading zeros
abbrev pub ids_lack_leading_zeros : List (List ℕ) → Bool
ids_lack_leading_zeros fields =
    lacks_leading_zeros (field_in fields 2)
    && (lacks_leading_zeros (field_in fields 6)
    && (lacks_leading_zeros (field_in fields 8) && (lacks_leading_zeros (field_in fields 9) && lacks_leading_zeros (field_in fields 10))))
