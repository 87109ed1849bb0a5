-- What is read of a record: the numbers that its fields say, and the places at which they stand.
-- Assumes nothing.
use Rattle.std.specs.Prelude.{ℕ, ◌<◌, ◌≡◌, List, false, not, length, get_or}
use Rattle.lists.specs.Below.{some_below}
use Rattle.records.specs.Records.{type_in}
use Rattle.records.specs.InsidePlacedLines.{At}
use Rattle.tables.specs.Tables.{field_count}
use Rattle.format.specs.Format.{is_printable}
use Rattle.codes_and_rows.specs.InsideFields.{field_after, NumbersRead}

-- a line of printable bytes is a record of a type, its fields say the numbers, counted from 1, and stand at the places, counted from 0
pub record RecordRead (file line : List ℕ) (type : ℕ) (numbers bs es : List ℕ) : Type 0 where
  pub known : type < 9
  pub named : type_in line ≡ type
  pub printable : some_below (λ (i : ℕ). not (is_printable (get_or line i 0))) (length line) ≡ false
  pub says : NumbersRead type line numbers
  pub placed : (j : ℕ) → j < field_count type → At file (get_or bs j 0) (get_or es j 0) (field_after line j)
