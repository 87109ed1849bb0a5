-- The columns of a file, and the runs of numbers that they stand in.
-- Assumes nothing.
use Rattle.std.specs.Prelude.{ℕ, ◌*◌, ◌≤◌, ◌<◌, ◌≡◌, List, map, length, take, drop}
use Rattle.amounts.specs.InsideSaid.{amounts_said}
use Rattle.columns.specs.Columns.{number_in, charge_in, usage_in}

-- ---- the columns of a file
-- eight columns of numbers stand one after the other in one run of words, each of which has the room of a column of amounts
pub record Room (n : ℕ) (words chargeColumn usageColumn : List ℕ) : Type 0 where
  pub words_length : length words ≡ 8 * length chargeColumn
  pub usages_length : length usageColumn ≡ length chargeColumn
  pub few : n ≤ length chargeColumn

abbrev pub column_at : ℕ → ℕ → ℕ → List ℕ → List ℕ
column_at room column n words = take n (drop (column * room) words)

pub record ColumnsRead (lines : List (List ℕ)) (words chargeColumn usageColumn : List ℕ) : Type 0 where
  pub numbers : (column : ℕ) → column < 8 → column_at (length chargeColumn) column (length lines) words ≡ map (number_in column) lines
  pub charges : amounts_said (take (length lines) chargeColumn) ≡ map charge_in lines
  pub usages : amounts_said (take (length lines) usageColumn) ≡ map usage_in lines
