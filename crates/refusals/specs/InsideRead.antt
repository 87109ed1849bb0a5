-- What a reader of lines leaves for the tests of the records.
-- Assumes nothing.
use Rattle.std.specs.Prelude.{ℕ, ◌≤◌, List, length}
use Rattle.records.specs.Text.{lines_of}
use Rattle.records.specs.InsidePlacedLines.{Placed}
use Rattle.columns.specs.InsideColumns.{Room, ColumnsRead}

-- ════ what is lent to the stages of Check: the places of the lines of a file, and their columns
pub record Read (file : List ℕ) (n : ℕ) (starts ends words charges usages : List ℕ) : Type 0 where
  pub placed : Placed file n starts ends (lines_of file)
  pub few : n ≤ 4096
  pub some : 1 ≤ n
  pub room : Room n words charges usages
  pub most : length charges ≤ 4096
  pub columns : ColumnsRead (lines_of file) words charges usages
