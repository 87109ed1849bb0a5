-- How the TH and OC of a file are read from its columns.
-- Assumes nothing.
use Rattle.std.specs.Prelude.{◌≡◌, List, map, ℕ, ◌≤◌, ◌<◌, length, get_or, take}
use Rattle.lists.specs.Selections.{filter}
use Rattle.format.specs.Format.{line_at}
use Rattle.bill_files.specs.Accepted.{Bill, is_bill, bill_in, bill_lines}
use Rattle.file_bills.specs.declared.SourceBill.{SourceBill}
use Rattle.file_bills.specs.InsideBills.{source_at, Source, References}

-- the bills of the first i lines
abbrev pub bills_of : List (List ℕ) → ℕ → List Bill
bills_of lines i = map (bill_in (line_at lines 0)) (filter is_bill (take i lines))

-- m bills of the first i lines are read, into the front of what is lent for them
pub record Reading (lines : List (List ℕ)) (i m : ℕ) (sources : List SourceBill) : Type 0 where
  pub few : m ≤ i
  pub room : m ≤ length sources
  pub source : Source (bills_of lines i) (take m sources)
  pub refers : References (bills_of lines i) (take m sources)
  pub count : m ≡ length (bill_lines 0 (take i lines))
  pub stands : (k : ℕ) → k < m → (source_at sources k).line ≡ get_or (bill_lines 0 (take i lines)) k 0
