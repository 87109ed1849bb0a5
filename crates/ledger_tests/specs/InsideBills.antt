-- What is kept of a file for the tests that read the ledger.
-- Assumes nothing.
use Rattle.std.specs.Prelude.{◌≡◌, List, ℕ, ◌≤◌, ◌<◌, length, get_or}
use Rattle.bill_files.specs.Accepted.{BillFile}
use Rattle.file_bills.specs.declared.SourceBill.{SourceBill}
use Rattle.file_bills.specs.InsideBills.{source_at, Source, References}

-- its TH and OC as entries, their Reference IDs and their lines
pub record Bills (file : BillFile) (sources : List SourceBill) : Type 0 where
  pub few : length sources ≤ 4096
  pub source : Source file.bills sources
  pub refers : References file.bills sources
  pub stands : (k : ℕ) → k < length sources → (source_at sources k).line ≡ get_or file.lines k 0
