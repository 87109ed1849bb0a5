-- The TH and OC of a file as what Book's tests and its entries are taken from, in file order.
-- Assumes nothing.
use Rattle.std.specs.Prelude.{◌≡◌, Bool, cond, List, ℕ, ◌+◌, ◌<◌, eqb, length, get_or}
use Rattle.std.specs.Prelude.{Option, Some, None}
use Rattle.records.specs.Text.{lines_of}
use Rattle.bill_files.specs.Accepted.{Bill, BillFile, bill_file}
use Rattle.entries.specs.declared.Entry.{Entry}
use Rattle.entries.specs.Entries.{blank}
use Rattle.booking.specs.Booking.{entry}
use Rattle.booking.specs.Acceptable.{bill_at}
use Rattle.file_bills.specs.declared.SourceBill.{SourceBill}

abbrev pub file_in : List ℕ → BillFile
file_in bytes = bill_file (lines_of bytes)

-- ---- a TH or OC as an entry: a cancel in state 4, an original as if it were live
abbrev pub source_entry : Bill → Entry
source_entry b = entry b (cond b.cancel 4 1)

abbrev pub is_cancel : Entry → Bool
is_cancel e = eqb e.state 4

-- what `get_or` gives past the end
abbrev pub blank_source : SourceBill
blank_source = record { entry = blank; reference = 0; line = 0 }

abbrev pub source_at : List SourceBill → ℕ → SourceBill
source_at sources k = get_or sources k blank_source

-- their entries are those of the bills, in file order
pub record Source (bills : List Bill) (sources : List SourceBill) : Type 0 where
  pub count : length sources ≡ length bills
  pub each : (k : ℕ) → k < length bills → (source_at sources k).entry ≡ source_entry (bill_at bills k)

-- ---- their Reference IDs: each stands as itself and one, and 0 says none, which an entry can't say
abbrev pub reference_in_column : Option ℕ → ℕ
reference_in_column None = 0
reference_in_column (Some m) = m + 1

pub record References (bills : List Bill) (sources : List SourceBill) : Type 0 where
  pub each : (k : ℕ) → k < length bills → (source_at sources k).reference ≡ reference_in_column (bill_at bills k).reference
