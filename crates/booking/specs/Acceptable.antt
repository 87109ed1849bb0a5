-- When Book accepts, in plain terms: demand 2. One field for each refusal, in document 01's order. `accepted_exactly` (proofs/Acceptance)
-- says that exactly these calls are accepted.
-- Assumes nothing.
use Rattle.std.specs.Prelude.{ℕ, ◌+◌, ◌≤◌, ◌<◌, ◌≡◌, ◌⊎◌, true, false, List, pos, neg_ℤ, length, get_or}
use Rattle.std.specs.Prelude.{Some, None}
use Rattle.records.specs.Text.{lines_of}
use Rattle.refusals.specs.Check.{settings_fit, is_too_large}
use Rattle.bill_files.specs.Passing.{Passing}
use Rattle.bill_files.specs.Accepted.{Bill, BillFile}
use Rattle.entries.specs.declared.Entry.{Entry}
use Rattle.entries.specs.Entries.{entry_of}
use Rattle.soundness.specs.Meaning.{Sound}
use Rattle.booking.specs.Booking.{Input, file_of, ledger_of}

-- the TH or OC at a place
abbrev pub no_bill : Bill
no_bill =
    record {
      sender = 0;
      commodity = 0;
      file_id = 0;
      kind = 0;
      record_id = 0;
      site = 0;
      start = 0;
      end = 0;
      charge = pos 0;
      usage = pos 0;
      cancel = false;
      reference = None;
    }

abbrev pub bill_at : List Bill → ℕ → Bill
bill_at bs k = get_or bs k no_bill

-- 39: "a Y record's Reference ID (an empty one names none) names an entry of the same sender, commodity, kind, site and (for a period) days, live or
-- held"
pub record Names (c : Bill) (e : Entry) : Type 0 where
  pub reference : c.reference ≡ Some e.id
  pub sender : c.sender ≡ e.sender
  pub commodity : c.commodity ≡ e.commodity
  pub kind : c.kind ≡ e.kind
  pub site : c.site ≡ e.site
  pub start : c.start ≡ e.start
  pub end : c.end ≡ e.end
  pub live_or_held : (e.state ≡ 1) ⊎ (e.state ≡ 2)

-- the Y record at k
pub record Cancels (l : List Entry) (bs : List Bill) (k : ℕ) : Type 0 where
  -- "names an entry .. before this file"
  pub place : ℕ
  pub within : place < length l
  pub names : Names (bill_at bs k) (entry_of l place)
  -- "that no earlier Y record of the file names"
  pub alone : (i : ℕ) → i < k → (bill_at bs i).cancel ≡ true → Names (bill_at bs i) (entry_of l place) → ⊥
  -- 40: "its charge and usage totals (for an OC, its Charge Amount) are the opposites of that entry's"
  pub charge : (bill_at bs k).charge ≡ neg_ℤ (entry_of l place).charge
  pub usage : (bill_at bs k).usage ≡ neg_ℤ (entry_of l place).usage

-- tests that read the ledger
pub record LedgerAccepts (places : ℕ) (l : List Entry) (file : BillFile) : Type 0 where
  -- 8: "no file entry of this sender has FH's Record ID"
  pub new_file : (i : ℕ) → i < length l → (entry_of l i).kind ≡ 1 → (entry_of l i).sender ≡ file.sender → (entry_of l i).id ≡ file.record_id → ⊥
  -- 39 and 40
  pub cancels : (k : ℕ) → k < length file.bills → (bill_at file.bills k).cancel ≡ true → Cancels l file.bills k
  -- 102: "no FH, TH or OC Record ID is stored under this sender"
  pub new_header : (i : ℕ) → i < length l → (entry_of l i).sender ≡ file.sender → (entry_of l i).id ≡ file.record_id → ⊥
  pub new_bills : (i k : ℕ) → i < length l → k < length file.bills → (entry_of l i).sender ≡ (bill_at file.bills k).sender
      → (entry_of l i).id ≡ (bill_at file.bills k).record_id → ⊥
  -- 101
  pub room : length l + 1 + length file.bills ≤ places

pub record Acceptable (i : Input) : Type 0 where
  -- 104
  pub settings : settings_fit i.settings.retailer i.settings.distributors ≡ true
  -- 105
  pub sound : Sound i.run i.used
  -- 103
  pub small : is_too_large i.file ≡ false
  -- 2 to 38
  pub passing : Passing i.settings.retailer i.settings.distributors (lines_of i.file)
  -- 8, 39, 40, 102, 101
  pub ledger : LedgerAccepts (length i.run) (ledger_of i) (file_of i)
