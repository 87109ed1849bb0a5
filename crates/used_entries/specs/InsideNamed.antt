-- The place of the entry that each cancel of a file names.
-- Assumes nothing.
use Rattle.std.specs.Prelude.{◌≡◌, true, cond, List, [], ◌∷◌, ℕ, ◌≤◌, ◌<◌, length, get_or, take}
use Rattle.lists.specs.First.{first_where}
use Rattle.bill_files.specs.Accepted.{Bill}
use Rattle.entries.specs.declared.Entry.{Entry}
use Rattle.booking.specs.Booking.{names_entry, cancel_named}
use Rattle.booking.specs.Acceptable.{bill_at}

-- the ledger as the cancels among some bills leave it, what they append left aside
abbrev pub cancelled_by : List Entry → List Bill → List Entry
cancelled_by l [] = l
cancelled_by l (b ∷ bs) = cancelled_by (cond b.cancel (cancel_named b l) l) bs

-- the place of the earliest that the cancel at k names, in the ledger as those before it leave it
abbrev pub named_place : List Entry → List Bill → ℕ → ℕ
named_place l bills k = first_where (names_entry (bill_at bills k)) (cancelled_by l (take k bills))

-- a column has it for each cancel, and each names one
pub record Named (l : List Entry) (bills : List Bill) (named : List ℕ) : Type 0 where
  pub room : length bills ≤ length named
  pub place : (k : ℕ) → k < length bills → (bill_at bills k).cancel ≡ true → get_or named k 0 ≡ named_place l bills k
  pub within : (k : ℕ) → k < length bills → (bill_at bills k).cancel ≡ true → get_or named k 0 < length l
