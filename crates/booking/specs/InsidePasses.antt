-- What an accepted booking tells of the file's records and the ledger: what the guarantee and the ledger's soundness rest on.
-- `accepted_passes` (proofs/AcceptedFile) draws it from Book's answer.
-- Assumes nothing.
use Rattle.std.specs.Prelude.{ℕ, ◌+◌, ◌≤◌, ◌≡◌, Bool, true, false, not, ◌&&◌, List, [], ◌∷◌, map, T, eqb, length}
use Rattle.std.specs.Prelude.{Option, Some, None}
use Rattle.lists.specs.Selections.{sum}
use Rattle.lists.specs.InsideSelections.{all, distinct}
use Rattle.bill_files.specs.Accepted.{Bill, BillFile}
use Rattle.entries.specs.declared.Entry.{Entry}
use Rattle.soundness.specs.Sound.{entry_fits, opposite}
use Rattle.booking.specs.Booking.{entry, file_entry, named_entry, cancel_named, cancels, is_stored}

-- a sender and a Record ID
abbrev pub Key : Type 0
Key = ℕ × ℕ

abbrev pub same_key : Key → Key → Bool
same_key k m = eqb k.0 m.0 && eqb k.1 m.1

abbrev pub key_of : Bill → Key
key_of b = (b.sender, b.record_id)

abbrev pub entry_key : Entry → Key
entry_key e = (e.sender, e.id)

-- the Record IDs of FH, TH and OC, each with its sender
abbrev pub keys : BillFile → List Key
keys file = (file.sender, file.record_id) ∷ map key_of file.bills

-- its entry fits, in whatever state it is booked
abbrev pub bill_fits : Bill → Bool
bill_fits b = entry_fits (entry b 1) && entry_fits (entry b 2) && entry_fits (entry b 4)

-- the entry that a cancel names, if it names one, has the opposite amounts
abbrev pub is_opposed : Bill → Option Entry → Bool
is_opposed c None = false
is_opposed c (Some e) = opposite (entry c 4) e

-- each cancel in turn names an entry, the earliest that fits, and that has the opposite amounts
abbrev pub AllNamed : List Entry → List Bill → Type 0
AllNamed l [] = Unit {0}
AllNamed l (c ∷ cs) = (is_opposed c (named_entry c l) ≡ true) × AllNamed (cancel_named c l) cs

pub record Passes (places : ℕ) (l : List Entry) (file : BillFile) : Type 0 where
  pub file_fits : entry_fits (file_entry file) ≡ true
  pub bills_fit : T (all bill_fits file.bills)
  -- test 9
  pub keys_once : T (distinct same_key (keys file))
  -- tests 32 and 34
  pub total : file.total ≡ sum (λ b. b.charge) file.bills
  -- tests 39 and 40
  pub named : AllNamed l (cancels file)
  -- test 102
  pub unstored : T (all (λ k. not (is_stored l k.0 k.1)) (keys file))
  -- test 101
  pub room : length l + 1 + length file.bills ≤ places
