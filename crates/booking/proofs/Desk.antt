-- The desk's examples, computed through the definitions: A books January, B cancels it and rebills, C shares its last day; and the last entry of a run.
-- Assumes nothing.
use mathlib.Core.Path.{◌≡◌, refl}
use mathlib.Core.Bool.{Bool, true, false}
use Rattle.std.specs.Prelude.{Option, Some, None}
use mathlib.Core.List.{List, [], ◌∷◌, map}
use Prim.Native.Nat.{ℕ, ◌+◌}
use native.Mathlib.Omega.{arith}
use lib.ListN.{length}
use lib.IntN.{ℤ, pos, negsuc}
use Rattle.lists.specs.First.{first_where}
use Rattle.lists.specs.Selections.{filter, sum}
use Rattle.calendar.specs.Periods.{shares_day}
use Rattle.refusals.specs.declared.Outcome.{Outcome}
use Rattle.refusals.specs.Refusals.{outcome, passed, first_refusal}
use Rattle.bill_files.specs.Accepted.{Bill, BillFile}
use Rattle.entries.specs.declared.Entry.{Entry}
use Rattle.entries.specs.Entries.{is_live}
use Rattle.soundness.specs.Sound.{digits_fit, ranges_fit, days_fit, lacks_fit, entry_fits, opposite}
use Rattle.booking.specs.Booking.{entry, names_entry, overlaps, first_overlap, state_of, booked, has_file, first_unnamed, first_unopposed, is_stored, has_stored, ledger_refusals}
use Rattle.booking.specs.Guarantee.{fits, shares_site_day, live, held, cancelled, cancelling, is_held_at_turn, archive, live_of, held_of, Guarantee}
use Rattle.booking.proofs.Run.{Accepted}
use Rattle.booking.proofs.Guarantee.{files_guarantee}

-- ---- sender 40, electricity, site 1; charges in cents; the first number is the Record ID of the file's FH

abbrev period : ℕ → ℕ → ℕ → ℕ → ℤ → Bool → Option ℕ → Bill
period header id from to charge cancel reference =
    record {
      sender = 40;
      commodity = 1;
      file_id = header;
      kind = 2;
      record_id = id;
      site = 1;
      start = from;
      end = to;
      charge = charge;
      usage = pos 0;
      cancel = cancel;
      reference = reference;
    }

-- an original of January, day 0 to day 30, and a cancel of the record that a Reference ID refers to
abbrev january : ℕ → ℕ → ℤ → Bill
january header id charge = period header id 0 30 charge false None

abbrev january_cancel : ℕ → ℕ → ℕ → ℤ → Bill
january_cancel header id reference charge = period header id 0 30 charge true (Some reference)

abbrev one_time_charge : ℕ → ℕ → ℤ → Bill
one_time_charge header id charge =
    record {
      sender = 40;
      commodity = 1;
      file_id = header;
      kind = 3;
      record_id = id;
      site = 1;
      start = 0;
      end = 0;
      charge = charge;
      usage = pos 0;
      cancel = false;
      reference = None;
    }

-- a file's TH and OC, with the line of each
abbrev file : ℕ → ℤ → List Bill → List ℕ → BillFile
file id total bills lines = record { sender = 40; commodity = 1; record_id = id; total = total; bills = bills; lines = lines }

-- ---- the files

-- A books January, 100.00
abbrev file_a : BillFile
file_a = file 1 (pos 10000) (january 1 2 (pos 10000) ∷ []) (3 ∷ [])

-- B cancels it and rebills 90.00; in the file the rebill stands before the cancel
abbrev file_b : BillFile
file_b = file 3 (negsuc 999) (january 3 4 (pos 9000) ∷ january_cancel 3 5 2 (negsuc 9999) ∷ []) (3 ∷ 6 ∷ [])

-- B with a cancel of -99.99
abbrev file_unopposed : BillFile
file_unopposed = file 3 (negsuc 998) (january 3 4 (pos 9000) ∷ january_cancel 3 5 2 (negsuc 9998) ∷ []) (3 ∷ 6 ∷ [])

-- B's cancel under new IDs
abbrev file_again : BillFile
file_again = file 6 (negsuc 9999) (january_cancel 6 7 2 (negsuc 9999) ∷ []) (3 ∷ [])

-- C brings 31 January to 27 February, 50.00
abbrev file_c : BillFile
file_c = file 8 (pos 5000) (period 8 9 30 57 (pos 5000) false None ∷ []) (3 ∷ [])

-- FH and one OC
abbrev file_charge : BillFile
file_charge = file 10 (pos 100) (one_time_charge 10 11 (pos 100) ∷ []) (3 ∷ [])

abbrev accepted : List BillFile
accepted = file_a ∷ file_b ∷ file_c ∷ []

abbrev after_a : List Entry
after_a = booked [] file_a

abbrev after_b : List Entry
after_b = booked after_a file_b

abbrev after_c : List Entry
after_c = booked after_b file_c

-- ---- what the tests that read the ledger answer

abbrev tested : ℕ → List Entry → BillFile → Outcome
tested places l file = first_refusal (ledger_refusals places l file)

record Answers : Type 0 where
  -- "B cancels it and rebills 90.00: accepted"
  cancel_and_rebill : tested 10 after_a file_b ≡ passed
  -- "A cancel of -99.99 instead gets 40."
  other_amount : tested 10 after_a file_unopposed ≡ outcome 40 6
  -- "B's cancel sent again under new IDs gets 39."
  cancel_again : tested 10 after_b file_again ≡ outcome 39 3
  -- an overlap with the ledger is no refusal
  shared_day : tested 10 after_b file_c ≡ passed
  -- "With one entry left, a file of FH and one OC gets 101; with two it is booked."
  one_left : tested (length after_c + 1) after_c file_charge ≡ outcome 101 0
  two_left : tested (length after_c + 2) after_c file_charge ≡ passed

answers : Answers
unfolding first_refusal ledger_refusals has_file first_unnamed first_unopposed is_stored has_stored names_entry opposite overlaps first_overlap first_where state_of shares_day
answers = record { cancel_and_rebill = refl; other_amount = refl; cancel_again = refl; shared_day = refl; one_left = refl; two_left = refl }

-- ---- what is live and what is held

record Leaves : Type 0 where
  -- "live 90.00"
  live_after_B : filter is_live after_b ≡ entry (january 3 4 (pos 9000)) 1 ∷ []
  -- C is held
  states_after_C : map (λ e. e.state) after_c ≡ 0 ∷ 3 ∷ 0 ∷ 4 ∷ 1 ∷ 0 ∷ 2 ∷ []
  statuses : map (λ s. s.status) (archive [] accepted) ≡ cancelled ∷ cancelling ∷ live ∷ held ∷ []
  -- "accepted 140.00 is 90.00 live and 50.00 held"
  total : sum (λ f. f.total) accepted ≡ pos 14000
  live_charge : sum (λ b. b.charge) (live_of (archive [] accepted)) ≡ pos 9000
  held_charge : sum (λ b. b.charge) (held_of (archive [] accepted)) ≡ pos 5000

leaves : Leaves
unfolding names_entry overlaps first_overlap first_where state_of fits is_held_at_turn shares_site_day shares_day
leaves = record { live_after_B = refl; states_after_C = refl; statuses = refl; total = refl; live_charge = refl; held_charge = refl }

-- ---- the guarantee speaks of them

all_pass : Accepted 10 [] accepted after_c
unfolding entry_fits digits_fit ranges_fit days_fit lacks_fit is_stored names_entry opposite overlaps first_overlap first_where state_of shares_day
all_pass = (
  record { file_fits = refl; bills_fit = tt; keys_once = tt; total = refl; named = tt; unstored = tt; room = omega arith },
  (
    record { file_fits = refl; bills_fit = tt; keys_once = tt; total = refl; named = (refl, tt); unstored = tt; room = omega arith },
    (record { file_fits = refl; bills_fit = tt; keys_once = tt; total = refl; named = tt; unstored = tt; room = omega arith }, refl),
  ),
)

guaranteed : Guarantee accepted after_c
guaranteed = files_guarantee 10 accepted after_c all_pass
