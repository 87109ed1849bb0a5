-- The desk's ledger as words of zeros.
--     desk_booked    what is booked into it is booked into an empty ledger
-- Assumes nothing.
use mathlib.Core.Path.{◌≡◌, refl, sym, ◌∙◌}
use mathlib.Core.List.{List}
use Prim.Native.Nat.{ℕ, ◌≤◌}
use lib.IntN.{pos}
use lib.ListN.{length, replicate, length-replicate}
use Rattle.lists.specs.Written.{written}
use Rattle.entries.specs.declared.Entry.{Entry}
use Rattle.entries.specs.Entries.{blank}
use Rattle.runs.specs.InsideWords.{words_for, amounts_for, entries_of}
use Rattle.runs.proofs.Words.{length_entries}
use Rattle.booking.specs.Booking.{input_of, Result, book_result}
use Rattle.booking.proofs.Lent.{same_result}
use Rattle.desk_answer.specs.Desk.{desk_result}
use Rattle.desk_answer.proofs.Laws.{desk_booked as run_booked}

pub desk_booked : (input : List ℕ) {r : Result} → length input ≤ 65536
    → r ≡ book_result (input_of 999999999 (written "0040") input (entries_of (replicate (words_for 512) 0) (replicate (amounts_for 512) (pos 0)) 512) 0) → r ≡ desk_result input
desk_booked input h e =
    run_booked input h blank refl
    (e ∙ same_result (record { retailer = 999999999; distributors = written "0040" }) input 0 (entries_of (replicate (words_for 512) 0) (replicate (amounts_for 512) (pos 0)) 512) (replicate 512 blank) refl (length_entries (replicate (words_for 512) 0) (replicate (amounts_for 512) (pos 0)) 512 ∙ sym (length-replicate {A = Entry} 512 blank)))
