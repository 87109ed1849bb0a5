-- What the desk's function rests on.
--     desk_long       input that is longer than it may be counts as 103
--     desk_booked     other input is booked into an empty ledger
-- Assumes nothing.
use mathlib.Core.Path.{◌≡◌, ap, ◌∙◌}
use mathlib.Core.List.{List}
use Prim.Native.Nat.{ℕ, ◌≤◌, ◌<◌}
use borrow.Author.Tests.{lt-ltb, le-ltb}
use lib.ListN.{length, replicate}
use Rattle.lists.specs.Written.{written}
use Rattle.entries.specs.declared.Entry.{Entry}
use Rattle.entries.specs.Entries.{blank}
use Rattle.booking.specs.Booking.{input_of, Result, refused_result, book_result}
use Rattle.desk_answer.specs.Desk.{desk_result}

pub desk_long : (input : List ℕ) → 65536 < length input → refused_result 103 0 ≡ desk_result input
unfolding desk_result
desk_long input h = rw (lt-ltb 65536 (length input) h)

pub desk_booked : (input : List ℕ) {r : Result} → length input ≤ 65536 → (none : Entry) → none ≡ blank
    → r ≡ book_result (input_of 999999999 (written "0040") input (replicate 512 none) 0) → r ≡ desk_result input
unfolding desk_result
desk_booked input h none e booked =
    rw (le-ltb 65536 (length input) h)
    (booked ∙ ap (λ (x : Entry). book_result (input_of 999999999 (written "0040") input (replicate 512 x) 0)) e)
