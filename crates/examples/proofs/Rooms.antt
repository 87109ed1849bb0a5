-- How many places of a run are used after a booking.
--     used_within    no more than there are
-- Assumes nothing.
use mathlib.Core.Path.{◌≡◌, refl}
use mathlib.Core.Bool.{Bool, true, false, cond}
use mathlib.Core.List.{List}
use Prim.Native.Nat.{◌+◌, ◌≤◌}
use native.Mathlib.Omega.{arith}
use lib.ListN.{length}
use Rattle.entries.specs.declared.Entry.{Entry}
use Rattle.booking.specs.Answers.{Answer}
use Rattle.booking.specs.Booking.{Input, file_of, ledger_of, is_booked, ledger_after, result_of, used_after}
use Rattle.booking.proofs.Accepting.{accepted_unrefused}
use Rattle.booking.proofs.Added.{length_booked}
use Rattle.book.specs.InsideBook.{Meets}

module _ (i : Input) (fits : i.used ≤ length i.run) where
  -- test 101 has left room for what a file adds
  after_within : used_after i ≤ length i.run
  unfolding used_after
  after_within = go (is_booked i) refl
    where
      go : (b : Bool) → is_booked i ≡ b → cond b (length (ledger_after i)) i.used ≤ length i.run
      go true e = omega (arith, ((accepted_unrefused i).0 e).ledger.room, length_booked (ledger_of i) (file_of i))
      go false e = fits

  pub used_within : {answer : Answer} {run' : List Entry} → Meets i answer run' → i.used + (result_of answer).added ≤ length i.run
  used_within met = omega (arith, after_within, met.leaves_used)
