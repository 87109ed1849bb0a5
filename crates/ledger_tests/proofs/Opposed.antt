-- Test 40 of a record, over the place of the named entry and the amounts of the used entries.
--     place_within    that place of a cancel is a used entry's
--     opposed_same    what is answered of the record
-- Assumes nothing.
use mathlib.Core.Path.{◌≡◌, refl, sym, ap, ◌∙◌}
use mathlib.Core.Bool.{Bool, true, false, not, ◌&&◌}
use Rattle.std.specs.Prelude.{Some}
use mathlib.Core.List.{List}
use Prim.Native.Nat.{ℕ, ◌<◌}
use native.Mathlib.Omega.{arith}
use lib.ListN.{length, get_or, take}
use Rattle.bill_files.specs.Accepted.{Bill}
use Rattle.entries.specs.declared.Entry.{Entry}
use Rattle.entries.specs.Entries.{entry_of}
use Rattle.soundness.specs.Sound.{opposite}
use Rattle.booking.specs.Booking.{entry, named_entry, is_unopposed}
use Rattle.booking.specs.Acceptable.{bill_at}
use Rattle.file_bills.specs.declared.SourceBill.{SourceBill}
use Rattle.file_bills.specs.InsideBills.{is_cancel, source_at, Source}
use Rattle.file_bills.proofs.Sources.{source_cancel, source_as}
use Rattle.used_entries.specs.InsideNamed.{cancelled_by, Named}
use Rattle.used_entries.proofs.Cancelled.{named_some, cancelled_length, cancelled_amounts}

abbrev pub unopposed_in : List Entry → Bill → Bool
unopposed_in l c = is_unopposed c (named_entry c l)

module _ {l : List Entry} {bills : List Bill} {named : List ℕ} (N : Named l bills named) {sources : List SourceBill} (S : Source bills sources) {k : ℕ} (h : k < length bills) where
  abbrev b : Bill
  b = bill_at bills k

  abbrev e : Entry
  e = (source_at sources k).entry

  -- the ledger at its turn
  abbrev now : List Entry
  now = cancelled_by l (take k bills)

  -- what is read of the used entries
  abbrev read : Bool
  read = not (opposite e (entry_of l (get_or named k 0)))

  flag : is_cancel e ≡ b.cancel
  flag = source_cancel b e (S.each k h)

  pub place_within : is_cancel (source_at sources k).entry ≡ true → get_or named k 0 < length l
  place_within y = N.within k h (sym flag ∙ y)

  of_cancel : b.cancel ≡ true → read ≡ unopposed_in now b
  of_cancel q =
      let p = get_or named k 0 in
      let first = N.place k h q in
      let there : named_entry b now ≡ Some (entry_of now p) =
      named_some b now (omega (arith, first, N.within k h q, cancelled_length l (take k bills))) ∙ ap (λ (m : ℕ). Some (entry_of now m)) (sym first) in
      ap not (ap (λ (x : Entry). opposite x (entry_of l p)) (source_as b e true (S.each k h) q) ∙ sym (cancelled_amounts (entry b 4) l (take k bills) p))
      ∙ ap (is_unopposed b) (sym there)

  pub opposed_same : (is_cancel (source_at sources k).entry && not (opposite (source_at sources k).entry (entry_of l (get_or named k 0))))
      ≡ ((bill_at bills k).cancel && unopposed_in (cancelled_by l (take k bills)) (bill_at bills k))
  opposed_same = ap (λ (t : Bool). t && read) flag ∙ go b.cancel refl
    where
      go : (t : Bool) → b.cancel ≡ t → (t && read) ≡ (t && unopposed_in now b)
      go true q = of_cancel q
      go false q = refl
