-- The file entry, the cancels and the originals together are what an accepted file leaves.
--     assembled      what the run, the used count and the held count are
--     originals_fit  the originals have places after the cancels
-- Assumes nothing.
use mathlib.Core.Path.{◌≡◌, sym, ap, ◌∙◌}
use mathlib.Core.List.{List, ◌∷◌, [], ◌++◌}
use Prim.Native.Nat.{ℕ, ◌+◌, ◌≤◌}
use native.Mathlib.Omega.{arith}
use lib.ListN.{length, set, take, drop, length-set}
use lib.Seq.{length-take-le, drop-set-lt}
use Rattle.lists.specs.Selections.{count}
use Rattle.lists.proofs.Selections.{length_split}
use Rattle.bill_files.specs.Accepted.{Bill, BillFile}
use Rattle.entries.specs.declared.Entry.{Entry}
use Rattle.entries.specs.Entries.{is_held}
use Rattle.booking.specs.Booking.{file_entry, cancels, originals, book_cancels, book_originals, booked}
use Rattle.booking.proofs.Added.{cancel_all, ahead, original_entries, cancels_parts, held_count}
use Rattle.accepted_entries.specs.InsideAccepted.{Leaves}
use Rattle.accepted_entries.proofs.Steps.{drop_later, snoc_set}
use Rattle.accepted_entries.proofs.Originals.{originals_added}

pub originals_fit : (file : BillFile) (used n at : ℕ) (run run' : List Entry) (place : ℕ) (e : Entry) → n ≡ length file.bills → at ≡ used + 1 + length (cancels file) → used + 1 + n ≤ length run
    → length run' ≡ length (set run place e) → at + length (originals file) ≤ length run'
originals_fit file used n at run run' place e n-is at-is room same = omega (arith, n-is, at-is, same, length-set run place e, length_split (λ (b : Bill). b.cancel) file.bills)

module _ (file : BillFile) (n used at r held : ℕ) (run₀ run₁ run₂ run₃ : List Entry) (n-is : n ≡ length file.bills) (room : used + 1 + n ≤ length run₀)
    (one : run₁ ≡ set run₀ used (file_entry file))
    (two : Leaves run₁ run₂ at (book_cancels (take (used + 1) run₁) (cancels file))) (at-is : at ≡ used + 1 + length (cancels file))
    (three : Leaves run₂ run₃ r (book_originals (take at run₂) (originals file))) (r-is : r ≡ at + length (originals file)) where
  abbrev l : List Entry
  l = take used run₀

  begun : take (used + 1) run₁ ≡ l ++ file_entry file ∷ []
  begun = ap (take (used + 1)) one ∙ snoc_set run₀ used (file_entry file) (omega arith)

  cancelled : take at run₂ ≡ book_cancels (l ++ file_entry file ∷ []) (cancels file)
  cancelled = two.entries ∙ ap (λ (x : List Entry). book_cancels x (cancels file)) begun

  all_count : r ≡ used + 1 + n
  all_count = omega (arith, r-is, at-is, length_split (λ (b : Bill). b.cancel) file.bills)

  all_written : Leaves run₀ run₃ r (booked l file)
  all_written = record {
    entries = three.entries ∙ ap (λ (x : List Entry). book_originals x (originals file)) cancelled;
    past =
        three.past ∙ drop_later at r run₂ run₁ (omega (arith, r-is)) two.past
        ∙ ap (drop r) one ∙ drop-set-lt r run₀ used (file_entry file) (omega (arith, r-is, at-is));
  }

  parts : take at run₂ ≡ cancel_all l (cancels file) ++ ahead file
  parts = cancelled ∙ cancels_parts l (file_entry file ∷ []) (cancels file) tt

  all_held : length run₂ ≡ length run₀ → held ≡ count is_held (drop at (book_originals (take at run₂) (originals file)))
      → held ≡ count is_held (drop used (booked l file))
  all_held long h =
      let short : length l ≡ used = length-take-le used run₀ (omega arith) in
      let fits : length (take at run₂) ≡ at =
      length-take-le at run₂ (omega (arith, long, at-is, length_split (λ (b : Bill). b.cancel) file.bills)) in
      h ∙ ap (count is_held) (originals_added (take at run₂) (originals file) at fits)
      ∙ ap (λ (x : List Entry). count is_held (original_entries x (originals file))) parts
      ∙ sym (held_count l file)
      ∙ ap (λ (m : ℕ). count is_held (drop m (booked l file))) short

  pub assembled : length run₂ ≡ length run₀ → held ≡ count is_held (drop at (book_originals (take at run₂) (originals file)))
      → (r ≡ used + 1 + n) × (Leaves run₀ run₃ r (booked l file) × (held ≡ count is_held (drop used (booked l file))))
  assembled long h = (all_count, (all_written, all_held long h))
