-- The tests that read the ledger in their order: what is answered where one refuses and those before it pass.
--     has_file_is                                       test 8 by the file's own entry
--     bill_fails, bill_passes                           a test that answers the place of the first failing TH or OC, or their number
--     refused_file, refused_cancels, refused_storage    8; 39 and 40; 102 and 101
-- Assumes nothing.
use mathlib.Core.Path.{◌≡◌, ap, ◌∙◌}
use mathlib.Core.Bool.{Bool, true, false, ◌&&◌}
use mathlib.Core.List.{List, ◌∷◌}
use Prim.Native.Nat.{ℕ, ◌≤◌, ◌<◌}
use native.Mathlib.Omega.{arith}
use borrow.Author.Tests.{lt-ltb, le-ltb}
use lib.Dec.{eqb}
use lib.ListN.{length, get_or}
use Rattle.lists.specs.Selections.{any}
use Rattle.refusals.specs.declared.Outcome.{Outcome}
use Rattle.refusals.specs.Refusals.{Refusal, outcome, first_refusal}
use Rattle.refusals.proofs.Refusals.{numbers_unlike}
use Rattle.refusals.proofs.Stages.{Answers, line_fails, line_passes}
use Rattle.refusals.proofs.Joined.{stage_stops, stage_goes}
use Rattle.bill_files.specs.Accepted.{BillFile}
use Rattle.entries.specs.declared.Entry.{Entry}
use Rattle.booking.specs.Booking.{file_entry, has_file, at_bill, cancel_refusals, storage_refusals, ledger_refusals}
use Rattle.file_bills.specs.declared.SourceBill.{SourceBill}
use Rattle.file_bills.specs.InsideBills.{source_at}
use Rattle.ledger_tests.specs.InsideBills.{Bills}

-- the sender and the Record ID that test 8 looks for are the file's
pub has_file_is : (l : List Entry) (file : BillFile) (header : Entry) (r : Bool) → header ≡ file_entry file
    → r ≡ any (λ e. eqb e.kind 1 && eqb e.sender header.sender && eqb e.id header.id) l → r ≡ has_file l file
unfolding has_file
has_file_is l file header r own e = e ∙ ap (λ (h : Entry). any (λ x. eqb x.kind 1 && eqb x.sender h.sender && eqb x.id h.id) l) own

module _ (number : ℕ) (file : BillFile) {sources : List SourceBill} (B : Bills file sources) {rest : List Refusal} {r : Outcome} where
  pub bill_fails : {place first : ℕ} → place ≡ first → place < length sources → r ≡ outcome number (source_at sources place).line → Answers (at_bill number file first ∷ rest) r
  bill_fails {place} {first} found h e =
      line_fails number (get_or file.lines first 0) (lt-ltb first (length file.bills) (omega (arith, found, B.source.count)))
      (e ∙ ap (outcome number) (B.stands place h ∙ ap (λ (m : ℕ). get_or file.lines m 0) found))

  pub bill_passes : {place first : ℕ} → place ≡ first → length sources ≤ place → Answers rest r → Answers (at_bill number file first ∷ rest) r
  bill_passes {place} {first} found h later =
      line_passes number (get_or file.lines first 0) (le-ltb first (length file.bills) (omega (arith, found, B.source.count))) later

module _ (places : ℕ) (l : List Entry) (file : BillFile) {r : Outcome} where
  pub refused_file : has_file l file ≡ true → r ≡ outcome 8 1 → r ≡ first_refusal (ledger_refusals places l file)
  unfolding ledger_refusals
  refused_file t e = (line_fails 8 1 t e).first

  module _ (new : has_file l file ≡ false) where
    pub refused_cancels : r ≡ first_refusal (cancel_refusals l file) → (r.number ≡ 0 → ⊥) → r ≡ first_refusal (ledger_refusals places l file)
    unfolding ledger_refusals
    refused_cancels is some = (line_passes 8 1 new (record { first = stage_stops (cancel_refusals l file) (storage_refusals places l file) is some })).first

    pub refused_storage : {o : Outcome} → o ≡ first_refusal (cancel_refusals l file) → o.number ≡ 0 → r ≡ first_refusal (storage_refusals places l file)
        → r ≡ first_refusal (ledger_refusals places l file)
    unfolding ledger_refusals
    refused_storage is none next =
        (line_passes 8 1 new
        (record { first = stage_goes (cancel_refusals l file) (storage_refusals places l file) is (numbers_unlike 0 (cancel_refusals l file) tt) none next })).first
