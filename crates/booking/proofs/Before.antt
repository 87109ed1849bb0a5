-- Book as it was before request 1, when an empty amount was read as 0: its definition, with the file's bills and the sums in Check's tests of that time, and with
-- the other tests as they are today.
--     book_before    Book answers as before, and leaves the run and the used count as before
-- Assumes nothing.
use mathlib.Core.Path.{◌≡◌, ◌∙◌, ap}
use mathlib.Core.Bool.{Bool, cond}
use mathlib.Core.List.{List, ◌++◌}
use Prim.Native.Nat.{ℕ}
use lib.Dec.{eqb}
use lib.ListN.{length, drop}
use Rattle.lists.specs.Selections.{count}
use Rattle.records.specs.Text.{lines_of}
use Rattle.refusals.specs.declared.Outcome.{Outcome}
use Rattle.refusals.specs.Check.{tests_to12, tests_from14}
use Rattle.refusals.specs.Refusals.{Refusal, first_refusal}
use Rattle.refusals.proofs.Before.{tests_from14_before, tests_before}
use Rattle.bill_files.specs.Accepted.{BillFile}
use Rattle.bill_files.proofs.Before.{file_before, file_before_lem}
use Rattle.entries.specs.declared.Entry.{Entry}
use Rattle.entries.specs.Entries.{is_held}
use Rattle.booking.specs.Booking.{Input, Result, ledger_of, file_of, booked, opening_refusals, ledger_refusals, book_refusals, book_refusal, accepted_result, refused_result, book_result, used_after, run_after}

-- ---- Book by the tests from 14 on and by what the file says
module _ (i : Input) (tests : List Refusal) (file : BillFile) where
  abbrev refusal_by : Outcome
  refusal_by =
      first_refusal
      (opening_refusals i ++ (tests_to12 i.settings.retailer i.settings.distributors (lines_of i.file) ++ (tests ++ ledger_refusals (length i.run) (ledger_of i) file)))

  abbrev is_booked_by : Bool
  is_booked_by = eqb refusal_by.number 0

  abbrev after_by : List Entry
  after_by = booked (ledger_of i) file

  abbrev added_by : List Entry
  added_by = drop (length (ledger_of i)) after_by

  abbrev pub result_by : Result
  result_by = cond is_booked_by (accepted_result (length added_by) (count is_held added_by)) (refused_result refusal_by.number refusal_by.line)

  abbrev pub used_by : ℕ
  used_by = cond is_booked_by (length after_by) i.used

  abbrev pub run_by : List Entry
  run_by = cond is_booked_by (after_by ++ drop (length after_by) i.run) i.run

-- ---- as it was
abbrev pub result_before : Input → Result
result_before i = result_by i (tests_from14_before (lines_of i.file)) (file_before (lines_of i.file))

abbrev pub used_before : Input → ℕ
used_before i = used_by i (tests_from14_before (lines_of i.file)) (file_before (lines_of i.file))

abbrev pub run_before : Input → List Entry
run_before i = run_by i (tests_from14_before (lines_of i.file)) (file_before (lines_of i.file))

pub book_before : (i : Input) → (book_result i ≡ result_before i) × (run_after i ≡ run_before i) × (used_after i ≡ used_before i)
unfolding book_result run_after used_after book_refusal book_refusals
book_before i = (
  ap (λ (t : List Refusal). result_by i t (file_of i)) tests ∙ ap (λ (f : BillFile). result_by i (tests_from14_before (lines_of i.file)) f) file,
  ap (λ (t : List Refusal). run_by i t (file_of i)) tests ∙ ap (λ (f : BillFile). run_by i (tests_from14_before (lines_of i.file)) f) file,
  ap (λ (t : List Refusal). used_by i t (file_of i)) tests ∙ ap (λ (f : BillFile). used_by i (tests_from14_before (lines_of i.file)) f) file,
)
  where
    tests : tests_from14 (lines_of i.file) ≡ tests_from14_before (lines_of i.file)
    tests = tests_before (lines_of i.file)

    file : file_of i ≡ file_before (lines_of i.file)
    file = file_before_lem (lines_of i.file)
