-- Which refusal comes first: 104, 105 and 103, then the tests as Check runs them, then those that read the ledger.
--     refused_104, refused_105, refused_103     one of the first three applies, and none before it
--     refused_tests                             a test from 2 to 38 refuses
--     refused_ledger                            none of these does, so that the tests that read the ledger decide
-- Assumes nothing.
use mathlib.Core.Path.{◌≡◌, refl, sym, ap, ◌∙◌}
use mathlib.Core.Bool.{true, false}
use mathlib.Core.List.{List, ◌++◌, append_assoc}
use lib.ListN.{length}
use Rattle.records.specs.Text.{lines_of}
use Rattle.refusals.specs.declared.Outcome.{Outcome}
use Rattle.refusals.specs.Refusals.{Refusal, outcome, first_refusal}
use Rattle.refusals.specs.Check.{test_refusals, tests_to12, tests_from14, settings_fit, is_too_large}
use Rattle.refusals.proofs.Outcomes.{tests_parts, check_numbered}
use Rattle.refusals.proofs.Joined.{stage_stops, stage_goes}
use Rattle.soundness.specs.Sound.{is_sound}
use Rattle.booking.specs.Booking.{Input, file_of, ledger_of, opening_refusals, ledger_refusals, book_refusals, book_refusal}
use Rattle.book.specs.InsideBook.{Ready, Opened, Tested}

module _ (i : Input) where
  abbrev tests : List Refusal
  tests = test_refusals i.settings.retailer i.settings.distributors (lines_of i.file)

  abbrev pub ledger_tests : List Refusal
  ledger_tests = ledger_refusals (length i.run) (ledger_of i) (file_of i)

  -- the list, Check's tests together
  whole : book_refusals i ≡ opening_refusals i ++ (tests ++ ledger_tests)
  unfolding book_refusals
  whole =
      ap (λ (rs : List Refusal). opening_refusals i ++ rs)
      (sym (append_assoc (tests_to12 i.settings.retailer i.settings.distributors (lines_of i.file)) (tests_from14 (lines_of i.file)) ledger_tests)
      ∙ ap (λ (rs : List Refusal). rs ++ ledger_tests) (sym (tests_parts i.settings.retailer i.settings.distributors (lines_of i.file))))

  pub refused_104 : settings_fit i.settings.retailer i.settings.distributors ≡ false → book_refusal i ≡ outcome 104 0
  unfolding book_refusal book_refusals opening_refusals first_refusal
  refused_104 fit = rw fit

  pub refused_105 : settings_fit i.settings.retailer i.settings.distributors ≡ true → is_sound i.run i.used ≡ false → book_refusal i ≡ outcome 105 0
  unfolding book_refusal book_refusals opening_refusals first_refusal
  refused_105 fit sound = rw (fit, sound)

  pub refused_103 : Ready i → is_too_large i.file ≡ true → book_refusal i ≡ outcome 103 0
  unfolding book_refusal book_refusals opening_refusals first_refusal
  refused_103 r large = rw (r.fit, r.sound, large)

  past : Opened i → book_refusal i ≡ first_refusal (tests ++ ledger_tests)
  unfolding book_refusal opening_refusals first_refusal
  past o = ap first_refusal whole ∙ rw (o.ready.fit, o.ready.sound, o.small) refl

  pub refused_tests : Opened i → {r : Outcome} → r ≡ first_refusal tests → (r.number ≡ 0 → ⊥) → book_refusal i ≡ r
  refused_tests o is some = past o ∙ sym (stage_stops tests ledger_tests is some)

  pub refused_ledger : Tested i → {r : Outcome} → r ≡ first_refusal ledger_tests → book_refusal i ≡ r
  refused_ledger t is =
      past t.opened
      ∙ sym (stage_goes tests ledger_tests refl (check_numbered i.settings.retailer i.settings.distributors i.file).1.1 t.passes is)
