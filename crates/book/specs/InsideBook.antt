-- What the steps of Book rest on and leave.
-- Assumes nothing.
use Rattle.std.specs.Prelude.{◌≡◌, true, false, List, ◌+◌}
use Rattle.records.specs.Text.{lines_of}
use Rattle.refusals.specs.Refusals.{first_refusal}
use Rattle.refusals.specs.Check.{test_refusals, settings_fit, is_too_large}
use Rattle.entries.specs.declared.Entry.{Entry}
use Rattle.soundness.specs.Sound.{is_sound}
use Rattle.booking.specs.Answers.{Answer}
use Rattle.booking.specs.Booking.{Input, result_of, Booked}

-- what Book is to meet; the used count afterwards is the one before and the entries added
abbrev pub Meets : Input → Answer → List Entry → Type 0
Meets i answer run' = Booked i answer run' (i.used + (result_of answer).added)

-- 104 and 105 don't apply
pub record Ready (i : Input) : Type 0 where
  pub fit : settings_fit i.settings.retailer i.settings.distributors ≡ true
  pub sound : is_sound i.run i.used ≡ true

-- nor does 103
pub record Opened (i : Input) : Type 0 where
  pub ready : Ready i
  pub small : is_too_large i.file ≡ false

-- nor does any of tests 2 to 38
pub record Tested (i : Input) : Type 0 where
  pub opened : Opened i
  pub passes : (first_refusal (test_refusals i.settings.retailer i.settings.distributors (lines_of i.file))).number ≡ 0
