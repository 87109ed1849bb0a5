-- What a call says of the run that it is lent, for a function that copies only the used places of it.
--     unsound_result, unsound_run, unsound_used   of a ledger that isn't sound, as one of more than 8,192 places or with a used count past them, the answer
--                                                 is 105 (104 where the settings don't fit), and nothing changes
--     unsound_same                                so the answer rests on the settings alone
--     same_result                                 in any case it rests on the run's length and its used entries alone
-- Assumes nothing.
use mathlib.Core.Path.{◌≡◌, refl, sym, ap, ◌∙◌}
use mathlib.Core.Bool.{Bool, true, false, not, cond}
use mathlib.Core.List.{List}
use Prim.Native.Nat.{ℕ}
use lib.Dec.{eqb}
use lib.ListN.{length, take}
use Rattle.lists.specs.Selections.{count}
use Rattle.refusals.specs.declared.Outcome.{Outcome}
use Rattle.refusals.specs.Check.{settings_fit}
use Rattle.refusals.specs.Refusals.{outcome, first_refusal}
use Rattle.entries.specs.declared.Entry.{Entry}
use Rattle.entries.specs.Entries.{is_held}
use Rattle.soundness.specs.Sound.{is_sound}
use Rattle.soundness.proofs.Meaning.{past_used}
use Rattle.booking.specs.Booking.{Settings, Input, opening_refusals, book_refusals, book_refusal, is_booked, added_by, refused_result, accepted_result, book_result, used_after, run_after}
use Rattle.booking.proofs.Steps.{refused_leaves}

-- ---- a ledger that isn't sound
abbrev fit : Settings → Bool
fit s = settings_fit s.retailer s.distributors

module _ (i : Input) (unsound : is_sound i.run i.used ≡ false) where
  unsound_refusal : book_refusal i ≡ cond (fit i.settings) (outcome 105 0) (outcome 104 0)
  unfolding book_refusal book_refusals opening_refusals first_refusal
  unsound_refusal = rw unsound (go (fit i.settings) (outcome 105 0))
    where
      go : (b : Bool) (o : Outcome) → cond (not b) (outcome 104 0) o ≡ cond b o (outcome 104 0)
      go true o = refl
      go false o = refl

  unsound_refused : is_booked i ≡ false
  unsound_refused = ap (λ (o : Outcome). eqb o.number 0) unsound_refusal ∙ go (fit i.settings)
    where
      go : (b : Bool) → eqb (cond b (outcome 105 0) (outcome 104 0)).number 0 ≡ false
      go true = refl
      go false = refl

  pub unsound_result : book_result i ≡ cond (fit i.settings) (refused_result 105 0) (refused_result 104 0)
  unfolding book_result
  unsound_result =
      (λ t. cond (unsound_refused t) (accepted_result (length (added_by i)) (count is_held (added_by i))) (refused_result (unsound_refusal t).number (unsound_refusal t).line))
      ∙ go (fit i.settings)
    where
      go : (b : Bool) → refused_result (cond b (outcome 105 0) (outcome 104 0)).number (cond b (outcome 105 0) (outcome 104 0)).line ≡ cond b (refused_result 105 0) (refused_result 104 0)
      go true = refl
      go false = refl

  pub unsound_run : run_after i ≡ i.run
  unsound_run = (refused_leaves i unsound_refused).0

  pub unsound_used : used_after i ≡ i.used
  unsound_used = (refused_leaves i unsound_refused).1

pub unsound_same : (i j : Input) → i.settings ≡ j.settings → is_sound i.run i.used ≡ false → is_sound j.run j.used ≡ false → book_result i ≡ book_result j
unsound_same i j same unsound unsound' =
    unsound_result i unsound ∙ ap (λ (s : Settings). cond (fit s) (refused_result 105 0) (refused_result 104 0)) same ∙ sym (unsound_result j unsound')

-- ---- what stands past the used places
module _ (s : Settings) (file : List ℕ) (used : ℕ) where
  abbrev pub lent : List Entry → Input
  lent run = record { settings = s; file = file; run = run; used = used }

  module _ (run run' : List Entry) (same : take used run ≡ take used run') (size : length run ≡ length run') where
    same_refusal : book_refusal (lent run) ≡ book_refusal (lent run')
    unfolding book_refusal book_refusals opening_refusals
    same_refusal = simp (past_used run run' used same size, size, same)

    pub same_result : book_result (lent run) ≡ book_result (lent run')
    unfolding book_result
    same_result = simp (same_refusal, same)
