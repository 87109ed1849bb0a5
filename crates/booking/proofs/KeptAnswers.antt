-- Over a sound ledger Book never answers 105: every other refusal has another number.
-- Assumes nothing.
use mathlib.Core.Path.{◌≡◌, ap}
use mathlib.Core.Logic.{⊎_elim}
use mathlib.Core.Bool.{Bool, true, false, cond}
use Prim.Native.Nat.{ℕ}
use native.Mathlib.Omega.{arith}
use Rattle.refusals.specs.declared.Outcome.{Outcome}
use Rattle.refusals.specs.Check.{format_refusals, order_refusals, identity_refusals, header_refusals, period_refusals, site_refusals, period_total_refusals, trailer_refusals, child_refusals, total_refusals, tests_to12, tests_from14}
use Rattle.refusals.proofs.Refusals.{Unlike, first_of, all_unlike}
use Rattle.soundness.specs.Sound.{is_sound}
use Rattle.booking.specs.Booking.{ledger_refusals, Input, opening_refusals, book_refusals, book_refusal, is_booked, accepted_result, refused_result, book_result}

module _ (i : Input) (sound : is_sound i.run i.used ≡ true) where
  other_refusal : Unlike 105 (book_refusal i)
  unfolding book_refusal book_refusals opening_refusals ledger_refusals tests_to12 tests_from14 format_refusals order_refusals identity_refusals header_refusals period_refusals total_refusals site_refusals period_total_refusals trailer_refusals child_refusals
  other_refusal e =
      ⊎_elim (λ p. omega (arith, ap (λ (o : Outcome). o.number) p)) (λ r. r e)
      (first_of (Unlike 105) (book_refusals i) (all_unlike 105 (book_refusals i) (rw sound tt)))

  -- so its answer isn't that the ledger isn't sound
  pub never_105 : (book_result i).number ≡ 105 → ⊥
  unfolding book_result
  never_105 = go (is_booked i) _ _
    where
      go : (b : Bool) (added held : ℕ) → (cond b (accepted_result added held) (refused_result (book_refusal i).number (book_refusal i).line)).number ≡ 105 → ⊥
      go true added held e = omega arith
      go false added held e = other_refusal e
