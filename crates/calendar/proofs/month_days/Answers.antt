-- `calendar::month_days` meets its contract: by the arms of its match.
-- Assumes nothing.
use Prim.Native.Nat.{◌%◌}
use Rattle.calendar.specs.Calendar.{month_days}
use mathlib.Core.Logic.{⊎_elim, inl, inr}
use mathlib.Core.Path.{sym, ◌∙◌}
use borrow.Author.Tests.{eq-eqb, ne_eqb}
use Rattle.calendar.proofs.month_days.Goals as goal

pub returns-then-leap : goal.returns-then-leap
unfolding month_days
returns-then-leap c = simp (eq-eqb _ _ c.in-1.is, sym c.leap.ensures ∙ c.if-leap.true)

pub returns-else-leap : goal.returns-else-leap
unfolding month_days
returns-else-leap c = simp (eq-eqb _ _ c.in-1.is, sym c.leap.ensures ∙ c.if-leap.false)

pub returns-in-3 : goal.returns-in-3
unfolding month_days
returns-in-3 c = ⊎_elim (λ e. rw e) (⊎_elim (λ e. rw e) (⊎_elim (λ e. rw e) (λ e. rw e))) c.in-3.is

pub returns-in_default : goal.returns-in_default
unfolding month_days
returns-in_default c =
    let m = c.args.month % 12 in
    simp (
      ne_eqb m 1 c.in_default.in_default-own.rest.0.1,
      ne_eqb m 3 (λ e. c.in_default.in_default-own.rest.1 (inl e)),
      ne_eqb m 5 (λ e. c.in_default.in_default-own.rest.1 (inr (inl e))),
      ne_eqb m 8 (λ e. c.in_default.in_default-own.rest.1 (inr (inr (inl e)))),
      ne_eqb m 10 (λ e. c.in_default.in_default-own.rest.1 (inr (inr (inr e)))),
    )
