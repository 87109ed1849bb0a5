-- `calendar::date_time_of` meets its contract: the date is the first eight bytes, the time what stands from byte 8 on.
-- Assumes nothing.
use Rattle.std.proofs.Common.{◌≡◌, ◌-◌, ℕ, List, length, take, drop, sym, ◌∙◌, ap}
use borrow.Author.Tests.{eq-eqb, ne_eqb}
use native.Mathlib.Nat.{le_refl}
use lib.ListN.{length-drop}
use lib.Seq.{take_all}
use Rattle.digits.specs.Digits.{digits_of}
use Rattle.calendar.specs.Calendar.{date_time_of}
use Rattle.calendar.proofs.date_time_of.Goals as goal

-- the bytes from byte 8 on are the time's
time_after : (s : List ℕ) → digits_of (drop 8 s) ≡ digits_of (take (length s - 8) (drop 8 s))
time_after s = ap digits_of (sym (take_all (length s - 8) (drop 8 s) (rw length-drop (le_refl _))))

pub returns-then-s-ne14 : goal.returns-then-s-ne14
unfolding date_time_of
returns-then-s-ne14 c = simp (ne_eqb _ _ c.if-s-ne14.true)

pub returns-in_err-day : goal.returns-in_err-day
unfolding date_time_of
returns-in_err-day c = simp (eq-eqb _ _ c.if-s-ne14.false, ← c.day_of.ensures, c.in_err-day.was) c.from_residual.ensures

pub returns-in_err-n : goal.returns-in_err-n
unfolding date_time_of
returns-in_err-n c =
    simp (eq-eqb _ _ c.if-s-ne14.false, ← c.day_of.ensures, c.in_ok-day.was, time_after c.args.s.now ∙ sym c.digits.ensures, c.in_err-n.was) c.from_residual-in_err-n.ensures

pub returns : goal.returns
unfolding date_time_of
returns c = simp (eq-eqb _ _ c.if-s-ne14.false, ← c.day_of.ensures, c.in_ok-day.was, time_after c.args.s.now ∙ sym c.digits.ensures, c.in_ok-n.was) c.at_time.ensures
