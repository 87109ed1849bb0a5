-- Periods: two share a day just where some day is in both, whichever of them is named first.
-- Assumes nothing.
use mathlib.Core.Path.{◌≡◌}
use mathlib.Core.Logic.{◌↔◌}
use mathlib.Core.Bool.{true}
use Prim.Native.Nat.{ℕ, min, max}
use native.Mathlib.Nat.{min_comm, max_comm}
use native.Mathlib.Omega.{arith}
use borrow.Author.Tests.{le-leb, leb-true}
use Rattle.calendar.specs.declared.Period.{Period}
use Rattle.calendar.specs.Periods.{HasDay, shares_day}

pub shares_day_lem : (p q : Period) → (shares_day p q ≡ true) ↔ ((d : ℕ) × HasDay p d × HasDay q d)
unfolding shares_day
shares_day_lem p q = (
  λ e. let h = leb-true (max p.start q.start) (min p.end q.end) e in (max p.start q.start, omega arith, omega arith),
  λ w. le-leb (max p.start q.start) (min p.end q.end) (omega arith),
)

pub shares_day_symmetric : (p q : Period) → shares_day p q ≡ shares_day q p
unfolding shares_day
shares_day_symmetric p q = rw (max_comm p.start q.start, min_comm p.end q.end)
