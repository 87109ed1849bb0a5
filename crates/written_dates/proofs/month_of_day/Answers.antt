-- `written_dates::month_of_day` meets its contract. The loop's invariant: the month does not start after the day.
-- Assumes nothing.
use native.Mathlib.Omega.{arith}
use Rattle.written_dates.proofs.Dates.{month_guess, in_this, in_last}
use Rattle.written_dates.proofs.month_of_day.Goals as goal

pub loop-k-init : goal.loop-k-init
loop-k-init c = month_guess c.args.day

pub returns-then-day-first_day : goal.returns-then-day-first_day
returns-then-day-first_day c = in_this c.loop-k.k c.args.day _ (omega arith) c.loop-k.invariant c.if-day-first_day.true c.first_day.ensures.0

pub loop-k-preserved : goal.loop-k-preserved
loop-k-preserved c = omega (arith, c.first_day.ensures.0)

pub returns : goal.returns
returns c = in_last c.loop-k.k c.args.day (omega arith) c.loop-k.invariant (omega arith)
