-- `written_dates::month_of_day` meets its contract. The loop's invariant: the month does not start after the day.
-- Assumes nothing.
use Prim.Native.Nat.{◌≤◌}
use Rattle.calendar.specs.Calendar.{first_day}
use Rattle.written_dates.proofs.month_of_day.Given as goal

abbrev pub invariant-loop-k : goal.invariant-loop-k
invariant-loop-k l = first_day l.k ≤ l.day
