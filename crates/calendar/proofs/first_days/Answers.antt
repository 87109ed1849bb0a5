-- `calendar::first_days` meets its contract: the constant computes to the list that the rule makes.
-- Assumes nothing.
use mathlib.Core.Path.{refl}
use Rattle.calendar.specs.Calendar.{month_days}
use Rattle.calendar.specs.InsideFirstDays.{days_from, first_days}
use Rattle.calendar.proofs.first_days.Goals as goal

pub returns : goal.returns
unfolding first_days days_from month_days
returns c = refl
