-- `calendar::Period::shares_day` meets its contract: it compares the later start with the earlier end, as the definition does.
-- Assumes nothing.
use Rattle.calendar.specs.Periods.{shares_day}
use Rattle.calendar.proofs.Period.shares_day.Goals as goal

pub returns : goal.returns
unfolding shares_day
returns c = rw (c.max.ensures, c.min.ensures)
