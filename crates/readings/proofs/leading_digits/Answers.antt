-- `readings::leading_digits` meets its contract: none are read to begin with.
-- Assumes nothing.
use Rattle.readings.proofs.Runs.{no_run}
use Rattle.readings.proofs.leading_digits.Goals as goal

pub more_digits-requires : goal.more_digits-requires
more_digits-requires c = no_run c.args.s.now c.no_digits.result c.no_digits.ensures.0 c.no_digits.ensures.1
