-- The answer of Book, as code has it: how many entries were added and how many of them are held, or the refusal.
-- Assumes nothing.
use Rattle.std.specs.Prelude.{Result}
use Rattle.refusals.specs.declared.Outcome.{Outcome}
use Rattle.booking.specs.declared.Counts.{Counts}

abbrev pub Answer : Type 0
Answer = Result Counts Outcome
