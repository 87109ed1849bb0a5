-- `nearest_energized` meets its contract.
-- Assumes nothing.
use mathlib.Core.Path.{sym}
use borrow.Author.Tests.{eq-eqb}
use Rattle.readings.specs.InsideLeadingBytes.{packed_after}
use Rattle.line_reader.proofs.nearest_energized.Goals as goal

pub returns-then-record_type-eq-TH : goal.returns-then-record_type-eq-TH
unfolding packed_after
returns-then-record_type-eq-TH c = sym (rw (eq-eqb _ _ c.if-record_type-eq-TH.true))
