-- `writing::write_digits` meets its contract. The loop's invariant: what was to be written on the run as it was is what is left to be written on the
-- run as it is.
-- Assumes nothing.
use mathlib.Core.Path.{◌≡◌}
use lib.ListN.{length}
use Rattle.writing.specs.Decimals.{digits_in}
use Rattle.writing.specs.InsideWriting.{written_at}
use Rattle.writing.proofs.write_digits.Given as goal

abbrev pub invariant-loop-k : goal.invariant-loop-k
invariant-loop-k l = (length l.out ≡ length l.initial.out) × (written_at l.initial.out l.at (digits_in l.width l.n) ≡ written_at l.out l.at (digits_in l.k l.v))
