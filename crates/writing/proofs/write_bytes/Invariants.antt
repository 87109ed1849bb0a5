-- `writing::write_bytes` meets its contract. The loop's invariant: what was to be written on the run as it was is what is left to be written on the
-- run as it is.
-- Assumes nothing.
use mathlib.Core.Path.{◌≡◌}
use lib.ListN.{length, take}
use Rattle.writing.specs.InsideWriting.{written_at}
use Rattle.writing.proofs.write_bytes.Given as goal

abbrev pub invariant-loop-k : goal.invariant-loop-k
invariant-loop-k l = (length l.out ≡ length l.initial.out) × (written_at l.initial.out l.at l.bytes ≡ written_at l.out l.at (take l.k l.bytes))
