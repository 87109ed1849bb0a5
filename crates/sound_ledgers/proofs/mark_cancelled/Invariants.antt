-- `sound_ledgers::mark_cancelled` meets its contract. The loop's invariant: the cancels passed have left their marks.
-- Assumes nothing.
use Rattle.sound_ledgers.specs.InsidePairing.{Marked}
use Rattle.sound_ledgers.proofs.mark_cancelled.Given as goal

abbrev pub invariant-loop-i : goal.invariant-loop-i
invariant-loop-i l = Marked l.entries l.i l.marks
