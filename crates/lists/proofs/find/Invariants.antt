-- `lists::find` meets its contract. The loop's invariant: no byte passed so far is the one that is looked for.
-- Assumes nothing.
use Rattle.lists.proofs.First.{Passed}
use Rattle.lists.specs.First.{is_byte}
use Rattle.lists.proofs.find.Given as goal

abbrev pub invariant-loop-i : goal.invariant-loop-i
invariant-loop-i l = Passed (is_byte l.b) l.s l.i
