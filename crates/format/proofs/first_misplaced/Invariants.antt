-- `first_misplaced` meets its contract. The loop's invariant: the search for a misplaced type has passed i places.
-- Assumes nothing.
use Rattle.format.specs.Format.{misplaced}
use Rattle.lists.proofs.Below.{Searched}
use lib.ListN.{length}
use Rattle.format.proofs.first_misplaced.Given as goal

abbrev pub invariant-loop-i : goal.invariant-loop-i
invariant-loop-i l = Searched (misplaced l.types) (length l.types) l.i
