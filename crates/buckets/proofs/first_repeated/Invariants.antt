-- `buckets::first_repeated` meets its contract. The loop's invariant: the first i places are in the tree, and none of them repeats an earlier value.
-- Assumes nothing.
use lib.ListN.{length}
use Rattle.buckets.proofs.Trees.{Unrepeated}
use Rattle.buckets.proofs.first_repeated.Given as goal

abbrev pub invariant-loop-i : goal.invariant-loop-i
invariant-loop-i l = Unrepeated l.size l.values (length l.values) l.initial.slots l.slots l.i
