-- `buckets::index` meets its contract. The loop's invariant: the first i places are in the tree, and their first places in the column.
-- Assumes nothing.
use lib.ListN.{length}
use Rattle.buckets.proofs.Trees.{Indexing}
use Rattle.buckets.proofs.index.Given as goal

abbrev pub invariant-loop-i : goal.invariant-loop-i
invariant-loop-i l = Indexing l.size l.values (length l.values) l.initial.slots l.initial.leaders l.slots l.leaders l.i
