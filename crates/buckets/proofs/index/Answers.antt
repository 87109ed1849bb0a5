-- `buckets::index` meets its contract. The loop's invariant: the first i places are in the tree, and their first places in the column.
-- Assumes nothing.
use Rattle.buckets.proofs.Trees.{first_no_later, indexing_more}
use native.Mathlib.Omega.{arith}
use Rattle.buckets.proofs.index.Goals as goal

pub overflow_cast-leaders : goal.overflow_cast-leaders
overflow_cast-leaders c = omega (arith, first_no_later c.args.values.now c.loop-i.i c.put.ensures.1)

pub loop-i-preserved : goal.loop-i-preserved
loop-i-preserved c =
    indexing_more _ c.args.values.now _ _ c.loop-i-test.true _ c.put.auto.slots c.put.ensures c.requires.room.1 c.loop-i.invariant
