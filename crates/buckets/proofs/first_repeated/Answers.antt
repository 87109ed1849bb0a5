-- `buckets::first_repeated` meets its contract. The loop's invariant: the first i places are in the tree, and none of them repeats an earlier value.
-- Assumes nothing.
use Rattle.buckets.proofs.Trees.{unrepeated_more, unrepeated_here, unrepeated_end}
use native.Mathlib.Omega.{arith}
use Rattle.buckets.proofs.first_repeated.Goals as goal

pub returns-then-put-i-clause-value : goal.returns-then-put-i-clause-value
returns-then-put-i-clause-value c = unrepeated_here _ c.args.values.now _ _ c.loop-i-test.true _ c.put.auto.slots c.put.ensures c.if-put-i.true c.loop-i.invariant

pub loop-i-preserved : goal.loop-i-preserved
loop-i-preserved c = unrepeated_more _ c.args.values.now _ _ c.loop-i-test.true _ c.put.auto.slots c.put.ensures c.if-put-i.false c.loop-i.invariant

pub returns-clause-value : goal.returns-clause-value
returns-clause-value c = unrepeated_end _ c.args.values.now _ _ (omega (arith, c.loop-i-test.false)) c.loop-i.invariant
