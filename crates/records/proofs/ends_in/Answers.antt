-- `records::ends_in` meets its contract. The loop's invariant: the bytes 10 of the whole are those counted and those of the bytes that are left.
-- Assumes nothing.
use Rattle.records.proofs.LineEnds.{ends_none, ends_more, ends_kept, ends_few}
use native.Mathlib.Omega.{arith}
use Rattle.records.proofs.ends_in.Goals.{else-s-i-eq10, then-s-i-eq10}
use Rattle.records.proofs.ends_in.Goals as goal

pub overflow_add-count : goal.overflow_add-count
overflow_add-count c =
    omega (arith, ends_more c.args.s.now c.loop-i.i c.loop-i-test.true c.if-s-i-eq10.true, ends_few c.args.s.now)

pub loop-i-preserved : goal.loop-i-preserved
loop-i-preserved c =
    elim c.if-s-i-eq10.branch [ then-s-i-eq10 w ↦ omega (arith, ends_more c.args.s.now c.loop-i.i c.loop-i-test.true w.if-s-i-eq10.true) | else-s-i-eq10 w ↦ omega (arith, ends_kept c.args.s.now c.loop-i.i c.loop-i-test.true w.if-s-i-eq10.false) ]

pub returns : goal.returns
returns c = omega (arith, ends_none c.args.s.now c.loop-i.i c.loop-i-test.false)
