-- `lists::find` meets its contract. The loop's invariant: no byte passed so far is the one that is looked for.
-- Assumes nothing.
use Rattle.std.proofs.Common.{rules, sym, arith}
use Rattle.lists.proofs.First.{passed_more, passed_here, passed_end}
use Rattle.lists.specs.First.{is_byte}
use borrow.Author.Tests.{eq-eqb, ne_eqb}
use Rattle.lists.proofs.find.Goals as goal

pub returns-then-x-b : goal.returns-then-x-b
returns-then-x-b c =
    sym (passed_here (is_byte c.args.b) c.args.s.now 0 c.loop-i.i (omega arith) c.loop-i.invariant (eq-eqb _ _ c.if-x-b.true))

pub loop-i-preserved : goal.loop-i-preserved
loop-i-preserved c = passed_more (is_byte c.args.b) c.args.s.now 0 c.loop-i.i (omega arith) c.loop-i.invariant (ne_eqb _ _ c.if-x-b.false)

pub returns : goal.returns
returns c = let e = passed_end (is_byte c.args.b) c.args.s.now c.loop-i.i (omega arith) c.loop-i.invariant in search rules
