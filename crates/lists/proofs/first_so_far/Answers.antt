-- `lists::first_so_far` meets its contract: it asks what the definition asks, in the same order.
-- Assumes nothing.
use borrow.Author.Tests.{eq-eqb, ne_eqb}
use Rattle.lists.specs.InsideFirstSoFar.{first_after}
use Rattle.lists.proofs.first_so_far.Goals as goal

pub returns-then-first-n : goal.returns-then-first-n
unfolding first_after
returns-then-first-n c = simp (ne_eqb _ _ c.if-first-n.true)

pub returns-then-holds : goal.returns-then-holds
unfolding first_after
returns-then-holds c = simp (eq-eqb _ _ c.if-first-n.false, c.if-holds.true)

pub returns : goal.returns
unfolding first_after
returns c = simp (eq-eqb _ _ c.if-first-n.false, c.if-holds.false)
