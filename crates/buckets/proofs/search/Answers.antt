-- `buckets::search` meets its contract. The loop's invariant: the search has passed slots of other values; each step goes to a later place.
-- Assumes nothing.
use mathlib.Core.Path.{refl}
use Rattle.buckets.proofs.Trees.{walk_start, walk_more, walk_closer, walk_found, walk_end}
use Rattle.buckets.proofs.search.Goals as goal

pub loop-content-init : goal.loop-content-init
loop-content-init c = walk_start _ _ _ _ c.requires.indexed _ _ c.bucket-slot.ensures.0 c.bucket-slot.ensures.1

pub returns-then-values-content : goal.returns-then-values-content
returns-then-values-content c = walk_found _ _ _ _ c.requires.indexed _ c.loop-content.invariant c.loop-content-test.true c.if-values-content.true _ refl refl

pub loop-content-preserved : goal.loop-content-preserved
loop-content-preserved c = walk_more _ _ _ _ c.requires.indexed _ c.loop-content.invariant c.loop-content-test.true c.if-values-content.false _ refl

pub loop-content-smaller : goal.loop-content-smaller
loop-content-smaller c = walk_closer _ _ _ _ c.requires.indexed _ c.loop-content.invariant c.loop-content-test.true _ refl

pub returns : goal.returns
returns c = walk_end _ _ _ _ c.requires.indexed _ c.loop-content.invariant c.loop-content-test.false _ refl refl
