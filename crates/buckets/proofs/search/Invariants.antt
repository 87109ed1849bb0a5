-- `buckets::search` meets its contract. The loop's invariant: the search has passed slots of other values; each step goes to a later place.
-- Assumes nothing.
use Rattle.buckets.proofs.Trees.{Walked, distance}
use Rattle.buckets.proofs.search.Given as goal

abbrev pub invariant-loop-content : goal.invariant-loop-content
invariant-loop-content l = Walked l.size l.values l.m l.slots l.value l.slot l.content l.rest

abbrev pub decreases-loop-content : goal.decreases-loop-content
decreases-loop-content l = distance l.m l.content
