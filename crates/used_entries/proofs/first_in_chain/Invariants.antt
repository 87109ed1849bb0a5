-- `used_entries::first_in_chain` meets its contract: a walk along the chain of the value that keeps the last place found.
-- Assumes nothing.
use lib.ListN.{length}
use Rattle.buckets.specs.InsideChains.{link_of, Walked}
use Rattle.entries.specs.Entries.{entry_of}
use Rattle.used_entries.specs.InsideSearches.{unmarked_and}
use Rattle.used_entries.proofs.first_in_chain.Given as goal

abbrev pub invariant-loop-at : goal.invariant-loop-at
invariant-loop-at g l = Walked (unmarked_and g.said.1 l.entries l.marks) (length l.heads) (λ p. g.said.0 (entry_of l.entries p)) (length l.entries) l.sought (link_of l.at) l.first

abbrev pub decreases-loop-at : goal.decreases-loop-at
decreases-loop-at g l = link_of l.at
