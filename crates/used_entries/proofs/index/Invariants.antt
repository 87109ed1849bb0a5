-- `used_entries::index` meets its contract: the entries that are passed are in the chains of their values.
-- Assumes nothing.
use Rattle.buckets.specs.InsideChains.{Chained}
use Rattle.entries.specs.Entries.{entry_of}
use Rattle.used_entries.proofs.index.Given as goal

abbrev pub invariant-loop-i : goal.invariant-loop-i
invariant-loop-i g l = Chained (λ p. g.value (entry_of l.entries p)) l.i l.heads l.links
