-- Answers to the goals of `used_entries::first_in_chain`: the walk's last place found is the first that is wanted.
-- Assumes nothing.
use mathlib.Core.Path.{ap}
use lib.Dec.{eqb}
use lib.ListN.{length, get_or}
use Rattle.lists.proofs.Selections.{and_right}
use Rattle.buckets.specs.InsideChains.{link_of}
use Rattle.buckets.proofs.Chains.{walk_end}
use Rattle.entries.specs.Entries.{entry_of}
use Rattle.used_entries.specs.InsideSearches.{unmarked_and}
use Rattle.used_entries.proofs.first_in_chain.Goals as goal

pub returns : goal.returns
returns g c =
    let es = c.args.entries.now in
    walk_end (unmarked_and g.said.1 es c.args.marks.now) (length c.args.heads.now) (λ p. g.said.0 (entry_of es p)) (length es) c.args.sought (λ p h t. c.requires.1.1.0 (entry_of es p) (and_right (eqb (get_or c.args.marks.now p 0) 0) (g.said.1 (entry_of es p)) t))
    c.loop-at.invariant (ap link_of c.in_default.is)
