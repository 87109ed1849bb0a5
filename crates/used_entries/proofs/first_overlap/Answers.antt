-- Answers to the goals of `used_entries::first_overlap`: what overlaps is of the site, and the first place found is the first entry's.
-- Assumes nothing.
use mathlib.Core.Path.{◌∙◌}
use Rattle.used_entries.specs.InsideSited.{overlaps_entry}
use Rattle.used_entries.proofs.Sites.{first_entry}
use Rattle.used_entries.proofs.first_overlap.Goals as goal

pub returns : goal.returns
returns c = c.first_in_chain.ensures ∙ first_entry (overlaps_entry c.args.a) c.args.entries.now
