-- Answers to the goals of `accepted_entries::write_original`: the place that is written is past those in the chains, so they are those of the new run too.
-- Assumes nothing.
use mathlib.Core.Path.{refl}
use borrow.Author.Tests.{ne_eqb}
use Rattle.accepted_entries.proofs.Runs.{by_site_next}
use Rattle.accepted_entries.proofs.write_original.Goals as goal

pub returns-clause-by_site_2 : goal.returns-clause-by_site_2
returns-clause-by_site_2 c =
    by_site_next c.args.run.now _ c.args.written.used _ c.args.heads.now c.args.links.now _ _ (c.requires.counted.2 (ne_eqb _ _ c.if-e-eq-CANCEL.false)) refl c.requires.by_site c.push.ensures
