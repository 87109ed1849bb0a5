-- Answers to the goals of `used_entries::index`: the entry is put into the chain of its value.
-- Assumes nothing.
use mathlib.Core.Path.{sym}
use Rattle.entries.specs.Entries.{entry_of}
use Rattle.used_entries.proofs.index.Goals as goal

pub loop-i-preserved : goal.loop-i-preserved
loop-i-preserved g c = c.push.ensures.chains (λ p. g.value (entry_of c.args.entries.now p)) (sym (c.requires.1.1.1.1 _ _ c.value_of.ensures)) c.loop-i.invariant
