-- Answers to the goals of `used_entries::KeyChains::first_named`: without a Reference ID nothing is named, and with one the walk decides.
-- Assumes nothing.
use mathlib.Core.Path.{sym, ap, ◌∙◌}
use Prim.Native.Nat.{ℕ}
use borrow.Author.Tests.{ne_eqb}
use Rattle.used_entries.specs.InsideSearches.{names_as, named_first}
use Rattle.used_entries.proofs.Laws.{named_none}
use Rattle.used_entries.proofs.KeyChains.first_named.Goals as goal

pub returns-then-reference-eq0 : goal.returns-then-reference-eq0
returns-then-reference-eq0 c = sym (ap (λ (r : ℕ). named_first c.args.self.now.entries.now c.args.marks.now r c.args.c) c.if-reference-eq0.true ∙ named_none c.args.self.now.entries.now c.args.marks.now c.args.c)

pub returns : goal.returns
unfolding named_first names_as
returns c = simp (ne_eqb c.args.reference 0 c.if-reference-eq0.false) c.first_in_chain.ensures
