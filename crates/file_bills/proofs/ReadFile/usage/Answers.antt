-- Answers to the goals of `file_bills::ReadFile::usage`: its column says it of the line.
-- Assumes nothing.
use mathlib.Core.Path.{sym, ap, ◌∙◌}
use borrow.Author.Rules.{rules}
use lib.Seq.{get_or-take}
use Rattle.lists.proofs.Signed.{value_kept}
use Rattle.amounts.specs.Amounts.{or_zero}
use Rattle.amounts.specs.InsideSaid.{said_by}
use Rattle.columns.proofs.Laws.{usage_at_lem}
use Rattle.file_bills.proofs.ReadFile.usage.Goals as goal

pub returns : goal.returns
returns c =
    let file = c.args.self.now in
    value_kept (search rules)
    (c.or_zero.ensures
    ∙ ap or_zero
    (c.said.ensures ∙ ap said_by (sym (get_or-take file.n file.usages.now c.args.i 0 c.requires)) ∙ usage_at_lem file.read.columns file.n file.read.placed.count c.args.i c.requires))
