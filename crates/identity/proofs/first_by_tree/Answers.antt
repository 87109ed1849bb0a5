-- `identity::first_by_tree` meets its contract: the tree's search is test 9's (`tree_first`).
-- Assumes nothing.
use Rattle.std.proofs.Common.{◌∙◌}
use Rattle.buckets.proofs.Laws.{zeros}
use Rattle.identity.proofs.Search.{tree_first}
use Rattle.identity.proofs.first_by_tree.Goals as goal

pub first_repeated-requires-clause-by_index : goal.first_repeated-requires-clause-by_index
first_repeated-requires-clause-by_index g c = zeros g.row.WORDS

pub returns : goal.returns
returns g c = c.first_repeated.ensures.value ∙ tree_first c.args.ids.now
