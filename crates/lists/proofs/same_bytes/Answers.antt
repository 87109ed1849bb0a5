-- `lists::same_bytes` meets its contract: `==` of the two and the definition both decide whether they are the same (`same_pointwise`).
-- Assumes nothing.
use Rattle.std.proofs.Common.{◌∙◌}
use Rattle.lists.proofs.Bytes.{same_pointwise}
use Rattle.lists.proofs.same_bytes.Goals as goal

pub returns : goal.returns
returns c = c.eq.ensures ∙ same_pointwise c.args.s.now c.args.t.now
