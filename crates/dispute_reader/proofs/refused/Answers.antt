-- `dispute_reader::refused` meets its contract: a refusal has no fields.
-- Assumes nothing.
use Rattle.dispute_lines.specs.Reading.{field_said, code_said}
use Rattle.dispute_reader.proofs.refused.Goals as goal

pub returns : goal.returns
unfolding code_said field_said
returns c = rw c.number.ensures
