-- `column_fields` meets its contract: the constant is what the columns' table computes to.
-- Assumes nothing.
use mathlib.Core.Path.{refl}
use Rattle.lists.specs.InsideTabulate.{tabulate}
use Rattle.columns.specs.Columns.{field_of}
use Rattle.columns.proofs.column_fields.Goals as goal

pub returns : goal.returns
unfolding tabulate field_of
returns c = refl
