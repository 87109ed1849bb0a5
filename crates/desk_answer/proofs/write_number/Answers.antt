-- `desk_answer::write_number` meets its contract: the digits are a piece, and the store is one byte more.
-- Assumes nothing.
use native.Mathlib.Omega.{arith}
use mathlib.Core.List.{[], ◌∷◌}
use mathlib.Core.Path.{sym, ◌∙◌}
use Rattle.writing.specs.Decimals.{plain_digits}
use Rattle.writing.proofs.Places.{piece, written_one}
use Rattle.desk_answer.proofs.write_number.Goals as goal

pub returns : goal.returns
returns c = (
  sym (piece c.args.out.now c.args.at c.write_plain-to.new.out (plain_digits c.args.n) (c.args.end ∷ []) c.write_plain-to.result (omega arith) c.write_plain-to.ensures.0 c.write_plain-to.ensures.1 ∙ sym (written_one c.write_plain-to.new.out c.write_plain-to.result c.args.end (omega arith))),
  omega arith,
)
