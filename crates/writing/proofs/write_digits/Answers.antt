-- `writing::write_digits` meets its contract. The loop's invariant: what was to be written on the run as it was is what is left to be written on the
-- run as it is.
-- Assumes nothing.
use native.Mathlib.Omega.{arith}
use mathlib.Core.Path.{sym, ◌∙◌}
use lib.ListN.{length-set}
use Rattle.writing.proofs.Loops.{digits_back, digits_end}
use Rattle.writing.proofs.write_digits.Goals as goal

pub loop-k-preserved : goal.loop-k-preserved
loop-k-preserved c = (
  simp length-set c.loop-k.invariant.0,
  c.loop-k.invariant.1 ∙ digits_back c.loop-k.out c.args.at c.loop-k.k c.loop-k.v _ (omega arith) (omega arith) c.last_digit.ensures,
)

pub returns : goal.returns
returns c =
    sym (c.loop-k.invariant.1 ∙ digits_end c.loop-k.out c.args.at c.loop-k.k c.loop-k.v (omega arith))
