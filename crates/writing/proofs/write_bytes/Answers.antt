-- `writing::write_bytes` meets its contract. The loop's invariant: what was to be written on the run as it was is what is left to be written on the
-- run as it is.
-- Assumes nothing.
use native.Mathlib.Omega.{arith}
use mathlib.Core.Path.{refl, sym, ap, ◌∙◌}
use lib.Seq.{take-length}
use lib.ListN.{length-set}
use Rattle.writing.specs.InsideWriting.{written_at}
use Rattle.writing.proofs.Loops.{bytes_back, bytes_end}
use Rattle.writing.proofs.write_bytes.Goals as goal

pub loop-k-init : goal.loop-k-init
loop-k-init c = (refl, sym (ap (written_at c.args.out.now c.args.at) (take-length c.args.bytes.now)))

pub loop-k-preserved : goal.loop-k-preserved
loop-k-preserved c = (
  simp length-set c.loop-k.invariant.0,
  c.loop-k.invariant.1 ∙ bytes_back c.loop-k.out c.args.at c.args.bytes.now c.loop-k.k (omega arith) (omega arith) (omega arith),
)

pub returns : goal.returns
returns c =
    sym (c.loop-k.invariant.1 ∙ bytes_end c.loop-k.out c.args.at c.args.bytes.now c.loop-k.k (omega arith))
