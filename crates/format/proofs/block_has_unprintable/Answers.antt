-- `block_has_unprintable` meets its contract. The loop's invariant: what is found is whether one of the bytes passed is unprintable.
-- Assumes nothing.
use mathlib.Core.Path.{◌∙◌}
use mathlib.Core.Bool.{and-false}
use borrow.Author.Tests.{le-leb, lt-leb}
use Rattle.format.proofs.Some.{some_start, some_now, some_kept}
use Rattle.format.proofs.block_has_unprintable.Invariants.{unprintable}
use Rattle.format.proofs.block_has_unprintable.Goals.{else-b-gt126, else-b-lt32, then-b-gt126, then-b-lt32}
use Rattle.format.proofs.block_has_unprintable.Goals as goal

pub loop-i-init : goal.loop-i-init
loop-i-init c = some_start (unprintable c.args.s.now)

pub loop-i-preserved : goal.loop-i-preserved
loop-i-preserved c =
    let f = unprintable c.args.s.now in elim c.if-b-gt126.branch [
      | then-b-gt126 w ↦ w.found-is ∙ some_now f c.loop-i.i (simp (lt-leb _ _ w.if-b-gt126.true, and-false))
      | else-b-gt126 w ↦ w.found-is
          ∙ elim c.if-b-lt32.branch [ then-b-lt32 v ↦ v.found-is ∙ some_now f c.loop-i.i (simp (lt-leb _ _ v.if-b-lt32.true)) | else-b-lt32 v ↦ v.found-is ∙ c.loop-i.invariant ∙ some_kept f c.loop-i.i (simp (le-leb _ _ v.if-b-lt32.false, le-leb _ _ w.if-b-gt126.false)) ]
    ]
