-- `is_misplaced` meets its contract: past the first test the type is no last one, or FT, and what comes before decides.
-- Assumes nothing.
use Rattle.format.specs.Format.{misplaced}
use lib.ListN.{length, get_or}
use lib.Dec.{eqb}
use borrow.Author.Tests.{eq-eqb, ne_eqb}
use Prim.Native.Nat.{◌+◌}
use mathlib.Core.Bool.{not, false, ◌&&◌, and-false, or-true, or-false}
use mathlib.Core.Path.{◌≡◌}
use Rattle.format.proofs.is_misplaced.Goals.{else-i-types, then-i-types+else-present-ne-FT}
use Rattle.format.proofs.is_misplaced.Goals as goal

pub returns-then-present-ne-FT : goal.returns-then-present-ne-FT
unfolding misplaced
returns-then-present-ne-FT c = simp (eq-eqb _ _ c.if-i-types.true, ne_eqb _ _ c.if-present-ne-FT.true, or-true)

pub returns-then-i-eq0 : goal.returns-then-i-eq0
unfolding misplaced
returns-then-i-eq0 c =
    let last : (eqb (c.args.i + 1) (length c.args.types.now) && not (eqb (get_or c.args.types.now c.args.i 0) 8)) ≡ false =
    elim c.if-i-types.branch [ then-i-types+else-present-ne-FT w ↦ simp (eq-eqb (get_or c.args.types.now c.args.i 0) 8 w.if-present-ne-FT.false, and-false) | else-i-types w ↦ simp (ne_eqb (c.args.i + 1) (length c.args.types.now) w.if-i-types.false) ] in
    rw (last, or-false, c.if-i-eq0.true)

pub returns : goal.returns
unfolding misplaced
returns c =
    let last : (eqb (c.args.i + 1) (length c.args.types.now) && not (eqb (get_or c.args.types.now c.args.i 0) 8)) ≡ false =
    elim c.if-i-types.branch [ then-i-types+else-present-ne-FT w ↦ simp (eq-eqb (get_or c.args.types.now c.args.i 0) 8 w.if-present-ne-FT.false, and-false) | else-i-types w ↦ simp (ne_eqb (c.args.i + 1) (length c.args.types.now) w.if-i-types.false) ] in
    simp (last, or-false, ne_eqb _ _ c.if-i-eq0.false, c.may_follow.ensures)
