-- `first_misplaced` meets its contract. The loop's invariant: the search for a misplaced type has passed i places.
-- Assumes nothing.
use Rattle.format.specs.Format.{misplaced, first_misplaced}
use Rattle.lists.proofs.Below.{searched_none, searched_more, searched_here, searched_end}
use lib.ListN.{length}
use mathlib.Core.Path.{sym, ◌∙◌}
use native.Mathlib.Omega.{arith}
use Rattle.format.proofs.first_misplaced.Goals as goal

pub loop-i-init : goal.loop-i-init
loop-i-init c = searched_none (misplaced c.args.types.now) (length c.args.types.now)

pub returns-then-is_misplaced : goal.returns-then-is_misplaced
unfolding first_misplaced
returns-then-is_misplaced c =
    sym (searched_here (misplaced c.args.types.now) (length c.args.types.now) c.loop-i.i c.loop-i-test.true c.loop-i.invariant (sym c.is_misplaced.ensures ∙ c.if-is_misplaced.true))

pub loop-i-preserved : goal.loop-i-preserved
loop-i-preserved c =
    searched_more (misplaced c.args.types.now) (length c.args.types.now) c.loop-i.i c.loop-i-test.true c.loop-i.invariant (sym c.is_misplaced.ensures ∙ c.if-is_misplaced.false)

pub returns : goal.returns
unfolding first_misplaced
returns c =
    omega (arith, searched_end (misplaced c.args.types.now) (length c.args.types.now) c.loop-i.i c.loop-i-test.false c.loop-i.invariant)
