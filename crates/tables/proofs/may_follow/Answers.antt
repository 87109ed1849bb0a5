-- `tables::may_follow` meets its contract: what is lent is the table of the followers.
-- Assumes nothing.
use Rattle.tables.specs.Types.{may_follow}
use mathlib.Core.Bool.{and-false}
use borrow.Author.Tests.{lt-ltb, le-ltb}
use Rattle.tables.proofs.may_follow.Goals as goal

pub returns-then-previous-ge9 : goal.returns-then-previous-ge9
unfolding may_follow
returns-then-previous-ge9 c = simp (le-ltb _ _ c.if-previous-ge9.true)

pub returns-then-present-ge9 : goal.returns-then-present-ge9
unfolding may_follow
returns-then-present-ge9 c = simp (le-ltb _ _ c.if-present-ge9.true, and-false)

pub returns : goal.returns
unfolding may_follow
returns c = simp (lt-ltb _ _ c.if-previous-ge9.false, lt-ltb _ _ c.if-present-ge9.false, c.follow_table.ensures)
