-- `tables::parent_type` meets its contract: each arm of the match answers what the list of the parents' types has there.
-- Assumes nothing.
use Rattle.tables.specs.Types.{parent_type}
use Rattle.lists.proofs.Numbers.{past_those}
use borrow.Author.Tests.{le-ltb}
use Rattle.tables.proofs.parent_type.Goals as goal

pub returns-in-0 : goal.returns-in-0
unfolding parent_type
returns-in-0 c = rw c.in-0.is

pub returns-in-1 : goal.returns-in-1
unfolding parent_type
returns-in-1 c = rw c.in-1.is

pub returns-in-2 : goal.returns-in-2
unfolding parent_type
returns-in-2 c = rw c.in-2.is

pub returns-in-3 : goal.returns-in-3
unfolding parent_type
returns-in-3 c = rw c.in-3.is

pub returns-in-4 : goal.returns-in-4
unfolding parent_type
returns-in-4 c = rw c.in-4.is

pub returns-in-5 : goal.returns-in-5
unfolding parent_type
returns-in-5 c = rw c.in-5.is

pub returns-in-6 : goal.returns-in-6
unfolding parent_type
returns-in-6 c = rw c.in-6.is

pub returns-in-7 : goal.returns-in-7
unfolding parent_type
returns-in-7 c = rw c.in-7.is

pub returns-in-8 : goal.returns-in-8
unfolding parent_type
returns-in-8 c = rw c.in-8.is

pub returns-in_default : goal.returns-in_default
unfolding parent_type
returns-in_default c = simp (le-ltb _ 9 (past_those 9 c.in_default.in_default-own.rest))
