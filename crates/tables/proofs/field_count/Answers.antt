-- `field_count` meets its contract: each arm has the length of its type's table.
-- Assumes nothing.
use Rattle.tables.specs.Tables.{field_count, field_counts}
use lib.ListN.{get_or-eq_default}
use mathlib.Core.Path.{sym}
use Rattle.lists.proofs.Numbers.{past_those}
use Rattle.tables.proofs.field_count.Goals as goal

pub returns-in-0 : goal.returns-in-0
unfolding field_count
returns-in-0 c = rw c.in-0.is

pub returns-in-1 : goal.returns-in-1
unfolding field_count
returns-in-1 c = rw c.in-1.is

pub returns-in-2 : goal.returns-in-2
unfolding field_count
returns-in-2 c = rw c.in-2.is

pub returns-in-3 : goal.returns-in-3
unfolding field_count
returns-in-3 c = rw c.in-3.is

pub returns-in-4 : goal.returns-in-4
unfolding field_count
returns-in-4 c = rw c.in-4.is

pub returns-in-5 : goal.returns-in-5
unfolding field_count
returns-in-5 c = rw c.in-5.is

pub returns-in-6 : goal.returns-in-6
unfolding field_count
returns-in-6 c = rw c.in-6.is

pub returns-in-7 : goal.returns-in-7
unfolding field_count
returns-in-7 c = rw c.in-7.is

pub returns-in-8 : goal.returns-in-8
unfolding field_count
returns-in-8 c = rw c.in-8.is

pub returns-in_default : goal.returns-in_default
unfolding field_count
returns-in_default c = sym (get_or-eq_default field_counts 0 (past_those 9 c.in_default.in_default-own.rest))
