-- `tables::pick` meets its contract. The loop's invariant: the front of `out` holds the value picked for each record passed.
-- Assumes nothing.
use Rattle.tables.specs.Groups.{picked, picked_at}
use Rattle.tables.proofs.RecordTypes.{tabling_none, tabling_more, tabling_end}
use lib.ListN.{length}
use borrow.Author.Rules.{rules}
use native.Mathlib.Omega.{arith}
use Rattle.tables.proofs.pick.Goals as goal

pub loop-i-init : goal.loop-i-init
loop-i-init c = (search rules, search rules, tabling_none (picked_at c.args.types.now c.args.values.now c.args.low c.args.high) _)

pub loop-i-preserved : goal.loop-i-preserved
loop-i-preserved c =
    (search rules, search rules, tabling_more (picked_at c.args.types.now c.args.values.now c.args.low c.args.high) c.args.out.now c.loop-i.i c.loop-i.out c.chosen.result (omega arith) c.loop-i.invariant.2 c.chosen.ensures)

pub returns : goal.returns
unfolding picked
returns c =
    tabling_end (picked_at c.args.types.now c.args.values.now c.args.low c.args.high) c.args.out.now (length c.args.types.now) c.loop-i.i c.loop-i.out (omega arith) c.loop-i.invariant.2
