-- `sound_ledgers::mark_cancelled` meets its contract. The loop's invariant: the cancels passed have left their marks.
-- Assumes nothing.
use Rattle.std.proofs.Common.{arith}
use Rattle.sound_ledgers.proofs.Pairing.{marked_more, marked_kept, marked_twice}
use Rattle.sound_ledgers.proofs.mark_cancelled.Goals.{then-states-i-eq-CANCEL+in-Some+else-marks-j-ne0, else-states-i-eq-CANCEL}
use Rattle.sound_ledgers.proofs.mark_cancelled.Goals as goal

pub returns-then-marks-j-ne0-clause-unsound : goal.returns-then-marks-j-ne0-clause-unsound
returns-then-marks-j-ne0-clause-unsound c = λ _. marked_twice c.args.entries.now _ c.requires.keyed.differ c.loop-i.i c.in-Some.j c.loop-i.marks c.loop-i-test.true c.loop-i.invariant c.in-Some.ensures c.if-marks-j-ne0.true

pub loop-i-preserved : goal.loop-i-preserved
loop-i-preserved c =
    let es = c.args.entries.now in
    let state = c.requires.copied.0 c.loop-i.i c.loop-i-test.true in
    grind (arith, state, c.loop-i.invariant, c.loop-i.auto.marks, marked_more es c.loop-i.i c.loop-i.marks, marked_kept es c.loop-i.i c.loop-i.marks)
