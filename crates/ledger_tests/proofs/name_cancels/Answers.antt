-- Answers to the goals of `ledger_tests::name_cancels`: at the start no place is noted; a record that names none is the answer; else it passes; and at the end all have passed.
-- Assumes nothing.
use mathlib.Core.Path.{◌≡◌, sym, ◌∙◌}
use native.Mathlib.Omega.{arith}
use lib.ListN.{length}
use Rattle.booking.specs.Booking.{first_unnamed}
use Rattle.file_bills.specs.InsideBills.{file_in}
use Rattle.ledger_tests.proofs.Naming.{unnamed_in, naming_fail, naming_step, naming_all}
use Rattle.ledger_tests.proofs.Resumed.{resumed_end}
use Rattle.ledger_tests.proofs.name_cancels.Goals as goal

pub returns-then-not-name_cancel : goal.returns-then-not-name_cancel
unfolding first_unnamed
returns-then-not-name_cancel c = record {
  value = sym (naming_fail c.loop-k.invariant c.requires.source.0 c.requires.source.1 (omega (arith, c.requires.source.0.count)) c.name_cancel.ensures c.if-not-name_cancel.true);
  named = λ z. absurd (omega arith);
}

pub loop-k-preserved : goal.loop-k-preserved
loop-k-preserved c =
    naming_step c.loop-k.invariant c.requires.source.0 c.requires.source.1 (omega (arith, c.requires.source.0.count)) c.name_cancel.ensures c.if-not-name_cancel.false (omega arith) (omega arith)

pub returns : goal.returns
unfolding first_unnamed
returns c =
    let count = c.requires.source.0.count in
    let end : length c.args.bills.now ≡ c.loop-k.k = omega arith in
    record {
      value = end ∙ sym (resumed_end unnamed_in c.args.chains.now.entries.now (file_in c.args.file.now).bills c.loop-k.k (omega arith) c.loop-k.invariant.resumed);
      named = λ _. naming_all c.loop-k.invariant (omega arith) (omega arith);
    }
