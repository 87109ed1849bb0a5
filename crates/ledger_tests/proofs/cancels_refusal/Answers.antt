-- Answers to the goals of `ledger_tests::cancels_refusal`: each return names the tests before it, which pass, and the one that is the answer.
-- Assumes nothing.
use mathlib.Core.List.{List}
use mathlib.Core.Path.{◌≡◌, refl}
use Prim.Native.Nat.{ℕ, ◌≤◌}
use native.Mathlib.Omega.{arith}
use lib.ListN.{length, length-replicate}
use Rattle.buckets.proofs.Laws.{zeros}
use Rattle.refusals.proofs.Stages.{none_fails}
use Rattle.bill_files.specs.Accepted.{BillFile}
use Rattle.entries.specs.declared.Entry.{Entry}
use Rattle.booking.specs.Booking.{first_unnamed}
use Rattle.booking.proofs.Accepting.{unnamed_most}
use Rattle.file_bills.specs.InsideBills.{file_in}
use Rattle.ledger_tests.proofs.Order.{bill_fails, bill_passes}
use Rattle.ledger_tests.proofs.cancels_refusal.Goals as goal

-- where test 39 passes, its answer is the number of records
all_named : (es : List Entry) (file : BillFile) {place n : ℕ} → place ≡ first_unnamed es file → n ≡ length file.bills → n ≤ place → place ≡ n
all_named es file found count far = omega (arith, unnamed_most es file)

pub name_cancels-unnamed-requires-clause-used_in_bounds : goal.name_cancels-unnamed-requires-clause-used_in_bounds
name_cancels-unnamed-requires-clause-used_in_bounds c = (omega (arith, length-replicate {A = ℕ} 8192 0), c.requires.used_bound.1, zeros 8192)

pub returns-then-unnamed-bills-clause-value : goal.returns-then-unnamed-bills-clause-value
returns-then-unnamed-bills-clause-value c =
    (bill_fails 39 (file_in c.args.file.now) c.requires.used_bound.2 c.name_cancels-unnamed.ensures.value c.if-unnamed-bills.true c.refused.ensures).first

pub first_unopposed-unopposed-requires : goal.first_unopposed-unopposed-requires
first_unopposed-unopposed-requires c = record {
  source = (
    c.requires.used_bound.2.source,
    c.name_cancels-unnamed.ensures.named
        (all_named c.args.chains.now.entries.now (file_in c.args.file.now) c.name_cancels-unnamed.ensures.value c.requires.used_bound.2.source.count c.if-unnamed-bills.false),
  );
}

pub returns-then-unopposed-bills-clause-value : goal.returns-then-unopposed-bills-clause-value
returns-then-unopposed-bills-clause-value c =
    (bill_passes 39 (file_in c.args.file.now) c.requires.used_bound.2 c.name_cancels-unnamed.ensures.value c.if-unnamed-bills.false
    (bill_fails 40 (file_in c.args.file.now) c.requires.used_bound.2 c.first_unopposed-unopposed.ensures c.if-unopposed-bills.true c.refused-then-unopposed-bills.ensures)).first

pub returns-clause-value : goal.returns-clause-value
returns-clause-value c =
    (bill_passes 39 (file_in c.args.file.now) c.requires.used_bound.2 c.name_cancels-unnamed.ensures.value c.if-unnamed-bills.false
    (bill_passes 40 (file_in c.args.file.now) c.requires.used_bound.2 c.first_unopposed-unopposed.ensures c.if-unopposed-bills.false (none_fails refl))).first

pub returns-clause-named : goal.returns-clause-named
returns-clause-named c =
    c.name_cancels-unnamed.ensures.named
    (all_named c.args.chains.now.entries.now (file_in c.args.file.now) c.name_cancels-unnamed.ensures.value c.requires.used_bound.2.source.count c.if-unnamed-bills.false)
