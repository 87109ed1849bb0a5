-- Answers to the goals of `ledger_tests::first_unopposed`: a record whose amounts are not the opposites is the answer; else it passes; and at the end all have passed.
-- Assumes nothing.
use mathlib.Core.Path.{◌≡◌, sym, ◌∙◌}
use native.Mathlib.Omega.{arith}
use lib.ListN.{length}
use Rattle.booking.specs.Booking.{first_unopposed}
use Rattle.file_bills.specs.InsideBills.{file_in}
use Rattle.ledger_tests.proofs.Opposed.{unopposed_in, place_within, opposed_same}
use Rattle.ledger_tests.proofs.Resumed.{resumed_here, resumed_more, resumed_end}
use Rattle.ledger_tests.proofs.first_unopposed.Goals as goal

pub is_unopposed-requires : goal.is_unopposed-requires
is_unopposed-requires c = place_within c.requires.source.1 c.requires.source.0 (omega (arith, c.requires.source.0.count))

pub returns-then-is_unopposed : goal.returns-then-is_unopposed
unfolding first_unopposed
returns-then-is_unopposed c =
    sym
    (resumed_here unopposed_in c.args.entries.now (file_in c.args.file.now).bills c.loop-k.k (omega (arith, c.requires.source.0.count)) c.loop-k.invariant
    (sym (c.is_unopposed.ensures ∙ opposed_same c.requires.source.1 c.requires.source.0 (omega (arith, c.requires.source.0.count))) ∙ c.if-is_unopposed.true))

pub loop-k-preserved : goal.loop-k-preserved
loop-k-preserved c =
    resumed_more unopposed_in c.args.entries.now (file_in c.args.file.now).bills c.loop-k.k (omega (arith, c.requires.source.0.count)) c.loop-k.invariant
    (sym (c.is_unopposed.ensures ∙ opposed_same c.requires.source.1 c.requires.source.0 (omega (arith, c.requires.source.0.count))) ∙ c.if-is_unopposed.false)

pub returns : goal.returns
unfolding first_unopposed
returns c =
    let end : length c.args.bills.now ≡ c.loop-k.k = omega arith in
    end ∙ sym (resumed_end unopposed_in c.args.entries.now (file_in c.args.file.now).bills c.loop-k.k (omega (arith, c.requires.source.0.count)) c.loop-k.invariant)
