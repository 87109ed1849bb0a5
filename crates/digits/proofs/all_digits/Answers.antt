-- `digits::all_digits` meets its contract. The loop's invariant: the answer for the whole is the answer for what is left.
-- Assumes nothing.
use Rattle.std.proofs.Common.{true, false, sym, ◌∙◌, arith}
use Rattle.digits.proofs.Laws.{digits_next, digits_end}
use Rattle.digits.proofs.all_digits.Goals as goal

pub returns-then-not-is_ascii_digit : goal.returns-then-not-is_ascii_digit
returns-then-not-is_ascii_digit c =
    sym (c.loop-b.invariant ∙ digits_next c.args.s.now c.loop-b.b-index c.loop-b-test.true false (sym c.is_ascii_digit.ensures.value ∙ c.if-not-is_ascii_digit.true))

pub loop-b-preserved : goal.loop-b-preserved
loop-b-preserved c =
    c.loop-b.invariant ∙ digits_next c.args.s.now c.loop-b.b-index c.loop-b-test.true true (sym c.is_ascii_digit.ensures.value ∙ c.if-not-is_ascii_digit.false)

pub returns : goal.returns
returns c = sym (c.loop-b.invariant ∙ digits_end c.args.s.now c.loop-b.b-index (omega arith))
