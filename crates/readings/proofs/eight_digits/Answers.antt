-- `readings::eight_digits` meets its contract. The loop's invariant: the bytes so far are digits, and the value is the number that they write.
-- Assumes nothing.
use Rattle.std.proofs.Common.{◌<◌, length, refl, sym, ◌∙◌, arith}
use Rattle.digits.specs.Digits.{all_digits, followed_by}
use Rattle.readings.proofs.Runs.{no_run, small_run, run_digits, run_value}
use Rattle.readings.proofs.eight_digits.Goals as goal

pub returns-then-not-begins_with_eight : goal.returns-then-not-begins_with_eight
returns-then-not-begins_with_eight c = no_run c.args.s.now c.no_digits.result c.no_digits.ensures.0 c.no_digits.ensures.1

pub loop-i-init : goal.loop-i-init
unfolding all_digits followed_by
loop-i-init c = (refl, refl)

pub overflow_mul-value : goal.overflow_mul-value
overflow_mul-value c =
    omega (arith, small_run c.args.s.now c.loop-i.i c.loop-i.value (omega (arith, c.requires, c.loop-i-test.true)) (omega (arith, c.loop-i-test.true)) c.loop-i.invariant.0 c.loop-i.invariant.1)

pub overflow_sub-s : goal.overflow_sub-s
overflow_sub-s c = omega (arith, (c.begins_with_eight.ensures c.if-not-begins_with_eight.false c.loop-i.i c.loop-i-test.true).0)

pub overflow_add-value : goal.overflow_add-value
overflow_add-value c =
    omega (arith, small_run c.args.s.now c.loop-i.i c.loop-i.value (omega (arith, c.requires, c.loop-i-test.true)) (omega (arith, c.loop-i-test.true)) c.loop-i.invariant.0 c.loop-i.invariant.1)

pub loop-i-preserved : goal.loop-i-preserved
loop-i-preserved c =
    let digit = c.begins_with_eight.ensures c.if-not-begins_with_eight.false c.loop-i.i c.loop-i-test.true in
    let within : c.loop-i.i < length c.args.s.now = omega (arith, c.requires, c.loop-i-test.true) in (
      run_digits c.args.s.now c.loop-i.i within c.loop-i.invariant.0 digit.0 digit.1,
      sym (run_value c.args.s.now c.loop-i.i within ∙ rw (c.loop-i.invariant.1, c.from.ensures)),
    )
