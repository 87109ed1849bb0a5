-- `readings::more_digits` meets its contract. The loop's invariant: the bytes so far are digits, and the value is the number that they write.
-- Assumes nothing.
use Rattle.std.proofs.Common.{◌≡◌, ◌+◌, ◌%◌, ◌≤◌, ◌<◌, ℕ, get_or, refl, sym, ◌∙◌, arith}
use Rattle.readings.proofs.Runs.{small_run, run_digits, run_value}
use Rattle.readings.proofs.more_digits.Goals as goal

-- a byte that is at most 9 past 48, where sums wrap at 256
digit_byte : (b : ℕ) → b < 256 → (b + 208) % 256 ≤ 9 → b ≡ (b + 208) % 256 + 48
digit_byte b h d = omega arith

pub overflow_mul-value : goal.overflow_mul-value
overflow_mul-value c = omega (arith, small_run c.args.s.now c.loop-len.len c.loop-len.value (omega arith) (omega arith) c.loop-len.invariant.2 c.loop-len.invariant.3)

pub overflow_add-value : goal.overflow_add-value
overflow_add-value c = omega (arith, small_run c.args.s.now c.loop-len.len c.loop-len.value (omega arith) (omega arith) c.loop-len.invariant.2 c.loop-len.invariant.3)

pub loop-len-preserved : goal.loop-len-preserved
loop-len-preserved c =
    let digit : get_or c.args.s.now c.loop-len.len 0 ≡ c.from.result + 48 = digit_byte (get_or c.args.s.now c.loop-len.len 0) (omega (arith, c.type_inv.s c.loop-len.len)) c.if-digit-gt9.false ∙ rw c.from.ensures refl in (
      omega arith,
      omega arith,
      run_digits c.args.s.now c.loop-len.len (omega arith) c.loop-len.invariant.2 (omega (arith, digit)) (omega (arith, digit, c.from.ensures)),
      sym (run_value c.args.s.now c.loop-len.len (omega arith) ∙ rw c.loop-len.invariant.3 (omega (arith, digit))),
    )
