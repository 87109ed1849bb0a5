-- `digits::digits` meets its contract. The loop's invariant: the number so far, and the answers for the whole as the answers for what is left.
-- Assumes nothing.
use Rattle.std.proofs.Common.{◌≡◌, ◌≤◌, ◌-◌, ℕ, List, true, false, length, get_or, sym, ◌∙◌, ap, rules, arith}
use Rattle.std.specs.Prelude.{Some}
use lib.Dec.{eqb}
use borrow.Author.Tests.{eqb-true, eqb-false}
use Rattle.digits.specs.Digits.{is_digit}
use Rattle.digits.proofs.Laws.{ten_more, ten_room, digits_next, digits_end, digit_range, followed_step, followed_end, digits_are, digits_not, digits_too_few, digits_too_many}
use Rattle.digits.proofs.digits.Goals as goal
use Rattle.digits.proofs.digits.Goals.{then-is_empty-via-then-is_empty, then-is_empty-via-else-is_empty+then-s-gt15}

some_bytes : (s : List ℕ) → eqb (length s) 0 ≡ false → 1 ≤ length s
some_bytes s e = let ne = eqb-false (length s) 0 e in omega (arith, ne)

pub returns-then-is_empty : goal.returns-then-is_empty
returns-then-is_empty c =
    elim c.then-is_empty.branch [
      | then-is_empty-via-then-is_empty w ↦ sym (digits_too_few c.args.s.now (omega (arith, eqb-true (length c.args.s.now) 0 (sym c.is_empty.ensures ∙ w.if-is_empty.true))))
      | then-is_empty-via-else-is_empty+then-s-gt15 w ↦ sym (digits_too_many c.args.s.now w.if-s-gt15.true)
    ]

pub returns-then-not-is_ascii_digit : goal.returns-then-not-is_ascii_digit
returns-then-not-is_ascii_digit c =
    sym (digits_not c.args.s.now (c.loop-b.invariant.1 ∙ digits_next c.args.s.now c.loop-b.b-index c.loop-b-test.true false (sym c.is_ascii_digit.ensures.value ∙ c.if-not-is_ascii_digit.true)))

pub overflow_mul-v : goal.overflow_mul-v
overflow_mul-v c = omega (arith, ten_room c.loop-b.b-index c.loop-b.invariant.0 (omega arith))

pub overflow_add-v : goal.overflow_add-v
overflow_add-v c = omega (arith, ten_room c.loop-b.b-index c.loop-b.invariant.0 (omega arith))

pub loop-b-preserved : goal.loop-b-preserved
loop-b-preserved c =
    let s = c.args.s.now in
    let i = c.loop-b.b-index in
    let digit : is_digit (get_or s i 0) ≡ true = sym c.is_ascii_digit.ensures.value ∙ c.if-not-is_ascii_digit.false in
    let range = digit_range (get_or s i 0) digit in
    let value : c.from.result ≡ get_or s i 0 - 48 = search rules in (
      rw value (ten_more i c.loop-b.invariant.0 (omega arith)),
      c.loop-b.invariant.1 ∙ digits_next s i c.loop-b-test.true true digit,
      c.loop-b.invariant.2 ∙ rw value (followed_step s i c.loop-b-test.true c.loop-b.v),
    )

pub returns : goal.returns
returns c =
    let s = c.args.s.now in
    sym (
    digits_are s (some_bytes s (sym c.is_empty.ensures ∙ c.if-is_empty.false)) (omega arith) (c.loop-b.invariant.1 ∙ digits_end s c.loop-b.b-index (omega arith))
    ∙ ap Some (c.loop-b.invariant.2 ∙ followed_end s c.loop-b.b-index (omega arith) c.loop-b.v))
