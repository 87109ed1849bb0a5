-- `writing::write_plain` meets its contract: as many digits as n has are all of them.
-- Assumes nothing.
use native.Mathlib.Omega.{arith}
use mathlib.Core.List.{List}
use mathlib.Core.Path.{◌≡◌, ◌∙◌, ap}
use Prim.Native.Nat.{ℕ}
use Rattle.writing.specs.Decimals.{digits_in, plain_digits, digit_count}
use Rattle.writing.specs.InsideWriting.{written_at}
use Rattle.writing.proofs.Numbers.{plain_length}
use Rattle.writing.proofs.write_plain.Goals as goal

same : (out : List ℕ) (at n k : ℕ) → k ≡ digit_count n → written_at out at (digits_in k n) ≡ written_at out at (plain_digits n)
unfolding plain_digits
same out at n k e = ap (λ (j : ℕ). written_at out at (digits_in j n)) e

pub write_digits-requires : goal.write_digits-requires
write_digits-requires c = omega (arith, plain_length c.args.n, c.digit_count-k.ensures)

pub overflow_add-result : goal.overflow_add-result
overflow_add-result c = omega (arith, plain_length c.args.n, c.digit_count-k.ensures)

pub returns : goal.returns
returns c = (
  c.write_digits.ensures ∙ same c.args.out.now c.args.at c.args.n _ c.digit_count-k.ensures,
  omega (arith, plain_length c.args.n, c.digit_count-k.ensures),
)
