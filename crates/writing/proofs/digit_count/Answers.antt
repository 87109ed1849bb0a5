-- `writing::digit_count` meets its contract: the powers of ten round n say how many digits it has, and 0 is one digit.
-- Assumes nothing.
use mathlib.Core.Path.{sym}
use native.Mathlib.Omega.{arith}
use Rattle.writing.specs.Decimals.{digit_count}
use Rattle.writing.proofs.Numbers.{count_is}
use Rattle.writing.proofs.digit_count.Goals as goal

pub returns-in-Some : goal.returns-in-Some
unfolding digit_count
returns-in-Some c = sym (count_is 19 c.in-Some.k c.args.n (omega (arith, c.in-Some.ensures.bound)) c.in-Some.ensures.next_power_gt (λ _. c.in-Some.ensures.power_le))

pub returns-in-None : goal.returns-in-None
unfolding digit_count
returns-in-None c = sym (count_is 19 0 c.args.n (omega arith) (omega (arith, c.in-None.ensures.none)) (λ h. omega arith))
