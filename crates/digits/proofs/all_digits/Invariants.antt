-- `digits::all_digits` meets its contract. The loop's invariant: the answer for the whole is the answer for what is left.
-- Assumes nothing.
use Rattle.std.proofs.Common.{◌≡◌, drop}
use Rattle.digits.specs.Digits.{all_digits}
use Rattle.digits.proofs.all_digits.Given as goal

abbrev pub invariant-loop-b : goal.invariant-loop-b
invariant-loop-b l = all_digits l.s ≡ all_digits (drop l.b-index l.s)
