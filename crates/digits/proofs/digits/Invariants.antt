-- `digits::digits` meets its contract. The loop's invariant: the number so far, and the answers for the whole as the answers for what is left.
-- Assumes nothing.
use Rattle.std.proofs.Common.{◌≡◌, ◌<◌, ◌^◌, drop}
use Rattle.digits.specs.Digits.{all_digits, followed_by, number_of}
use Rattle.digits.proofs.digits.Given as goal

abbrev pub invariant-loop-b : goal.invariant-loop-b
invariant-loop-b l = (l.v < 10 ^ l.b-index) × (all_digits l.s ≡ all_digits (drop l.b-index l.s)) × (number_of l.s ≡ followed_by l.v (drop l.b-index l.s))
