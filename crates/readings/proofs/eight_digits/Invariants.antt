-- `readings::eight_digits` meets its contract. The loop's invariant: the bytes so far are digits, and the value is the number that they write.
-- Assumes nothing.
use Rattle.std.proofs.Common.{◌≡◌, true, take}
use Rattle.digits.specs.Digits.{all_digits, number_of}
use Rattle.readings.proofs.eight_digits.Given as goal

abbrev pub invariant-loop-i : goal.invariant-loop-i
invariant-loop-i l = (all_digits (take l.i l.s) ≡ true) × (l.value ≡ number_of (take l.i l.s))
