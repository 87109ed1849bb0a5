-- `readings::more_digits` meets its contract. The loop's invariant: the bytes so far are digits, and the value is the number that they write.
-- Assumes nothing.
use Rattle.std.proofs.Common.{◌≡◌, ◌≤◌, true, length, take}
use Rattle.digits.specs.Digits.{all_digits, number_of}
use Rattle.readings.proofs.more_digits.Given as goal

abbrev pub invariant-loop-len : goal.invariant-loop-len
invariant-loop-len l = (l.n ≤ length l.s) × (l.n ≤ 15) × (all_digits (take l.len l.s) ≡ true) × (l.value ≡ number_of (take l.len l.s))
