-- `readings::begins_with_eight` meets its contract. The loop's invariant: where the answer is still yes, the bytes so far are digits.
-- Assumes nothing.
use Rattle.std.proofs.Common.{◌≡◌, ℕ, ◌<◌, ◌≤◌, true, get_or}
use Rattle.readings.proofs.begins_with_eight.Given as goal

abbrev pub invariant-loop-i : goal.invariant-loop-i
invariant-loop-i l = l.all ≡ true → (k : ℕ) → k < l.i → (48 ≤ get_or l.s k 0) × (get_or l.s k 0 ≤ 57)
