-- `readings::leading_text` meets its contract. The loop's invariant: the bytes so far are no commas, and `value` is what they say to the base 256.
-- Assumes nothing.
use Rattle.readings.specs.InsideLeadingBytes.{field_end, packed}
use Rattle.std.proofs.Common.{◌≡◌, ◌^◌, ◌<◌, ◌≤◌, length, take}
use Rattle.readings.proofs.leading_text.Given as goal

abbrev pub invariant-loop-len : goal.invariant-loop-len
invariant-loop-len l = (l.n ≤ 4) × (l.n ≤ length l.s) × (l.value < 256 ^ l.len) × (l.len ≤ field_end l.s) × (l.value ≡ packed (take l.len l.s))
