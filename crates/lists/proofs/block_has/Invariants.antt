-- `lists::block_has` meets its contract. The loop's invariant: where nothing is found, no byte passed so far is the one that is looked for.
-- Assumes nothing.
use Rattle.std.proofs.Common.{◌≡◌, ℕ, ◌<◌, false, get_or}
use Rattle.lists.specs.First.{is_byte}
use Rattle.lists.proofs.block_has.Given as goal

abbrev pub invariant-loop-x : goal.invariant-loop-x
invariant-loop-x l = l.found ≡ false → (k : ℕ) → k < l.x-index → is_byte l.b (get_or l.block k 0) ≡ false
