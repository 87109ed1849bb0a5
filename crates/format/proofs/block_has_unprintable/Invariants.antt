-- `block_has_unprintable` meets its contract. The loop's invariant: what is found is whether one of the bytes passed is unprintable.
-- Assumes nothing.
use Prim.Native.Nat.{ℕ}
use mathlib.Core.Path.{◌≡◌}
use mathlib.Core.List.{List}
use mathlib.Core.Bool.{Bool, not}
use lib.ListN.{get_or}
use Rattle.lists.specs.Below.{some_below}
use Rattle.format.specs.Format.{is_printable}
use Rattle.format.proofs.block_has_unprintable.Given as goal

-- the byte at place i is not 32 to 126
abbrev pub unprintable : List ℕ → ℕ → Bool
unprintable s i = not (is_printable (get_or s i 0))

abbrev pub invariant-loop-i : goal.invariant-loop-i
invariant-loop-i l = l.found ≡ some_below (unprintable l.s) l.i
