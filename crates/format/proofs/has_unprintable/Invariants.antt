-- `has_unprintable` meets its contract. The loop's invariant: each byte passed is printable.
-- Assumes nothing.
use Prim.Native.Nat.{ℕ, ◌*◌, ◌<◌}
use mathlib.Core.Path.{◌≡◌}
use mathlib.Core.Bool.{Bool, false, not}
use Rattle.format.specs.Format.{is_printable}
use Rattle.format.proofs.Blocks.{holds_at}
use Rattle.format.proofs.has_unprintable.Given as goal

abbrev pub unprintable : ℕ → Bool
unprintable b = not (is_printable b)

abbrev pub invariant-loop-k : goal.invariant-loop-k
invariant-loop-k l = (j : ℕ) → j < l.k * 32 → holds_at unprintable l.s j ≡ false
