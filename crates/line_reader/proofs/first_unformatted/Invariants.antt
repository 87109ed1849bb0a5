-- `first_unformatted` meets its contract. The loop's invariant: no line before i fails test 2.
-- Assumes nothing.
use Prim.Native.Nat.{ℕ, ◌<◌}
use mathlib.Core.Bool.{false}
use mathlib.Core.Path.{◌≡◌}
use Rattle.format.specs.Format.{line_at, unformatted}
use Rattle.records.specs.Text.{lines_of}
use Rattle.line_reader.proofs.first_unformatted.Given as goal

abbrev pub invariant-loop-i : goal.invariant-loop-i
invariant-loop-i l = (j : ℕ) → j < l.i → unformatted (line_at (lines_of l.lines.bytes.now) j) ≡ false
