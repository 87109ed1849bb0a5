-- `records::find_lines` meets its contract. The loop's invariant: the lines so far have their places, and the rest are those of the bytes that are left.
-- Assumes nothing.
use Rattle.records.proofs.Placed.{Going}
use Rattle.records.specs.Text.{lines_of}
use lib.ListN.{length, drop}
use Prim.Native.Nat.{◌-◌}
use mathlib.Core.Path.{◌≡◌}
use Rattle.records.proofs.find_lines.Given as goal

abbrev pub invariant-loop-a : goal.invariant-loop-a
invariant-loop-a l = (length l.starts ≡ length l.initial.starts) × (length l.ends ≡ length l.initial.ends) × Going l.file l.n l.starts l.ends (lines_of l.file) (lines_of (drop l.a l.file))

abbrev pub decreases-loop-a : goal.decreases-loop-a
decreases-loop-a l = length l.file - l.a
