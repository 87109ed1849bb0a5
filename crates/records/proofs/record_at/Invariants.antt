-- `record_at` meets its contract. The loop's invariant: n fields have their places, and the fields of the rest of the line are left.
-- Where 24 fields don't reach the end of the line, there are more than 24.
-- Assumes nothing.
use Rattle.records.proofs.Placed.{Going}
use Rattle.records.specs.InsidePlacedLines.{part}
use Rattle.records.specs.Text.{fields_of}
use lib.ListN.{length}
use Prim.Native.Nat.{◌≤◌}
use mathlib.Core.Path.{◌≡◌}
use Rattle.records.proofs.record_at.Given as goal

abbrev pub invariant-loop-n : goal.invariant-loop-n
invariant-loop-n l = (l.a ≤ l.end) × (length l.starts ≡ 24) × (length l.ends ≡ 24) × Going l.file l.n l.starts l.ends (fields_of (part l.file l.start l.end)) (fields_of (part l.file l.a l.end))
