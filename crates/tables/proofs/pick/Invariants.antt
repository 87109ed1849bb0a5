-- `tables::pick` meets its contract. The loop's invariant: the front of `out` holds the value picked for each record passed.
-- Assumes nothing.
use Rattle.tables.specs.Groups.{picked_at}
use Rattle.tables.proofs.RecordTypes.{Tabling}
use mathlib.Core.Path.{◌≡◌}
use lib.ListN.{length}
use Prim.Native.Nat.{◌≤◌}
use Rattle.tables.proofs.pick.Given as goal

abbrev pub invariant-loop-i : goal.invariant-loop-i
invariant-loop-i l = (l.i ≤ length l.types) × (length l.out ≡ length l.initial.out) × Tabling (picked_at l.types l.values l.low l.high) l.initial.out l.i l.out
