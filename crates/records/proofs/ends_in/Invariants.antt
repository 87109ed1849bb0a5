-- `records::ends_in` meets its contract. The loop's invariant: the bytes 10 of the whole are those counted and those of the bytes that are left.
-- Assumes nothing.
use Rattle.records.specs.InsideLineEnds.{line_ends}
use lib.ListN.{drop}
use Prim.Native.Nat.{◌+◌}
use mathlib.Core.Path.{◌≡◌}
use Rattle.records.proofs.ends_in.Given as goal

abbrev pub invariant-loop-i : goal.invariant-loop-i
invariant-loop-i l = line_ends l.s ≡ l.count + line_ends (drop l.i l.s)
