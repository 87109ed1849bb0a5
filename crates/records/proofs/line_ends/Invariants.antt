-- `records::line_ends` meets its contract. The loop's invariant: the bytes 10 of the file are those counted and those of the bytes that are left.
-- Assumes nothing.
use Rattle.std.proofs.Common.{◌≡◌, ◌+◌, ◌*◌, drop}
use Rattle.records.specs.InsideLineEnds.{line_ends}
use Rattle.records.proofs.line_ends.Given as goal

abbrev pub invariant-loop-k : goal.invariant-loop-k
invariant-loop-k l = line_ends l.file ≡ l.count + line_ends (drop (l.k * 128) l.file)
