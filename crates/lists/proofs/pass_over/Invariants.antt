-- `lists::pass_over` meets its contract. The loop's invariant: no byte passed so far is the one that is looked for.
-- Assumes nothing.
use Rattle.std.proofs.Common.{◌*◌}
use Rattle.lists.specs.First.{is_byte}
use Rattle.lists.proofs.First.{Passed}
use Rattle.lists.proofs.pass_over.Given as goal

abbrev pub invariant-loop-k : goal.invariant-loop-k
invariant-loop-k l = Passed (is_byte l.b) l.s (l.k * l.width)
