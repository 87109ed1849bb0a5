-- `sound_ledgers::all_marked` meets its contract. The loop's invariant: the answer so far is yes where the cancelled entries passed have marks, and no where one has none.
-- Assumes nothing.
use Rattle.std.proofs.Common.{◌≡◌, get_or}
use mathlib.Core.Bool.{true, false}
use Rattle.sound_ledgers.specs.InsidePairing.{WithMarks}
use Rattle.sound_ledgers.proofs.all_marked.Given as goal

abbrev pub invariant-loop-j : goal.invariant-loop-j
invariant-loop-j l =
    (l.all ≡ true → WithMarks (λ i. get_or l.states i 0) l.j l.marks) × (l.all ≡ false → WithMarks (λ i. get_or l.states i 0) l.used l.marks → ⊥)
