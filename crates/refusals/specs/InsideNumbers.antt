-- The numbers of a list of refusals.
-- Assumes nothing.
use Rattle.std.specs.Prelude.{ℕ, List, map}
use Rattle.refusals.specs.Refusals.{Refusal}

-- their numbers, in order
abbrev pub numbers_of : List Refusal → List ℕ
numbers_of rs = map (λ (r : Refusal). r.number) rs
