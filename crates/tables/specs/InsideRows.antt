-- The rows of a table one after the other, as a constant of the code holds them.
-- Assumes nothing.
use Rattle.std.specs.Prelude.{List, [], ◌∷◌, ◌++◌}

-- the rows one after the other, as a constant of the code holds them (proofs/Laws, `joined_row`)
abbrev pub joined {ℓ} : {A : Type ℓ} → List (List A) → List A
joined [] = []
joined (row ∷ rows) = row ++ joined rows
