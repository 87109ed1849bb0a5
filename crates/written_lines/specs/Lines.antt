-- Lines that are written: a byte between the parts, and byte 10 last.
-- Assumes nothing.
use Rattle.std.specs.Prelude.{ℕ, List, [], ◌∷◌, ◌++◌}

-- the parts, with the byte `between` after each but the last, and byte 10 after that
unfoldable pub line_of : ℕ → List (List ℕ) → List ℕ
line_of between [] = 10 ∷ []
line_of between (l ∷ []) = l ++ (10 ∷ [])
line_of between (l ∷ m ∷ ls) = l ++ (between ∷ line_of between (m ∷ ls))
