-- Bytes that a part of a line has, and lacks.
-- Assumes nothing.
use Rattle.std.specs.Prelude.{ℕ, List, [], ◌∷◌, Bool, true, not, ◌&&◌, eqb, ltb}

-- no byte is b
unfoldable pub lacks : ℕ → List ℕ → Bool
lacks b [] = true
lacks b (x ∷ xs) = not (eqb x b) && lacks b xs

-- every byte is past the comma (44): digits, letters, the minus and the point are, and the bytes that end fields and lines are not
unfoldable pub past_comma : List ℕ → Bool
past_comma [] = true
past_comma (x ∷ xs) = ltb 44 x && past_comma xs
