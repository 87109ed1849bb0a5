-- Whether two runs of bytes are the same.
-- Assumes nothing.
use Rattle.std.specs.Prelude.{ℕ, List, Bool, not, ◌&&◌, length, get_or, eqb}
use Rattle.lists.specs.Below.{some_below}

abbrev pub differs_at : List ℕ → List ℕ → ℕ → Bool
differs_at xs ys i = not (eqb (get_or xs i 0) (get_or ys i 0))

unfoldable pub same_bytes : List ℕ → List ℕ → Bool
same_bytes xs ys = eqb (length xs) (length ys) && not (some_below (differs_at xs ys) (length xs))
