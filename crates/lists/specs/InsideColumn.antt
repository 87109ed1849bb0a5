-- What a column of numbers holds.
-- Assumes nothing.
use Rattle.std.specs.Prelude.{ℕ, ◌<◌, ◌≡◌, List, get_or}

-- a column has f of each of its first m places
abbrev pub Copied : (ℕ → ℕ) → ℕ → List ℕ → Type 0
Copied f m column = (i : ℕ) → i < m → get_or column i 0 ≡ f i
