-- The record that a record hangs under, and records picked by their type. Columns are lists; `at` reads them.
-- Assumes nothing.
use Rattle.std.specs.Prelude.{ℕ, zero, suc, ◌+◌, List, [], ◌∷◌, Bool, cond, ◌&&◌, length, get_or, eqb, leb}
use Rattle.lists.specs.Below.{nearest_below}
use Rattle.tables.specs.Types.{parent_type}

abbrev pub at : List ℕ → ℕ → ℕ
at column i = get_or column i 0

abbrev pub of_type : List ℕ → ℕ → ℕ → Bool
of_type types t i = eqb (at types i) t

-- the place and one of the record that the record at i hangs under, or 0
unfoldable pub parent_place : List ℕ → ℕ → ℕ
parent_place types i = nearest_below (of_type types (parent_type (at types i))) i

-- f at 0 to n - 1
unfoldable pub tabled : (ℕ → ℕ) → ℕ → ℕ → List ℕ
tabled f i zero = []
tabled f i (suc n) = f i ∷ tabled f (suc i) n

abbrev pub parent_places : List ℕ → List ℕ
parent_places types = tabled (parent_place types) 0 (length types)

-- the values of the records of the types `low` to `high`, and 0 for the others
abbrev pub picked_at : List ℕ → List ℕ → ℕ → ℕ → ℕ → ℕ
picked_at types values low high i = cond (leb low (at types i) && leb (at types i) high) (at values i) 0

unfoldable pub picked : List ℕ → List ℕ → ℕ → ℕ → List ℕ
picked types values low high = tabled (picked_at types values low high) 0 (length types)

-- each record's own place and one
unfoldable pub all_places : ℕ → List ℕ
all_places n = tabled (λ (i : ℕ). i + 1) 0 n

-- 1 for each record
unfoldable pub ones : ℕ → List ℕ
ones n = tabled (λ (i : ℕ). 1) 0 n
