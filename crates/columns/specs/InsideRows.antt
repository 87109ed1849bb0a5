-- The fields that the columns read, and the words in which the numbers of a line are stored.
-- Assumes nothing.
use Rattle.std.specs.Prelude.{ℕ, ◌+◌, ◌*◌, ◌<◌, ◌≡◌, List, [], ◌∷◌, map, length, get_or}
use Rattle.lists.specs.InsideTabulate.{tabulate}
use Rattle.columns.specs.Columns.{field_of}

-- the fields that the ten columns read of a record of a type, and those of all types
abbrev pub field_row : ℕ → List ℕ
field_row type = tabulate (λ (column : ℕ). field_of column type) 10 0

abbrev pub column_fields : List (List ℕ)
column_fields = map field_row (0 ∷ 1 ∷ 2 ∷ 3 ∷ 4 ∷ 5 ∷ 6 ∷ 7 ∷ 8 ∷ [])

-- the words `after` are `before` with the first `count` numbers of line i in their columns, which have room for `room` lines
pub record RowStored (room : ℕ) (before : List ℕ) (i : ℕ) (numbers : List ℕ) (count : ℕ) (after : List ℕ) : Type 0 where
  pub size : length after ≡ length before
  pub here : (column : ℕ) → column < count → get_or after (column * room + i) 0 ≡ get_or numbers column 0
  pub other : (column k : ℕ) → k < room → (k ≡ i → ⊥) → get_or after (column * room + k) 0 ≡ get_or before (column * room + k) 0
