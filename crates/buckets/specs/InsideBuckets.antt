-- The first place that has a value, and the bucket of a value. Of the places that have the same value the first is their leader.
-- Assumes nothing.
use Rattle.std.specs.Prelude.{◌≡◌, List, ℕ, ◌+◌, ◌*◌, ◌/◌, ◌%◌, ◌<◌, eqb, get_or}
use Rattle.lists.specs.Below.{first_below}

-- the first of the first n places that has the value x, or n
abbrev pub first_place : List ℕ → ℕ → ℕ → ℕ
first_place values n x = first_below (λ (j : ℕ). eqb (get_or values j 0) x) n

-- no place before p has the value at p
abbrev pub Leads : List ℕ → ℕ → Type 0
Leads values p = first_place values p (get_or values p 0) ≡ p

-- each of the first m places has its leader in the column
abbrev pub Led : List ℕ → ℕ → List ℕ → ℕ → Type 0
Led values n leaders m = (i : ℕ) → i < m → get_or leaders i 0 ≡ first_place values n (get_or values i 0)

-- no two of the first n places have the same value
abbrev pub Distinct : List ℕ → ℕ → Type 0
Distinct values n = (i j : ℕ) → i < j → j < n → get_or values i 0 ≡ get_or values j 0 → ⊥

-- the bucket of a value, of `size` buckets
unfoldable pub bucket_of : ℕ → ℕ → ℕ
bucket_of size x = (x % 4294967296 + x / 4294967296) * 2135587861 / 2 % 4294967296 * size / 4294967296
