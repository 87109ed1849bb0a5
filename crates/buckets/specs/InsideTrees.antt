-- Places in a tree by their values. Of the places that have the same value only the first, their leader, is in the tree.
-- The first `size` slots are buckets, and after them each place has two. A search begins at the bucket of its value; where the slot holds another value,
-- it goes on at one of that place's two slots, by the next bit of the value. A slot holds a place and one; 0 says none.
-- Assumes nothing.
use Rattle.std.specs.Prelude.{◌≡◌, List, ℕ, zero, suc, ◌+◌, ◌-◌, ◌*◌, ◌/◌, ◌%◌, ◌≤◌, ◌<◌, get_or, Bool, ltb}
use Rattle.buckets.specs.InsideBuckets.{first_place, Leads, bucket_of}
use Rattle.buckets.specs.declared.Spot.{Spot}

-- room for a tree of n places: at most 65,535 of them
abbrev pub TreeRoom : ℕ → ℕ → ℕ → Type 0
TreeRoom size n slots = (0 < size) × (size ≤ 65536) × (size + 2 * n ≤ slots) × (n ≤ 65535)

-- what is left of a value after n bits
unfoldable pub rest_at : ℕ → ℕ → ℕ
rest_at x zero = x
rest_at x (suc n) = rest_at x n / 2

-- the slot of a search for x after n steps
unfoldable pub slot_at : ℕ → List ℕ → ℕ → ℕ → ℕ
slot_at size tree x zero = bucket_of size x
slot_at size tree x (suc n) = size + 2 * (get_or tree (slot_at size tree x n) 0 - 1) + rest_at x n % 2

-- the search passes its first n slots: each holds a place that has another value
abbrev pub Passed : ℕ → List ℕ → List ℕ → ℕ → ℕ → Type 0
Passed size values tree x n = (j : ℕ) → j < n → (0 < get_or tree (slot_at size tree x j) 0) × (get_or values (get_or tree (slot_at size tree x j) 0 - 1) 0 ≡ x → ⊥)

-- and finds the place p after them
pub record Found (size : ℕ) (values tree : List ℕ) (x p : ℕ) : Type 0 where
  pub steps : ℕ
  pub passed : Passed size values tree x steps
  pub here : get_or tree (slot_at size tree x steps) 0 ≡ p + 1

-- the first m places are in the tree
pub record Indexed (size : ℕ) (values : List ℕ) (m : ℕ) (tree : List ℕ) : Type 0 where
  pub stored : (s : ℕ) → 0 < get_or tree s 0 → (get_or tree s 0 ≤ m) × Leads values (get_or tree s 0 - 1)
  pub rising : (p b : ℕ) → 0 < get_or tree (size + 2 * p + b) 0 → b < 2 → p + 1 < get_or tree (size + 2 * p + b) 0
  pub found : (p : ℕ) → p < m → Leads values p → Found size values tree (get_or values p 0) p

-- what a search for x says
pub record Searched (size : ℕ) (values : List ℕ) (m : ℕ) (tree : List ℕ) (x : ℕ) (r : Spot) : Type 0 where
  pub steps : ℕ
  pub passed : Passed size values tree x steps
  pub slot : r.slot ≡ slot_at size tree x steps
  pub content : r.content ≡ get_or tree r.slot 0
  pub below : r.slot < size + 2 * m
  pub first : (r.content ≡ 0 → ⊥) → first_place values m x ≡ r.content - 1
  pub none : r.content ≡ 0 → first_place values m x ≡ m

-- an earlier place has the value at i
unfoldable pub repeats_at : List ℕ → ℕ → Bool
repeats_at values i = ltb (first_place values i (get_or values i 0)) i
