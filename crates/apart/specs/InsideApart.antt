-- Spans of numbers, both ends in, in two columns: which is shown to come before which, and that no two meet.
-- Assumes nothing.
use Rattle.std.specs.Prelude.{ℕ, ◌<◌, ◌≤◌, Bool, cond, ◌&&◌, List, nat_le, nat_lt, slice_index}
use Rattle.lists.specs.Below.{some_below}

-- x is in the span at a
abbrev pub Within : List ℕ → List ℕ → ℕ → ℕ → Type 0
Within firsts lasts a x = (slice_index firsts a ≤ x) × (x ≤ slice_index lasts a)

-- the span at a is over before that at b begins, and that at b does not end before it begins: so that it carries over
abbrev pub Before : List ℕ → List ℕ → ℕ → ℕ → Type 0
Before firsts lasts a b = (slice_index firsts b ≤ slice_index lasts b) × (slice_index lasts a < slice_index firsts b)

-- no number is in two of the first n spans
unfoldable pub Apart : List ℕ → List ℕ → ℕ → Type 0
Apart firsts lasts n = (a b x : ℕ) → a < b → b < n → Within firsts lasts a x → Within firsts lasts b x → ⊥

-- two spans have a number in common: the later of their first numbers is in both
abbrev pub later_first : List ℕ → ℕ → ℕ → ℕ
later_first firsts a b = cond (nat_lt (slice_index firsts a) (slice_index firsts b)) (slice_index firsts b) (slice_index firsts a)

unfoldable pub meet : List ℕ → List ℕ → ℕ → ℕ → Bool
meet firsts lasts a b = nat_le (later_first firsts a b) (slice_index lasts a) && nat_le (later_first firsts a b) (slice_index lasts b)

-- some two of the first n do
unfoldable pub some_meet : List ℕ → List ℕ → ℕ → Bool
some_meet firsts lasts n = some_below (λ (b : ℕ). some_below (λ (a : ℕ). meet firsts lasts a b) b) n

-- two of the first n spans, and a number that is in both
pub record Meeting (firsts lasts : List ℕ) (n : ℕ) : Type 0 where
  pub one : ℕ
  pub other : ℕ
  pub number : ℕ
  pub earlier : one < other
  pub last : other < n
  pub in_one : Within firsts lasts one number
  pub in_other : Within firsts lasts other number
