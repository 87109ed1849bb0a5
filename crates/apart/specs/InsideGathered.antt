-- Periods of sites as spans of numbers, gathered in two columns.
-- Assumes nothing.
use Rattle.std.specs.Prelude.{◌≡◌, ℕ, ◌+◌, ◌*◌, ◌/◌, ◌%◌, ◌<◌, ◌≤◌, min, Bool, true, List, slice_index}
use Rattle.lists.specs.Below.{count_below}

-- another number for a site, below 2^44: the lower 22 bits, times an odd number, and with them the upper ones, come first.
-- Sites below 2^44 have a number of their own
unfoldable pub spread : ℕ → ℕ
spread site = (site % 4194304 * 2592181 + site / 4194304 * 1296111) % 4194304 * 4194304 + site / 4194304 % 4194304

-- a day of a site as one number, which does not fall where the day rises. Sites below 2^44 and days below 2^16 have a number of their own
unfoldable pub day_number : ℕ → ℕ → ℕ
day_number site day = spread site * 65536 + min day 65535

-- the values of the places below n at which f holds stand in a list, in their order
unfoldable pub Gathered : (ℕ → Bool) → (ℕ → ℕ) → List ℕ → ℕ → Type 0
Gathered f value list n = (i : ℕ) → i < n → f i ≡ true → slice_index list (count_below f i) ≡ value i

-- the first and the last numbers of the spans at the places below n at which f holds stand in two lists, `count` in each
pub record Gathering (f : ℕ → Bool) (first last : ℕ → ℕ) (firsts lasts : List ℕ) (n count : ℕ) : Type 0 where
  pub few : count ≤ n
  pub counted : count ≡ count_below f n
  pub begun : Gathered f first firsts n
  pub over : Gathered f last lasts n
