-- Columns of one length.
-- Assumes nothing.
use Rattle.std.specs.Prelude.{ℕ, ◌≡◌, List, length}

-- they have one number for each record
pub record SameLength (types sites starts ends cancels : List ℕ) : Type 0 where
  pub sites_length : length sites ≡ length types
  pub starts_length : length starts ≡ length types
  pub ends_length : length ends ≡ length types
  pub cancels_length : length cancels ≡ length types
