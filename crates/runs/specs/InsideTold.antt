-- How many of a run's places Book was told of.
-- Assumes nothing.
use Rattle.std.specs.Prelude.{◌≡◌, ◌⊎◌, ℕ, ◌+◌, ◌≤◌}

-- all of them; or fewer, where the run is not too long and they leave a place for the file's own entry and one for each of its lines
abbrev pub Told : ℕ → ℕ → ℕ → ℕ → Type 0
Told places used lines told = (told ≡ places) ⊎ ((places ≤ 8192) × (told ≤ places) × (used + 1 + lines ≤ told))
