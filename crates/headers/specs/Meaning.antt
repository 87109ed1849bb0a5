-- What test 12 asks for, in plain terms. `listed_is` (proofs/Meaning) says that exactly these headers pass.
-- Assumes nothing.
use Rattle.std.specs.Prelude.{ℕ, ◌*◌, ◌/◌, ◌<◌, ◌≡◌, List, length, take, drop}
use Rattle.records.specs.Records.{field}

-- 12: "its sender is listed in the settings": FH's field 5 is one of the groups of four digits
abbrev pub Listed : List ℕ → List ℕ → Type 0
Listed distributors header = (g : ℕ) × (g < length distributors / 4) × (take 4 (drop (4 * g) distributors) ≡ field 5 header)
