-- Room in the words for what a call read of a ledger.
-- Assumes nothing.
use Rattle.std.specs.Prelude.{ℕ, cond, List, ℤ}
use Rattle.runs.specs.InsideWords.{RoomFor}
use Rattle.soundness.specs.Sound.{sizes_fit}

-- how many entries it read: those in use, and none where the sizes don't fit
abbrev pub read_count : ℕ → ℕ → ℕ
read_count places used = cond (sizes_fit places used) used 0

abbrev pub LedgerRoom : ℕ → ℕ → List ℕ → List ℤ → Type 0
LedgerRoom places used words amounts = RoomFor (read_count places used) words amounts
