-- How many places a run has and how many are in use.
--     sizes_mean, sizes_amiss    what is asked of them; where it does not hold, the ledger is not sound
-- Assumes nothing.
use mathlib.Core.Path.{◌≡◌}
use mathlib.Core.Logic.{◌↔◌}
use mathlib.Core.List.{List}
use mathlib.Core.Bool.{true, false}
use Prim.Native.Nat.{ℕ, ◌≤◌}
use lib.ListN.{length}
use Rattle.entries.specs.declared.Entry.{Entry}
use Rattle.soundness.specs.Sound.{sizes_fit, is_sound}
use Rattle.soundness.proofs.Tests.{both, at_most}

pub sizes_mean : (places used : ℕ) → (sizes_fit places used ≡ true) ↔ ((places ≤ 8192) × (used ≤ places))
unfolding sizes_fit
sizes_mean places used = both (at_most places 8192) (at_most used places)

pub sizes_amiss : (run : List Entry) (used : ℕ) → sizes_fit (length run) used ≡ false → is_sound run used ≡ false
unfolding is_sound
sizes_amiss run used amiss = rw amiss
