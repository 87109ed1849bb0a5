-- How many places a run has and how many are in use (soundness, `sizes_mean`).
--     sizes_amiss    where they don't fit, the words' ledger is not sound
--     room_in_use    where they do, room for what is read is room for the entries in use
-- Assumes nothing.
use mathlib.Core.Path.{◌≡◌, subst}
use mathlib.Core.List.{List}
use mathlib.Core.Bool.{Bool, true, false, cond}
use Prim.Native.Nat.{ℕ}
use lib.IntN.{ℤ}
use Rattle.runs.specs.InsideWords.{RoomFor, entries_of}
use Rattle.runs.proofs.Words.{length_entries}
use Rattle.runs.specs.InsideRoom.{LedgerRoom}
use Rattle.soundness.specs.Sound.{sizes_fit, is_sound}

pub sizes_amiss : (words : List ℕ) (amounts : List ℤ) (places used : ℕ) → sizes_fit places used ≡ false → is_sound (entries_of words amounts places) used ≡ false
unfolding is_sound
sizes_amiss words amounts places used amiss = rw (length_entries words amounts places) (rw amiss)

pub room_in_use : {words : List ℕ} {amounts : List ℤ} (places used : ℕ) → sizes_fit places used ≡ true → LedgerRoom places used words amounts → RoomFor used words amounts
room_in_use {words} {amounts} places used fit = subst (λ (b : Bool). RoomFor (cond b used 0) words amounts) fit
