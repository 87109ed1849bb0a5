-- What the passes over a ledger's columns show.
--     shown_sound                     it is sound
--     answer_is                       what is answered of its entries is what is asked of the run
-- Assumes nothing.
use mathlib.Core.Path.{◌≡◌, refl}
use mathlib.Core.List.{List}
use mathlib.Core.Logic.{◌↔◌}
use mathlib.Core.Bool.{Bool, true, false}
use Prim.Native.Nat.{ℕ, ◌≤◌}
use native.Mathlib.Omega.{arith}
use lib.ListN.{length, take}
use lib.Seq.{length-take-le}
use Rattle.lists.proofs.Reflected.{alike, both_of}
use Rattle.sound_ledgers.specs.InsideLivePeriods.{LiveApart}
use Rattle.entries.specs.declared.Entry.{Entry}
use Rattle.soundness.specs.Meaning.{Sound}
use Rattle.soundness.specs.Sound.{sizes_fit, entries_sound, is_sound}
use Rattle.soundness.proofs.Sizes.{sizes_mean}
use Rattle.soundness.proofs.Meaning.{entries_mean}
use Rattle.sound_ledgers.specs.InsidePairing.{KeysOf, PairedOff}

pub shown_sound : (es : List Entry) (keys : List ℕ) → length es ≤ 8192 → KeysOf es keys → PairedOff es (length es) → LiveApart es (length es) → Sound es (length es)
shown_sound es keys few K pairs apart =
    record {
      few = few;
      room = omega arith;
      fit = K.keyed.fit;
      keys = K.differ;
      apart = apart;
      cancel_paired = pairs.cancel_paired;
      cancelled_paired = pairs.cancelled_paired;
    }

pub answer_is : (run : List Entry) (used : ℕ) → sizes_fit (length run) used ≡ true → (r : Bool) → (r ≡ true → Sound (take used run) (length (take used run)))
    → (r ≡ false → Sound (take used run) (length (take used run)) → ⊥) → r ≡ is_sound run used
unfolding is_sound
answer_is run used fit r sound unsound = alike r (is_sound run used) (λ e. rw fit (means.1 (sound e))) (λ e. go r refl ((both_of _ _).0 e).1)
  where
    sizes : (length run ≤ 8192) × (used ≤ length run)
    sizes = (sizes_mean (length run) used).0 fit

    means : (entries_sound (take used run) ≡ true) ↔ Sound (take used run) (length (take used run))
    means = entries_mean (take used run) (omega (arith, length-take-le used run sizes.1, sizes))

    go : (b : Bool) → r ≡ b → entries_sound (take used run) ≡ true → r ≡ true
    go true is e = is
    go false is e = absurd (unsound is (means.0 e))
