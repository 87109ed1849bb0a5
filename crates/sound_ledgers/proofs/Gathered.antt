-- Live periods gathered, and what it says of them that no two of their spans meet.
--     gathered_more    what `gather` leaves with one entry more
--     live_apart       where no two of the spans gathered meet, live periods of a site share no day
--     live_meeting     where two meet, the ledger is not sound
-- Assumes nothing.
use mathlib.Core.Path.{◌≡◌, refl}
use mathlib.Core.List.{List}
use mathlib.Core.Bool.{Bool, true, false, cond}
use Prim.Native.Nat.{ℕ, ◌+◌, ◌<◌}
use native.Mathlib.Omega.{arith}
use lib.ListN.{length, set}
use Rattle.apart.specs.InsideApart.{Apart, Meeting}
use Rattle.apart.specs.InsideGathered.{Gathering}
use Rattle.apart.proofs.Gathering.{gathering_more, gathering_skip, gathering_kept, gathering_same, days_apart, days_meet}
use Rattle.entries.specs.declared.Entry.{Entry}
use Rattle.entries.specs.Entries.{entry_of}
use Rattle.soundness.specs.Meaning.{EntryFits, Sound}
use Rattle.soundness.proofs.Meaning.{live_means}
use Rattle.sound_ledgers.specs.InsideLivePeriods.{live_at, first_day, last_day, LiveApart}

module _ (es : List Entry) where
  -- the entry e at i is gathered, with the numbers v and w of its days
  with_one : (i : ℕ) (firsts lasts : List ℕ) (count v w : ℕ) (live : Bool) → Gathering (live_at es) (first_day es) (last_day es) firsts lasts i count
      → count < length firsts → count < length lasts → v ≡ first_day es i → w ≡ last_day es i → live_at es i ≡ live
      → Gathering (live_at es) (first_day es) (last_day es) (set firsts count v) (set lasts count w) (i + 1) (cond live (count + 1) count)
  with_one i firsts lasts count v w true before room-first room-last begins ends live =
      gathering_more (live_at es) (first_day es) (last_day es) firsts lasts i count before v w live room-first room-last begins ends
  with_one i firsts lasts count v w false before room-first room-last begins ends live =
      gathering_skip (live_at es) (first_day es) (last_day es) _ _ i count
      (gathering_kept (live_at es) (first_day es) (last_day es) firsts lasts i count before v w) live

  pub gathered_more : (i : ℕ) → {firsts firsts' lasts lasts' : List ℕ} {count count' : ℕ}
      → Gathering (live_at es) (first_day es) (last_day es) firsts lasts i count → count < length firsts → count < length lasts
      → firsts' ≡ set firsts count (first_day es i) → lasts' ≡ set lasts count (last_day es i) → count' ≡ cond (live_at es i) (count + 1) count
      → Gathering (live_at es) (first_day es) (last_day es) firsts' lasts' (i + 1) count'
  gathered_more i {firsts} {firsts'} {lasts} {lasts'} {count} {count'} before room-first room-last begins ends counted =
      gathering_same (live_at es) (first_day es) (last_day es) begins ends counted
      (with_one i firsts lasts count _ _ (live_at es i) before room-first room-last refl refl refl)

pub live_apart : (es : List Entry) (used : ℕ) (firsts lasts : List ℕ) (count : ℕ) → Gathering (live_at es) (first_day es) (last_day es) firsts lasts used count
    → Apart firsts lasts count → LiveApart es used
live_apart es used firsts lasts count gathered apart i j d earlier last one other site first second =
    days_apart (live_at es) (λ k. (entry_of es k).site) (λ k. (entry_of es k).start) (λ k. (entry_of es k).end) firsts lasts used count gathered apart i j d earlier last
    ((live_means (entry_of es i)).1 one) ((live_means (entry_of es j)).1 other) site first second

pub live_meeting : (es : List Entry) (used : ℕ) (firsts lasts : List ℕ) (count : ℕ) → Gathering (live_at es) (first_day es) (last_day es) firsts lasts used count
    → ((i : ℕ) → i < used → EntryFits (entry_of es i)) → Meeting firsts lasts count → Sound es used → ⊥
live_meeting es used firsts lasts count gathered fit meeting sound =
    let m = days_meet (live_at es) (λ k. (entry_of es k).site) (λ k. (entry_of es k).start) (λ k. (entry_of es k).end) firsts lasts used count gathered
    (λ i h _. let e = fit i h in (e.site, omega (arith, e.start), omega (arith, e.end))) meeting in
    sound.apart m.one m.other m.day m.earlier m.last ((live_means (entry_of es m.one)).0 m.holds) ((live_means (entry_of es m.other)).0 m.also) m.same m.in_one m.in_other
