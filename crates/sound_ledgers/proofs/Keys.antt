-- The keys of entries, with one entry more, and what they say of a sound ledger.
--     keyed_none, keyed_more    the keys of entries that fit
--     key_tells                 entries that fit and have the same key have the same sender and Record ID
--     keys_of, key_twice        where no key repeats, no sender and Record ID pair does; where one does, the ledger is not sound
--     misfit                    nor is it where an entry doesn't fit by itself
-- Assumes nothing.
use mathlib.Core.Path.{◌≡◌, sym, ◌∙◌, ap}
use mathlib.Core.List.{List}
use mathlib.Core.Bool.{false, true≢false}
use Prim.Native.Nat.{ℕ, ◌+◌, ◌^◌, ◌≤◌, ◌<◌}
use native.Mathlib.Omega.{arith}
use borrow.Author.Count.{below_none, below_more}
use lib.ListN.{length, get_or, set, take}
use lib.Seq.{length-take-le}
use Rattle.std.proofs.lemmas.List.{get_or-take}
use Rattle.lists.specs.Below.{first_below}
use Rattle.lists.proofs.Below.{first_at_most}
use Rattle.lists.proofs.Column.{copied_more}
use Rattle.buckets.specs.InsideBuckets.{Distinct}
use Rattle.buckets.specs.InsideTrees.{repeats_at}
use Rattle.buckets.proofs.Repeats.{all_different, one_repeats}
use Rattle.entries.specs.declared.Entry.{Entry}
use Rattle.entries.specs.Entries.{entry_of}
use Rattle.soundness.specs.Meaning.{EntryFits, Sound}
use Rattle.soundness.specs.Sound.{entry_fits}
use Rattle.soundness.proofs.Meaning.{entry_means}
use Rattle.sound_ledgers.specs.InsideKeys.{key_of, key_at, Keyed, KeysDiffer}
use Rattle.sound_ledgers.specs.InsidePairing.{KeysOf}

pub key_tells : (s t i j : ℕ) → s < 10 ^ 4 → t < 10 ^ 4 → i < 10 ^ 15 → j < 10 ^ 15 → key_of s i ≡ key_of t j → (s ≡ t) × (i ≡ j)
unfolding key_of
key_tells s t i j p q u v e = (omega arith, omega arith)

module _ (es : List Entry) where
  pub keyed_none : (keys : List ℕ) → Keyed es 0 keys
  keyed_none keys = record { fit = below_none _; copied = below_none _ }

  pub keyed_more : (i : ℕ) (keys : List ℕ) → i < length keys → Keyed es i keys → EntryFits (entry_of es i) → Keyed es (i + 1) (set keys i (key_at es i))
  keyed_more i keys room keyed fits =
      record { fit = below_more (λ k. EntryFits (entry_of es k)) i keyed.fit fits; copied = copied_more (key_at es) i keys room keyed.copied }

  pub misfit : (used i : ℕ) → i < used → entry_fits (entry_of es i) ≡ false → Sound es used → ⊥
  misfit used i h e sound = true≢false (sym ((entry_means (entry_of es i)).1 (sound.fit i h)) ∙ e)

  -- the keys of all entries, at the front of a column
  module _ (keys : List ℕ) (room : length es ≤ length keys) (keyed : Keyed es (length es) keys) where
    abbrev front : List ℕ
    front = take (length es) keys

    one_each : length front ≡ length es
    one_each = length-take-le (length es) keys room

    front_is : (i : ℕ) → i < length es → get_or front i 0 ≡ key_at es i
    front_is i h = get_or-take (length es) keys i 0 h ∙ keyed.copied i h

    keys_differ : Distinct front (length es) → KeysDiffer es (length es)
    keys_differ distinct i j l h sender id =
        distinct i j l h (front_is i (omega arith) ∙ (λ t. key_of (sender t) (id t)) ∙ sym (front_is j h))

    key_repeats : (i j : ℕ) → i < j → j < length es → get_or front i 0 ≡ get_or front j 0 → Sound es (length es) → ⊥
    key_repeats i j l h e sound =
        let one = keyed.fit i (omega arith) in
        let other = keyed.fit j h in
        let both = key_tells _ _ _ _ one.sender other.sender one.id other.id (sym (front_is i (omega arith)) ∙ e ∙ front_is j h) in
        sound.keys i j l h both.0 both.1

    -- the first place whose key repeats, among them
    module _ {first : ℕ} (is : first ≡ first_below (repeats_at front) (length front)) where
      pub keys_of : first ≡ length es → KeysOf es front
      keys_of none = record {
        one_each = one_each;
        keyed = record { fit = keyed.fit; copied = front_is };
        differ = keys_differ (all_different front (length es) (ap (first_below (repeats_at front)) (sym one_each) ∙ sym is ∙ none));
      }

      pub key_twice : (first ≡ length es → ⊥) → Sound es (length es) → ⊥
      key_twice some =
          let found : first ≡ first_below (repeats_at front) (length es) = is ∙ ap (first_below (repeats_at front)) one_each in
          let less : first_below (repeats_at front) (length es) < length es = omega (arith, found, some, first_at_most (repeats_at front) (length es)) in
          let w = one_repeats front (length es) less in
          key_repeats w.0 (first_below (repeats_at front) (length es)) w.1 less w.2
