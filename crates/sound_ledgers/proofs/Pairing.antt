-- The marks of cancels, with one entry more, and that they make cancels and cancelled entries pair off.
--     cancels, cancels_named, cancels_opposite what the tests of a cancel and an entry show
--     key_place, named_place_lem               the entry that a cancel names is the first that has the key named
--     none_earlier, none_cancelled             where it stands no earlier, or a test of the two fails, the cancel has no entry
--     unpaired_cancel, marked_twice, unmarked  what a sound ledger has not
--     marked_none, marked_more, marked_kept    the marks of cancels: at the start; one more; the same
--     paired_off                               where each cancelled entry has a mark, cancels and cancelled entries pair off
-- Assumes nothing.
use mathlib.Core.Path.{◌≡◌, sym, ◌∙◌, ap, subst}
use mathlib.Core.List.{List}
use mathlib.Core.Bool.{Bool, true, false, true≢false}
use Prim.Native.Nat.{ℕ, ◌+◌, ◌≤◌, ◌<◌}
use native.Mathlib.Omega.{arith}
use native.Mathlib.Decide.{ℕ_discrete, dec_lt}
use borrow.Author.Count.{below_none, below_more}
use borrow.Author.Tests.{eq-eqb, ne_eqb}
use lib.Dec.{eqb}
use lib.ListN.{length, get_or, set}
use lib.Seq.{get_or-set_same, get_or-set_other}
use Rattle.lists.proofs.Below.{first_is}
use Rattle.entries.specs.declared.Entry.{Entry}
use Rattle.entries.specs.Entries.{entry_of}
use Rattle.soundness.specs.Meaning.{Names, Paired, Sound}
use Rattle.soundness.specs.Sound.{is_named, opposite}
use Rattle.soundness.proofs.Meaning.{named_means, opposite_means}
use Rattle.buckets.specs.InsideBuckets.{first_place}
use Rattle.sound_ledgers.specs.InsideKeys.{key_of, Keyed, KeysDiffer, state_at}
use Rattle.sound_ledgers.proofs.Keys.{key_tells}
use Rattle.sound_ledgers.specs.InsidePairing.{KeysOf, Cancels, Marked, WithMarks, PairedOff}

module _ (es : List Entry) where
  pub cancels : (i j : ℕ) → j < i → (entry_of es i).state ≡ 4 → is_named (entry_of es i) (entry_of es j) ≡ true → opposite (entry_of es i) (entry_of es j) ≡ true → Cancels es i j
  cancels i j earlier state named undone =
      let named_mean = (named_means (entry_of es i) (entry_of es j)).0 named in
      record {
        earlier = earlier;
        cancel = state;
        cancelled = named_mean.0;
        names = named_mean.1;
        opposite = (opposite_means (entry_of es i) (entry_of es j)).0 undone;
      }

  pub cancels_named : (i j : ℕ) → Cancels es i j → is_named (entry_of es i) (entry_of es j) ≡ true
  cancels_named i j pair = (named_means (entry_of es i) (entry_of es j)).1 (pair.cancelled, pair.names)

  pub cancels_opposite : (i j : ℕ) → Cancels es i j → opposite (entry_of es i) (entry_of es j) ≡ true
  cancels_opposite i j pair = (opposite_means (entry_of es i) (entry_of es j)).1 pair.opposite

  -- a pair of a sound ledger
  of_pair : {used i j : ℕ} → Paired es used i j → Cancels es i j
  of_pair pair = record { earlier = pair.earlier; cancel = pair.cancel; cancelled = pair.cancelled; names = pair.names; opposite = pair.opposite }

  module _ (used : ℕ) (differ : KeysDiffer es used) where
    -- what is named by one sender and one Record ID is one entry
    one_named : (c : Entry) (p j : ℕ) → p < used → j < used → Names c (entry_of es p) → Names c (entry_of es j) → p ≡ j
    one_named c p j m l one other = go (dec_lt p j) (dec_lt j p)
      where
        sender : (entry_of es p).sender ≡ (entry_of es j).sender
        sender = sym one.alike.sender ∙ other.alike.sender

        id : (entry_of es p).id ≡ (entry_of es j).id
        id = one.id ∙ sym other.id

        go : Dec (p < j) → Dec (j < p) → p ≡ j
        go (yes before) after = absurd (differ p j before l sender id)
        go (no before) (yes after) = absurd (differ j p after m (sym sender) (sym id))
        go (no before) (no after) = omega (arith, before, after)

    pub key_place : (keys : List ℕ) → Keyed es used keys → (c : Entry) (j : ℕ) → j < used → Names c (entry_of es j) → first_place keys used (key_of c.sender c.cancels) ≡ j
    key_place keys keyed c j l names =
        first_is (λ (k : ℕ). eqb (get_or keys k 0) (key_of c.sender c.cancels)) used j l (eq-eqb _ _ here) (λ k h. ne_eqb _ _ (λ e. other k h (e ∙ sym here)))
      where
        here : get_or keys j 0 ≡ key_of c.sender c.cancels
        here = keyed.copied j l ∙ (λ t. key_of (sym names.alike.sender t) (names.id t))

        other : (k : ℕ) → k < j → get_or keys k 0 ≡ get_or keys j 0 → ⊥
        other k h e =
            let one = keyed.fit k (omega arith) in
            let two = keyed.fit j l in
            let both = key_tells _ _ _ _ one.sender two.sender one.id two.id (sym (keyed.copied k (omega arith)) ∙ e ∙ keyed.copied j l) in
            differ k j h l both.0 both.1

    -- ---- what a sound ledger has not
    pub unpaired_cancel : (i : ℕ) → i < used → (entry_of es i).state ≡ 4 → ((j : ℕ) → Cancels es i j → ⊥) → Sound es used → ⊥
    unpaired_cancel i h cancel none sound = let w = sound.cancel_paired i h cancel in none w.0 (of_pair w.1)

    pub marked_twice : (i j : ℕ) (marks : List ℕ) → i < used → Marked es i marks → Cancels es i j → (get_or marks j 0 ≡ 0 → ⊥) → Sound es used → ⊥
    marked_twice i j marks h M pair some sound =
        let w = sound.cancel_paired i h pair.cancel in
        let k = M.only j some in
        let same = one_named (entry_of es i) j w.0 (omega (arith, pair.earlier)) (omega (arith, w.1.earlier)) pair.names w.1.names in
        let i' = w.1.only k.0 (omega (arith, k.1)) k.2.cancel (subst (λ (p : ℕ). Names (entry_of es k.0) (entry_of es p)) same k.2.names) in
        omega (arith, k.1, i')

    pub unmarked : (marks : List ℕ) → Marked es used marks → (WithMarks (state_at es) used marks → ⊥) → Sound es used → ⊥
    unmarked marks M missing sound = missing (λ j l cancelled none.
        let w = sound.cancelled_paired j l cancelled in
        let v = M.each w.0 w.1 w.2.cancel in
        let same = one_named (entry_of es w.0) v.0 j (omega (arith, v.1.earlier, w.1)) l v.1.names w.2.names in
        omega (arith, v.2, ap (λ (p : ℕ). get_or marks p 0) same, none))

  -- the place that was looked for, by the key that the cancel names
  module _ (keys : List ℕ) (K : KeysOf es keys) (i : ℕ) {place named : ℕ} (h : i < length es)
      (is : named ≡ key_of (entry_of es i).sender (entry_of es i).cancels) (found : place ≡ first_place keys (length keys) named) where
    named_place_lem : (p : ℕ) → Cancels es i p → place ≡ p
    named_place_lem p pair =
        found ∙ (λ t. first_place keys (K.one_each t) (is t))
        ∙ key_place (length es) K.differ keys K.keyed (entry_of es i) p (omega (arith, pair.earlier)) pair.names

    -- it stands no earlier than the cancel
    pub none_earlier : i ≤ place → (p : ℕ) → Cancels es i p → ⊥
    none_earlier late p pair = omega (arith, named_place_lem p pair, pair.earlier)

    -- a test that a cancel and its entry pass, and that fails there
    pub none_cancelled : (test : Entry → Entry → Bool) → ((p : ℕ) → Cancels es i p → test (entry_of es i) (entry_of es p) ≡ true)
        → test (entry_of es i) (entry_of es place) ≡ false → (p : ℕ) → Cancels es i p → ⊥
    none_cancelled test passed fails p pair =
        true≢false (sym (passed p pair) ∙ ap (λ (k : ℕ). test (entry_of es i) (entry_of es k)) (sym (named_place_lem p pair)) ∙ fails)

  pub marked_none : (marks : List ℕ) → ((j : ℕ) → get_or marks j 0 ≡ 0) → Marked es 0 marks
  marked_none marks none = record { each = below_none _; only = λ j some. absurd (some (none j)) }

  module _ (i : ℕ) (marks : List ℕ) (M : Marked es i marks) where
    pub marked_more : (j : ℕ) → Cancels es i j → get_or marks j 0 ≡ 0 → j < length marks → Marked es (i + 1) (set marks j (i + 1))
    marked_more j pair free room = record {
      each = below_more (λ k. (entry_of es k).state ≡ 4 → (p : ℕ) × Cancels es k p × (get_or (set marks j (i + 1)) p 0 ≡ k + 1)) i
          (λ k h cancel. let w = M.each k h cancel in (w.0, w.1, get_or-set_other marks j w.0 (i + 1) 0 (other k w.0 w.2) ∙ w.2))
          (λ cancel. (j, pair, get_or-set_same marks j (i + 1) 0 room));
      only = λ p some. only p some (ℕ_discrete p j);
    }
      where
        other : (k p : ℕ) → get_or marks p 0 ≡ k + 1 → p ≡ j → ⊥
        other k p mark same = let z : get_or marks j 0 ≡ k + 1 = subst (λ (q : ℕ). get_or marks q 0 ≡ k + 1) same mark in omega arith

        only : (p : ℕ) → (get_or (set marks j (i + 1)) p 0 ≡ 0 → ⊥) → Dec (p ≡ j) → (k : ℕ) × (k < i + 1) × Cancels es k p
        only p some (yes same) = (i, omega arith, subst (λ (q : ℕ). Cancels es i q) (sym same) pair)
        only p some (no unlike) = let w = M.only p (λ zero. some (get_or-set_other marks j p (i + 1) 0 unlike ∙ zero)) in (w.0, omega (arith, w.1), w.2)

    pub marked_kept : ((entry_of es i).state ≡ 4 → ⊥) → Marked es (i + 1) marks
    marked_kept other = record {
      each = below_more (λ k. (entry_of es k).state ≡ 4 → (p : ℕ) × Cancels es k p × (get_or marks p 0 ≡ k + 1)) i M.each (λ cancel. absurd (other cancel));
      only = λ j some. let w = M.only j some in (w.0, omega (arith, w.1), w.2);
    }

  module _ (used : ℕ) (marks : List ℕ) (differ : KeysDiffer es used) (M : Marked es used marks) where
    -- the entry that a cancel names has the cancel's mark
    mark_at : (i j : ℕ) → i < used → j < used → (entry_of es i).state ≡ 4 → Names (entry_of es i) (entry_of es j) → get_or marks j 0 ≡ i + 1
    mark_at i j h l cancel names =
        let w = M.each i h cancel in
        subst (λ (p : ℕ). get_or marks p 0 ≡ i + 1) (one_named used differ (entry_of es i) w.0 j (omega (arith, w.1.earlier)) l w.1.names names) w.2

    paired : (i j : ℕ) → i < used → Cancels es i j → Paired es used i j
    paired i j h pair =
        record {
          earlier = pair.earlier;
          cancel = pair.cancel;
          cancelled = pair.cancelled;
          names = pair.names;
          opposite = pair.opposite;
          only = λ k l cancel names.
              let l' : j < used = omega (arith, pair.earlier) in
              omega (arith, mark_at k j l l' cancel names, mark_at i j h l' pair.cancel pair.names);
        }

    pub paired_off : WithMarks (state_at es) used marks → PairedOff es used
    paired_off all = record {
      cancel_paired = λ i h cancel. let w = M.each i h cancel in (w.0, paired i w.0 h w.1);
      cancelled_paired = λ j h cancelled. let w = M.only j (all j h cancelled) in (w.0, w.1, paired w.0 j w.1 w.2);
    }
