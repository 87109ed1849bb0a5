-- What it is for a ledger to be sound, in terms of entries, places and days (specs/Meaning).
--     sound_means                          `is_sound` says true exactly where the run and the used count are `Sound`
--     entry_means, key_means, clash_means, alike_means, named_means, opposite_means    its sentences, one by one
--     one_partner                          of those that a cancel names there is one at most, so that none stands before it
--     empty_sound, too_long, past_used     no entry in use; too many places; what stands past the used entries
-- Each sentence is a test, whose meaning is put together from those of its parts. Assumes nothing.
use mathlib.Core.Path.{◌≡◌, refl, sym, ◌∙◌, ap, subst}
use mathlib.Core.Logic.Iff
use mathlib.Core.Logic.{◌↔◌}
use mathlib.Core.List.{List}
use mathlib.Core.Bool.{Bool, true, false, not, ◌&&◌}
use Prim.Native.Nat.{ℕ, ◌^◌, ◌≤◌, ◌<◌}
use native.Mathlib.Nat.{le_refl}
use native.Mathlib.Omega.{arith}
use native.Mathlib.Decide.{dec_lt}
use borrow.Author.Tests.{not-true, lt-leb}
use lib.IntN.{nat_abs}
use lib.ListN.{length, take}
use lib.Seq.{get_or-take, length-take-le}
use Rattle.lists.specs.Below.{some_below}
use Rattle.lists.proofs.Below.{some_none, none_some, count_zero, zero_count}
use Rattle.calendar.specs.Periods.{HasDay}
use Rattle.calendar.proofs.Periods.{shares_day_lem}
use Rattle.entries.specs.declared.Entry.{Entry}
use Rattle.entries.specs.Entries.{blank, entry_of, period}
use Rattle.soundness.specs.Meaning.{EntryFits, LivePeriod, Alike, Names, Opposite, Paired, Sound}
use Rattle.soundness.specs.Sound.{sizes_fit, digits_fit, ranges_fit, days_fit, lacks_fit, entry_fits, same_key, repeats_key, is_live_period, clash, clashes, same_subject, is_named, names_alike, opposite, cancels_before, cancelled_before, pairs, unpaired, is_faulty, entries_sound, is_sound}
use Rattle.soundness.proofs.Opposite.{is_zero_lem, opposite_sum}
use Rattle.soundness.proofs.Sizes.{sizes_mean}
use Rattle.soundness.proofs.Tests.{equal, below, at_most, both, unless, implies, exactly, fails, neither, excused, not_fails, one_or_two, one_to_three, none_means, some_means}

-- ---- the sentences that look at one entry
pub entry_means : (e : Entry) → (entry_fits e ≡ true) ↔ EntryFits e
unfolding entry_fits digits_fit ranges_fit days_fit lacks_fit
entry_means e =
    let digits_mean =
    both
    (both (both (both (both (below e.sender (10 ^ 4)) (below e.site (10 ^ 13))) (below e.id (10 ^ 15))) (below e.cancels (10 ^ 15)))
    (below (nat_abs e.charge) (10 ^ 15))) (below (nat_abs e.usage) (10 ^ 15)) in
    let ranges_mean =
    both
    (both (both (both (both (one_or_two e.commodity) (one_to_three e.kind)) (at_most e.state 4)) (at_most e.start 36524)) (at_most e.end 36524))
    (exactly (equal e.kind 1) (equal e.state 0)) in
    let lacks_mean =
    both
    (both (unless (equal e.kind 2) (both (both (equal e.start 0) (equal e.end 0)) (is_zero_lem e.usage))) (implies (equal e.kind 1) (equal e.site 0)))
    (unless (equal e.state 4) (equal e.cancels 0)) in
    let whole = both (both (both digits_mean ranges_mean) (at_most e.start e.end)) lacks_mean in (
      λ h.
          let t = whole.0 h in
          let digits = t.0.0.0 in
          let ranges = t.0.0.1 in
          let lacks = t.1 in
          record {
            sender = digits.0.0.0.0.0;
            site = digits.0.0.0.0.1;
            id = digits.0.0.0.1;
            cancels = digits.0.0.1;
            charge = digits.0.1;
            usage = digits.1;
            commodity = ranges.0.0.0.0.0;
            kind = ranges.0.0.0.0.1;
            state = ranges.0.0.0.1;
            start = ranges.0.0.1;
            end = ranges.0.1;
            file_state = ranges.1;
            in_order = t.0.1;
            only_periods = λ other. let z = lacks.0.0 other in (z.0.0, z.0.1, z.1);
            file_site = lacks.0.1;
            only_cancels = lacks.1;
          },
      λ r.
          whole.1 (
            (((((((r.sender, r.site), r.id), r.cancels), r.charge), r.usage), (((((r.commodity, r.kind), r.state), r.start), r.end), r.file_state)), r.in_order),
            (((λ other. let z = r.only_periods other in ((z.0, z.1), z.2)), r.file_site), r.only_cancels),
          ),
    )

pub live_means : (e : Entry) → (is_live_period e ≡ true) ↔ LivePeriod e
live_means e = both (equal e.state 1) (equal e.kind 2)

-- ---- the sentences that look at two entries
pub alike_means : (a b : Entry) → (same_subject a b ≡ true) ↔ Alike a b
alike_means a b =
    let whole =
    both
    (both (both (both (both (equal a.sender b.sender) (equal a.commodity b.commodity)) (equal a.kind b.kind)) (equal a.site b.site))
    (equal a.start b.start)) (equal a.end b.end) in (
      λ h. let t = whole.0 h in
          record { sender = t.0.0.0.0.0; commodity = t.0.0.0.0.1; kind = t.0.0.0.1; site = t.0.0.1; start = t.0.1; end = t.1 },
      λ r. whole.1 (((((r.sender, r.commodity), r.kind), r.site), r.start), r.end),
    )

pub named_means : (c e : Entry) → (is_named c e ≡ true) ↔ ((e.state ≡ 3) × Names c e)
unfolding is_named
named_means c e =
    let whole = both (both (equal e.state 3) (equal e.id c.cancels)) (alike_means c e) in (
      λ h. let t = whole.0 h in (t.0.0, record { id = t.0.1; alike = t.1 }),
      λ r. whole.1 ((r.0, r.1.id), r.1.alike),
    )

pub opposite_means : (c e : Entry) → (opposite c e ≡ true) ↔ Opposite c e
unfolding opposite
opposite_means c e =
    let whole = both (opposite_sum c.charge e.charge) (opposite_sum c.usage e.usage) in (
      λ h. let t = whole.0 h in record { charge = t.0; usage = t.1 },
      λ r. whole.1 (r.charge, r.usage),
    )

-- two cancels that name the same
NameAlike : Entry → Entry → Type 0
NameAlike c d = ((d.state ≡ 4) × (d.cancels ≡ c.cancels)) × Alike c d

names_alike_means : (c d : Entry) → (names_alike c d ≡ true) ↔ NameAlike c d
unfolding names_alike NameAlike
names_alike_means c d = both (both (equal d.state 4) (equal d.cancels c.cancels)) (alike_means c d)

-- what is alike a third is alike
alike_through : {a b c : Entry} → Alike a c → Alike b c → Alike a b
alike_through p q =
    record {
      sender = p.sender ∙ sym q.sender;
      commodity = p.commodity ∙ sym q.commodity;
      kind = p.kind ∙ sym q.kind;
      site = p.site ∙ sym q.site;
      start = p.start ∙ sym q.start;
      end = p.end ∙ sym q.end;
    }

itself : (a : Entry) → Alike a a
itself a = record { sender = refl; commodity = refl; kind = refl; site = refl; start = refl; end = refl }

name_alike : {c d e : Entry} → d.state ≡ 4 → Names c e → Names d e → NameAlike c d
unfolding NameAlike
name_alike state p q = ((state, sym q.id ∙ p.id), alike_through p.alike q.alike)

names_also : {c d e : Entry} → NameAlike c d → Names c e → Names d e
unfolding NameAlike
names_also {c} {d} {e} same p =
    record { id = p.id ∙ sym same.0.1; alike = alike_through (alike_through (itself d) same.1) (alike_through (itself e) p.alike) }

-- live periods of a site, with a day in both
abbrev pub Clash : Entry → Entry → Type 0
Clash a b = ((LivePeriod a × LivePeriod b) × (a.site ≡ b.site)) × ((d : ℕ) × HasDay (period a) d × HasDay (period b) d)

module _ (es : List Entry) where
  -- ---- the sentences that look at the entries before a place
  pub key_means : (i : ℕ) → (repeats_key es i ≡ false)
      ↔ ((j : ℕ) → j < i → ((entry_of es j).sender ≡ (entry_of es i).sender) × ((entry_of es j).id ≡ (entry_of es i).id) → ⊥)
  unfolding repeats_key
  key_means i =
      none_means (λ (j : ℕ). same_key (entry_of es j) (entry_of es i)) (λ (j : ℕ). ((entry_of es j).sender ≡ (entry_of es i).sender) × ((entry_of es j).id ≡ (entry_of es i).id))
      (λ j. both (equal (entry_of es j).sender (entry_of es i).sender) (equal (entry_of es j).id (entry_of es i).id)) i

  pub clash_means : (i : ℕ) → (clashes es i ≡ false) ↔ ((j : ℕ) → j < i → Clash (entry_of es j) (entry_of es i) → ⊥)
  unfolding clashes clash
  clash_means i =
      none_means (λ (j : ℕ). clash (entry_of es j) (entry_of es i)) (λ (j : ℕ). Clash (entry_of es j) (entry_of es i))
      (λ j.
      both (both (both (live_means (entry_of es j)) (live_means (entry_of es i))) (equal (entry_of es j).site (entry_of es i).site))
      (shares_day_lem (period (entry_of es j)) (period (entry_of es i)))) i

  -- ---- cancels and cancelled entries
  -- a pair as the tests find it: the cancel is the first of those that name the same
  record FirstPair (i j : ℕ) : Type 0 where
    earlier : j < i
    cancel : (entry_of es i).state ≡ 4
    cancelled : (entry_of es j).state ≡ 3
    names : Names (entry_of es i) (entry_of es j)
    opposites : Opposite (entry_of es i) (entry_of es j)
    first : (k : ℕ) → k < i → NameAlike (entry_of es i) (entry_of es k) → ⊥

  -- the sentences on two or more entries, over all of the list
  abbrev pub Keys : Type 0
  Keys = (i j : ℕ) → i < j → j < length es → (entry_of es i).sender ≡ (entry_of es j).sender → (entry_of es i).id ≡ (entry_of es j).id → ⊥

  abbrev CancelPaired : Type 0
  CancelPaired = (i : ℕ) → i < length es → (entry_of es i).state ≡ 4 → (j : ℕ) × Paired es (length es) i j

  abbrev CancelledPaired : Type 0
  CancelledPaired = (j : ℕ) → j < length es → (entry_of es j).state ≡ 3 → (i : ℕ) × (i < length es) × Paired es (length es) i j

  module _ (keys : Keys) where
    -- the cancelled entry that a cancel names is the only one
    pub one_partner : (c : Entry) (j : ℕ) → j < length es → Names c (entry_of es j) → cancelled_before es c j ≡ 0
    unfolding cancelled_before
    one_partner c j h names =
        zero_count (λ (k : ℕ). is_named c (entry_of es k)) j
        (λ k l. (fails (named_means c (entry_of es k))).1 (λ w. keys k j l h (sym w.1.alike.sender ∙ names.alike.sender) (w.1.id ∙ sym names.id)))

    none_alike : (c : Entry) (i : ℕ) → (cancels_before es c i ≡ 0) ↔ ((k : ℕ) → k < i → NameAlike c (entry_of es k) → ⊥)
    unfolding cancels_before
    none_alike c i =
        let f : ℕ → Bool = λ k. names_alike c (entry_of es k) in (
          λ e k h. (fails (names_alike_means c (entry_of es k))).0 (count_zero f i e k h),
          λ none. zero_count f i (λ k h. (fails (names_alike_means c (entry_of es k))).1 (none k h)),
        )

    pairs_means : (i j : ℕ) → i < length es → (pairs es i j ≡ true) ↔ FirstPair i j
    unfolding pairs
    pairs_means i j h =
        let c = entry_of es i in
        let e = entry_of es j in
        let whole = both (both (both (both (equal c.state 4) (below j i)) (named_means c e)) (opposite_means c e)) (equal (cancels_before es c i) (cancelled_before es c j)) in (
          λ p.
              let t = whole.0 p in
              let less : j < length es = omega (arith, t.0.0.0.1) in
              record {
                earlier = t.0.0.0.1;
                cancel = t.0.0.0.0;
                cancelled = t.0.0.1.0;
                names = t.0.0.1.1;
                opposites = t.0.1;
                first = (none_alike c i).0 (t.1 ∙ one_partner c j less t.0.0.1.1);
              },
          λ r.
              let less : j < length es = omega (arith, r.earlier) in
              whole.1
              ((((r.cancel, r.earlier), (r.cancelled, r.names)), r.opposites), (none_alike c i).1 r.first ∙ sym (one_partner c j less r.names)),
        )

    -- ---- each has its partner: as the tests say, and as `Paired` says
    unpaired_means : (i : ℕ) → (unpaired es i ≡ false)
        ↔ (((entry_of es i).state ≡ 4 → (j : ℕ) × (j < length es) × (pairs es i j ≡ true)) × ((entry_of es i).state ≡ 3 → (k : ℕ) × (k < length es) × (pairs es k i ≡ true)))
    unfolding unpaired
    unpaired_means i =
        neither (excused (equal (entry_of es i).state 4) (some_means (λ (j : ℕ). pairs es i j) (length es)))
        (excused (equal (entry_of es i).state 3) (some_means (λ (k : ℕ). pairs es k i) (length es)))

    module _ (each : (i : ℕ) → i < length es → unpaired es i ≡ false) where
      has_cancelled : (i : ℕ) → i < length es → (entry_of es i).state ≡ 4 → (j : ℕ) × FirstPair i j
      has_cancelled i h cancel = let w = ((unpaired_means i).0 (each i h)).0 cancel in (w.0, (pairs_means i w.0 h).0 w.2)

      -- a cancel that names the same, before or after, would be without its partner
      only_one : (i j : ℕ) → i < length es → FirstPair i j → (k : ℕ) → k < length es → (entry_of es k).state ≡ 4 → Names (entry_of es k) (entry_of es j) → k ≡ i
      only_one i j h pair k l cancel names = go (dec_lt k i) (dec_lt i k)
        where
          go : Dec (k < i) → Dec (i < k) → k ≡ i
          go (yes before) after = absurd (pair.first k before (name_alike cancel pair.names names))
          go (no before) (yes after) = absurd ((has_cancelled k l cancel).1.first i after (name_alike pair.cancel names pair.names))
          go (no before) (no after) = omega (arith, before, after)

      paired : (i j : ℕ) → i < length es → FirstPair i j → Paired es (length es) i j
      paired i j h pair =
          record {
            earlier = pair.earlier;
            cancel = pair.cancel;
            cancelled = pair.cancelled;
            names = pair.names;
            opposite = pair.opposites;
            only = only_one i j h pair;
          }

      cancels_paired : CancelPaired
      cancels_paired i h cancel = let w = has_cancelled i h cancel in (w.0, paired i w.0 h w.1)

      cancelled_have_cancels : CancelledPaired
      cancelled_have_cancels j h cancelled =
          let w = ((unpaired_means j).0 (each j h)).1 cancelled in
          (w.0, w.1, paired w.0 j w.1 ((pairs_means w.0 j w.1).0 w.2))

    module _ (cancel_paired : CancelPaired) (cancelled_paired : CancelledPaired) where
      first_pair : (i j : ℕ) → i < length es → Paired es (length es) i j → FirstPair i j
      unfolding NameAlike
      first_pair i j h pair =
          record {
            earlier = pair.earlier;
            cancel = pair.cancel;
            cancelled = pair.cancelled;
            names = pair.names;
            opposites = pair.opposite;
            first = λ k l same.
                let again : k ≡ i = pair.only k (omega arith) same.0.0 (names_also same pair.names) in
                omega (arith, again);
          }

      each_paired : (i : ℕ) → i < length es → unpaired es i ≡ false
      each_paired i h =
          (unpaired_means i).1 (
            λ cancel. let w = cancel_paired i h cancel in (w.0, omega (arith, w.1.earlier), (pairs_means i w.0 h).1 (first_pair i w.0 h w.1)),
            λ cancelled. let w = cancelled_paired i h cancelled in (w.0, w.1, (pairs_means w.0 i w.1).1 (first_pair w.0 i w.1 w.2)),
          )

  -- ---- the entries, all of them without fault
  abbrev NoFault : ℕ → Type 0
  NoFault i =
      ((EntryFits (entry_of es i) × ((j : ℕ) → j < i → ((entry_of es j).sender ≡ (entry_of es i).sender) × ((entry_of es j).id ≡ (entry_of es i).id) → ⊥))
      × ((j : ℕ) → j < i → Clash (entry_of es j) (entry_of es i) → ⊥)) × (unpaired es i ≡ false)

  faults : (i : ℕ) → (is_faulty es i ≡ false) ↔ NoFault i
  unfolding is_faulty
  faults i = neither (neither (neither (not_fails (entry_means (entry_of es i))) (key_means i)) (clash_means i)) Iff.rfl

  no_fault : (entries_sound es ≡ true) ↔ ((i : ℕ) → i < length es → NoFault i)
  unfolding entries_sound
  no_fault = (
    λ e i h. (faults i).0 (some_none (is_faulty es) (length es) (not-true (some_below (is_faulty es) (length es)) e) i h),
    λ none. ap not (none_some (is_faulty es) (length es) (λ i h. (faults i).1 (none i h))),
  )

  module _ (few : length es ≤ 8192) where
    is_sound_lem : ((i : ℕ) → i < length es → NoFault i) → Sound es (length es)
    is_sound_lem none =
        record {
          few = few;
          room = le_refl (length es);
          fit = λ i h. (none i h).0.0.0;
          keys = keys;
          apart = λ i j d l h one other site first second. (none j h).0.1 i l (((one, other), site), (d, first, second));
          cancel_paired = cancels_paired keys (λ i h. (none i h).1);
          cancelled_paired = cancelled_have_cancels keys (λ i h. (none i h).1);
        }
      where
        keys : Keys
        keys i j l h sender id = (none j h).0.0.1 i l (sender, id)

    sound_is : Sound es (length es) → (i : ℕ) → i < length es → NoFault i
    sound_is r i h = (
      (
        (r.fit i h, λ j l same. r.keys j i l h same.0 same.1),
        λ j l c. r.apart j i c.1.0 l h c.0.0.0 c.0.0.1 c.0.1 c.1.1 c.1.2,
      ),
      each_paired r.keys r.cancel_paired r.cancelled_paired i h,
    )

    pub entries_mean : (entries_sound es ≡ true) ↔ Sound es (length es)
    entries_mean = (λ e. is_sound_lem (no_fault.0 e), λ r. no_fault.1 (sound_is r))

-- ---- a run whose entries in use are those of another
SameEntries : List Entry → List Entry → ℕ → Type 0
SameEntries run run' used = (i : ℕ) → i < used → entry_of run i ≡ entry_of run' i

module _ (run run' : List Entry) (used : ℕ) (same : SameEntries run run' used) where
  backwards : SameEntries run' run used
  unfolding SameEntries
  backwards i h = sym (same i h)

  -- what holds of the entry at a place, and of the entries at two places
  carry : (P : Entry → Type 0) (i : ℕ) → i < used → P (entry_of run i) → P (entry_of run' i)
  unfolding SameEntries
  carry P i h p = subst P (same i h) p

  carry_both : (R : Entry → Entry → Type 0) (i j : ℕ) → i < used → j < used → R (entry_of run i) (entry_of run j) → R (entry_of run' i) (entry_of run' j)
  carry_both R i j h l r = carry (λ e. R e (entry_of run' j)) i h (carry (λ e. R (entry_of run i) e) j l r)

module _ (run run' : List Entry) (used : ℕ) (same : SameEntries run run' used) where
  back : (P : Entry → Type 0) (i : ℕ) → i < used → P (entry_of run' i) → P (entry_of run i)
  back = carry run' run used (backwards run run' used same)

  back_both : (R : Entry → Entry → Type 0) (i j : ℕ) → i < used → j < used → R (entry_of run' i) (entry_of run' j) → R (entry_of run i) (entry_of run j)
  back_both = carry_both run' run used (backwards run run' used same)

  paired_too : (i j : ℕ) → i < used → Paired run used i j → Paired run' used i j
  paired_too i j h p =
      let less : j < used = omega (arith, p.earlier) in
      record {
        earlier = p.earlier;
        cancel = carry run run' used same (λ e. e.state ≡ 4) i h p.cancel;
        cancelled = carry run run' used same (λ e. e.state ≡ 3) j less p.cancelled;
        names = carry_both run run' used same (λ c e. Names c e) i j h less p.names;
        opposite = carry_both run run' used same (λ c e. Opposite c e) i j h less p.opposite;
        only = λ k l cancel names. p.only k l (back (λ e. e.state ≡ 4) k l cancel) (back_both (λ c e. Names c e) k j l less names);
      }

  sound_too : length run' ≤ 8192 → used ≤ length run' → Sound run used → Sound run' used
  sound_too few room r =
      record {
        few = few;
        room = room;
        fit = λ i h. carry run run' used same (λ e. EntryFits e) i h (r.fit i h);
        keys = λ i j l h sender id.
            r.keys i j l h (back_both (λ a b. a.sender ≡ b.sender) i j (omega arith) h sender) (back_both (λ a b. a.id ≡ b.id) i j (omega arith) h id);
        apart = λ i j d l h one other site first second.
            let less : i < used = omega arith in
            r.apart i j d l h (back LivePeriod i less one) (back LivePeriod j h other) (back_both (λ a b. a.site ≡ b.site) i j less h site)
            (back (λ e. HasDay (period e) d) i less first) (back (λ e. HasDay (period e) d) j h second);
        cancel_paired = λ i h cancel. let w = r.cancel_paired i h (back (λ e. e.state ≡ 4) i h cancel) in (w.0, paired_too i w.0 h w.1);
        cancelled_paired = λ j h cancelled.
            let w = r.cancelled_paired j h (back (λ e. e.state ≡ 3) j h cancelled) in (w.0, w.1, paired_too w.0 j w.1 w.2);
      }

-- ---- a run, and how many of its entries are in use
module _ (run : List Entry) (used : ℕ) where
  in_use : SameEntries (take used run) run used
  unfolding SameEntries
  in_use i h = get_or-take used run i blank h

  -- the entries in use, by themselves
  front_means : length run ≤ 8192 → used ≤ length run → (entries_sound (take used run) ≡ true) ↔ Sound run used
  front_means few room = (
    λ e. sound_too (take used run) run used in_use few room (subst (Sound (take used run)) long (means.0 e)),
    λ r. means.1
        (subst (Sound (take used run)) (sym long)
        (sound_too run (take used run) used (backwards (take used run) run used in_use) (omega (arith, long)) (omega (arith, long)) r)),
  )
    where
      long : length (take used run) ≡ used
      long = length-take-le used run room

      means : (entries_sound (take used run) ≡ true) ↔ Sound (take used run) (length (take used run))
      means = entries_mean (take used run) (omega (arith, long))

  pub sound_means : (is_sound run used ≡ true) ↔ Sound run used
  unfolding is_sound
  sound_means =
      let whole = both (sizes_mean (length run) used) Iff.rfl in (
        λ e. let t = whole.0 e in (front_means t.0.0 t.0.1).0 t.1,
        λ r. whole.1 ((r.few, r.room), (front_means r.few r.room).1 r),
      )

  pub too_long : 8192 < length run → is_sound run used ≡ false
  unfolding is_sound sizes_fit
  too_long long = rw (lt-leb (length run) 8192 long)

pub empty_sound : (run : List Entry) → length run ≤ 8192 → is_sound run 0 ≡ true
empty_sound run few =
    (sound_means run 0).1
    (record {
      few = few;
      room = omega arith;
      fit = λ i h. absurd (omega arith);
      keys = λ i j l h sender id. omega arith;
      apart = λ i j d l h one other site first second. omega arith;
      cancel_paired = λ i h cancel. absurd (omega arith);
      cancelled_paired = λ j h cancelled. absurd (omega arith);
    })

-- what stands past the entries in use doesn't matter
pub past_used : (run run' : List Entry) (used : ℕ) → take used run ≡ take used run' → length run ≡ length run' → is_sound run used ≡ is_sound run' used
unfolding is_sound
past_used run run' used same long = λ t. sizes_fit (long t) used && entries_sound (same t)
