-- Soundness' own words for the used entries, and those in which booking is proved to keep them: the same.
-- Assumes nothing.
use mathlib.Core.Path.{◌≡◌, refl, sym, ◌∙◌, subst}
use mathlib.Core.Logic.Iff
use mathlib.Core.Logic.{◌↔◌}
use mathlib.Core.Bool.{true}
use mathlib.Core.List.{List}
use Prim.Native.Nat.{ℕ, ◌≤◌, ◌<◌}
use native.Mathlib.Omega.{arith}
use native.Mathlib.Decide.{dec_lt}
use lib.ListN.{length}
use Rattle.entries.specs.declared.Entry.{Entry}
use Rattle.entries.specs.Entries.{entry_of}
use Rattle.soundness.specs.Sound.{entries_sound}
use Rattle.soundness.specs.Meaning.{Names, Opposite, Sound}
use Rattle.soundness.specs.Meaning as meaning
use Rattle.soundness.proofs.Meaning.{entries_mean}
use Rattle.booking.specs.InsideKept.{Paired, EntriesSound}
use Rattle.booking.proofs.Opposites.{opposite_of_lem}

-- ---- a pair
paired_names : {c e : Entry} → Paired c e → Names c e
paired_names p = record { id = sym p.reference; alike = record { sender = p.sender; commodity = p.commodity; kind = p.kind; site = p.site; start = p.start; end = p.end } }

paired : {c e : Entry} → c.state ≡ 4 → e.state ≡ 3 → Names c e → Opposite c e → Paired c e
paired {c} {e} cancel cancelled n o =
    record {
      cancel = cancel;
      cancelled = cancelled;
      reference = sym n.id;
      sender = n.alike.sender;
      commodity = n.alike.commodity;
      kind = n.alike.kind;
      site = n.alike.site;
      start = n.alike.start;
      end = n.alike.end;
      charge = opposite_of_lem c.charge e.charge o.charge;
      usage = opposite_of_lem c.usage e.usage o.usage;
    }

module _ (es : List Entry) (few : length es ≤ 8192) where
  from_sound : Sound es (length es) → EntriesSound es
  from_sound s =
      record {
        fits = s.fit;
        keys = s.keys;
        apart = λ i j site day l h p q. s.apart i j day l h (p.live, p.period) (q.live, q.period) (p.of_site ∙ sym q.of_site) (p.from, p.to) (q.from, q.to);
        cancel_paired = λ i h e. let w = s.cancel_paired i h e in (w.0, w.1.earlier, paired w.1.cancel w.1.cancelled w.1.names w.1.opposite);
        cancelled_paired = λ j h e. let w = s.cancelled_paired j h e in (w.0, w.2.earlier, w.1, paired w.2.cancel w.2.cancelled w.2.names w.2.opposite);
        one_cancel = λ i k j a b h p q.
            let w = s.cancelled_paired j h p.cancelled in
            w.2.only i a p.cancel (paired_names p) ∙ sym (w.2.only k b q.cancel (paired_names q));
      }

  module _ (s : EntriesSound es) where
    -- the entries at two places have the same sender and Record ID: it is one place
    same_place : (i j : ℕ) → i < length es → j < length es → (entry_of es i).sender ≡ (entry_of es j).sender → (entry_of es i).id ≡ (entry_of es j).id → i ≡ j
    same_place i j a b sender id = go (dec_lt i j) (dec_lt j i)
      where
        go : Dec (i < j) → Dec (j < i) → i ≡ j
        go (yes l) d = absurd (s.keys i j l b sender id)
        go (no n) (yes l) = absurd (s.keys j i l a (sym sender) (sym id))
        go (no n) (no m) = omega (arith, n, m)

    -- every cancel that names a cancelled entry is paired with it
    pairs_with : (k j : ℕ) → k < length es → j < length es → (entry_of es k).state ≡ 4 → Names (entry_of es k) (entry_of es j) → Paired (entry_of es k) (entry_of es j)
    pairs_with k j a b cancel names =
        let w = s.cancel_paired k a cancel in
        let place = same_place w.0 j (omega (arith, w.1)) b (sym w.2.sender ∙ names.alike.sender) (sym w.2.reference ∙ sym names.id) in
        subst (λ (m : ℕ). Paired (entry_of es k) (entry_of es m)) place w.2

    whole : (i j : ℕ) → i < length es → j < i → Paired (entry_of es i) (entry_of es j) → meaning.Paired es (length es) i j
    whole i j a l p =
        record {
          earlier = l;
          cancel = p.cancel;
          cancelled = p.cancelled;
          names = paired_names p;
          opposite = record { charge = opposite_of_lem (entry_of es j).charge (entry_of es i).charge p.charge; usage = opposite_of_lem (entry_of es j).usage (entry_of es i).usage p.usage };
          only = λ k b cancel names. s.one_cancel k i j b a (omega arith) (pairs_with k j b (omega arith) cancel names) p;
        }

    to_sound : Sound es (length es)
    to_sound =
        record {
          few = few;
          room = omega arith;
          fit = s.fits;
          keys = s.keys;
          apart = λ i j d l h p q site in_p in-q. s.apart i j (entry_of es j).site d l h
              (record { live = p.0; period = p.1; of_site = site; from = in_p.0; to = in_p.1 })
              (record { live = q.0; period = q.1; of_site = refl; from = in-q.0; to = in-q.1 });
          cancel_paired = λ i h e. let w = s.cancel_paired i h e in (w.0, whole i w.0 h w.1 w.2);
          cancelled_paired = λ j h e. let w = s.cancelled_paired j h e in (w.0, w.2, whole w.0 j w.2 w.1 w.3);
        }

  pub entries_sound_means : (entries_sound es ≡ true) ↔ EntriesSound es
  entries_sound_means = Iff.trans (entries_mean es few) (from_sound, to_sound)
