-- An accepted file keeps a ledger sound: `kept`. Each step of booking does, and leaves what the records after it need:
-- their keys are new to the ledger, and the cancels among them still name what they name.
-- Assumes nothing.
use mathlib.Core.Path.{◌≡◌, refl, sym, ap, ◌∙◌, subst, subst⁻¹}
use mathlib.Core.Logic.{◌⊎◌, inl, inr, ⊎_elim}
use mathlib.Core.Bool.{Bool, true, false, not, ◌&&◌, cond, true≢false}
use mathlib.Core.List.{List, [], ◌∷◌, ◌++◌, map}
use Prim.Native.Nat.{ℕ, ◌≤◌, ◌<◌}
use native.Mathlib.Omega.{arith}
use borrow.Author.Tests.{eq-eqb}
use lib.Dec.{T, eqb, ltb}
use lib.ListN.{length, set}
use Rattle.lists.specs.Selections.{any}
use Rattle.lists.specs.InsideSelections.{all}
use Rattle.lists.proofs.Selections.{cases, both, is_true, and_both, all_of_filter}
use Rattle.calendar.specs.Periods.{shares_day}
use Rattle.calendar.proofs.Periods.{shares_day_lem}
use Rattle.bill_files.specs.Accepted.{Bill, BillFile}
use Rattle.entries.specs.declared.Entry.{Entry}
use Rattle.entries.specs.Entries.{blank, entry_of, is_live, is_period, period, in_state}
use Rattle.soundness.specs.Sound.{entry_fits, is_live_period}
use Rattle.booking.specs.InsideKept.{LiveOn, Paired, EntriesSound}
use Rattle.booking.specs.Booking.{cancels, originals, entry, file_entry, named_entry, cancel_named, overlaps, first_overlap, state_of, original, book_cancels, book_originals, booked}
use Rattle.booking.specs.InsidePasses.{Key, key_of, entry_key, keys, bill_fits, is_opposed, AllNamed, Passes}
use Rattle.booking.proofs.KeptPlaces.{place_some}
use Rattle.soundness.proofs.Meaning.{entry_means}
use Rattle.booking.proofs.Names.{names_standing, names_pairs}
use Rattle.booking.proofs.KeptEntries.{Separate, New, separate, separate_appended, separate_cancelled}
use Rattle.booking.proofs.KeptPairs.{PairedOff, paired_appended, paired_cancelled}
use Rattle.booking.proofs.KeptKeys.{Fresh, fresh_keys, fresh_unlike, fresh_appended, fresh_cancelled, fresh_parted}
use Rattle.booking.proofs.KeptNames.{NamedAt, named_at, all_named_append}
use Rattle.booking.proofs.Overlaps.{overlap_found}

together : (es : List Entry) → Separate es → PairedOff es → EntriesSound es
together es s p =
    record {
      fits = s.fits;
      keys = s.keys;
      apart = s.apart;
      cancel_paired = p.cancel_paired;
      cancelled_paired = p.cancelled_paired;
      one_cancel = p.one_cancel;
    }

-- a file entry or an original is appended
appended : (l : List Entry) (x : Entry) → EntriesSound l → New l x → x.state ≤ 2 → EntriesSound (l ++ x ∷ [])
appended l x s n low = together (l ++ x ∷ []) (separate_appended l x (separate l s) n) (paired_appended l x s low)

-- ---- the file entry
-- its state is for file entries alone: it is no live period, no cancel and not cancelled
file_state : (file : BillFile) → (file_entry file).state ≡ 0
file_state file = refl

file_kept : (l : List Entry) (file : BillFile) (ks : List Key) → EntriesSound l → entry_fits (file_entry file) ≡ true → Fresh l (entry_key (file_entry file) ∷ ks)
    → EntriesSound (l ++ file_entry file ∷ [])
file_kept l file ks s fits fresh = appended l (file_entry file) s new (omega (arith, file_state file))
  where
    new : New l (file_entry file)
    new =
        record {
          fits = (entry_means (file_entry file)).0 fits;
          unlike = fresh_unlike l (entry_key (file_entry file)) ks fresh;
          clear = λ i site day h a b. let live : ◌≡◌ {A = ℕ} 0 1 = sym (file_state file) ∙ b.live in omega arith;
        }

-- ---- a cancel
module _ (l : List Entry) (c : Bill) (ks : List Key) (s : EntriesSound l) (fits : entry_fits (entry c 4) ≡ true) (fresh : Fresh l (key_of c ∷ ks))
    (named : is_opposed c (named_entry c l) ≡ true) where
  at : NamedAt c l
  at = named_at c l named

  -- the entry that it cancels has the opposite amounts
  pair : Paired (entry c 4) (in_state (entry_of l at.place) 3)
  pair = names_pairs c (entry_of l at.place) at.names at.opposes

  cancel_kept : EntriesSound (cancel_named c l ++ entry c 4 ∷ [])
  cancel_kept =
      let p = at.place in
      let (low, high) = names_standing c (entry_of l p) at.names in
      let l' = set l p (in_state (entry_of l p) 3) in
      let fresh' : Fresh l' (key_of c ∷ ks) = subst (λ (m : List Entry). Fresh m (key_of c ∷ ks)) at.cancels (fresh_cancelled c l (key_of c ∷ ks) fresh) in
      let new : New l' (entry c 4) =
      record { fits = (entry_means (entry c 4)).0 fits; unlike = fresh_unlike l' (key_of c) ks fresh'; clear = λ i site day h a b. omega (arith, b.live) } in
      subst⁻¹ (λ (m : List Entry). EntriesSound (m ++ entry c 4 ∷ [])) at.cancels
      (together (l' ++ entry c 4 ∷ [])
      (separate_appended l' (entry c 4) (separate_cancelled l p at.inside low high (separate l s)) new)
      (paired_cancelled l s p at.inside low high (entry c 4) pair))

-- ---- an original
module _ (l : List Entry) (b : Bill) where
  -- at its turn it is held, or it is live and overlaps no live period
  at_turn_lem : (state_of l b ≡ 2) ⊎ ((state_of l b ≡ 1) × (b.kind ≡ 2 → any (overlaps b) l ≡ false))
  unfolding state_of
  at_turn_lem =
      let found = overlap_found l b in
      cases (is_period (entry b 1) && ltb (first_overlap l b) (length l))
      (λ e. inl (ap (λ (t : Bool). cond t 2 1) e))
      (λ e. inr (ap (λ (t : Bool). cond t 2 1) e, λ k. sym found ∙ subst (λ (t : Bool). (t && ltb (first_overlap l b) (length l)) ≡ false) (eq-eqb b.kind 2 k) e))

  state_low : (original l b).state ≤ 2
  state_low = ⊎_elim (λ held. omega arith) (λ live. omega arith) at_turn_lem

  original_fits : T (bill_fits b) → entry_fits (original l b) ≡ true
  original_fits t =
      let (two, four) = both (entry_fits (entry b 1) && entry_fits (entry b 2)) (entry_fits (entry b 4)) t in
      let (live, held) = both (entry_fits (entry b 1)) (entry_fits (entry b 2)) two in
      ⊎_elim (λ e. in_state_lem 2 e held) (λ e. in_state_lem 1 e.0 live) at_turn_lem
    where
      in_state_lem : (n : ℕ) → state_of l b ≡ n → T (entry_fits (entry b n)) → entry_fits (original l b) ≡ true
      in_state_lem n e f = subst⁻¹ (λ (m : ℕ). entry_fits (entry b m) ≡ true) e (is_true (entry_fits (entry b n)) f)

  live_overlaps : (site day : ℕ) (e : Entry) → LiveOn e site day → LiveOn (original l b) site day → overlaps b e ≡ true
  unfolding overlaps
  live_overlaps site day e x y =
      and_both (is_live_period e && eqb e.site b.site) (shares_day (period e) (period (entry b 1)))
      (and_both (is_live_period e) (eqb e.site b.site)
      (and_both (is_live e) (is_period e) (eq-eqb e.state 1 x.live) (eq-eqb e.kind 2 x.period))
      (eq-eqb e.site b.site (x.of_site ∙ sym y.of_site)))
      ((shares_day_lem (period e) (period (entry b 1))).1 (day, (x.from, x.to), (y.from, y.to)))

  clear_of : (i site day : ℕ) → i < length l → LiveOn (entry_of l i) site day → LiveOn (original l b) site day → ⊥
  clear_of i site day h x y =
      ⊎_elim (λ held. omega (arith, y.live))
      (λ live. true≢false (sym (place_some blank (overlaps b) l i h (live_overlaps site day (entry_of l i) x y)) ∙ live.1 y.period))
      at_turn_lem

  original_kept : (ks : List Key) → EntriesSound l → T (bill_fits b) → Fresh l (key_of b ∷ ks) → EntriesSound (l ++ original l b ∷ [])
  original_kept ks s fits fresh =
      appended l (original l b) s
      (record { fits = (entry_means (original l b)).0 (original_fits fits); unlike = fresh_unlike l (key_of b) ks fresh; clear = clear_of })
      state_low

-- ---- the file's cancels, and then its originals
-- what the records after the cancels need is kept too
record Kept (l : List Entry) (ks : List Key) : Type 0 where
  sound : EntriesSound l
  fresh : Fresh l ks

cancels_kept : (l : List Entry) (cs : List Bill) (ks : List Key) → EntriesSound l → T (all bill_fits cs) → Fresh l (map key_of cs ++ ks) → AllNamed l cs → Kept (book_cancels l cs) ks
cancels_kept l [] ks s t f n = record { sound = s; fresh = f }
cancels_kept l (c ∷ cs) ks s t f n =
    let (fits, rest) = both (bill_fits c) (all bill_fits cs) t in
    let (two, four) = both (entry_fits (entry c 1) && entry_fits (entry c 2)) (entry_fits (entry c 4)) fits in
    cancels_kept (cancel_named c l ++ entry c 4 ∷ []) cs ks
    (cancel_kept l c (map key_of cs ++ ks) s (is_true (entry_fits (entry c 4)) four) f n.0)
    rest
    (fresh_appended (cancel_named c l) (entry c 4) (map key_of cs ++ ks) (fresh_cancelled c l (key_of c ∷ (map key_of cs ++ ks)) f))
    (all_named_append (cancel_named c l) (entry c 4 ∷ []) cs n.1)

originals_kept : (l : List Entry) (bs : List Bill) → EntriesSound l → T (all bill_fits bs) → Fresh l (map key_of bs) → EntriesSound (book_originals l bs)
originals_kept l [] s t f = s
originals_kept l (b ∷ bs) s t f =
    let (fits, rest) = both (bill_fits b) (all bill_fits bs) t in
    originals_kept (l ++ original l b ∷ []) bs (original_kept l b (map key_of bs) s fits f) rest
    (fresh_appended l (original l b) (map key_of bs) f)

-- ---- from any sound ledger
pub kept : (places : ℕ) (l : List Entry) (file : BillFile) → EntriesSound l → Passes places l file → EntriesSound (booked l file)
kept places l file s p =
    let x = file_entry file in
    let fresh = fresh_keys l (keys file) p.keys_once p.unstored in
    let parted = fresh_parted (l ++ x ∷ []) (λ b. b.cancel) file.bills (fresh_appended l x (map key_of file.bills) fresh) in
    let after = cancels_kept (l ++ x ∷ []) (cancels file) (map key_of (originals file))
    (file_kept l file (map key_of file.bills) s p.file_fits fresh)
    (all_of_filter bill_fits (λ b. b.cancel) file.bills p.bills_fit)
    parted
    (all_named_append l (x ∷ []) (cancels file) p.named) in
    originals_kept (book_cancels (l ++ x ∷ []) (cancels file)) (originals file) after.sound
    (all_of_filter bill_fits (λ b. not b.cancel) file.bills p.bills_fit)
    after.fresh
