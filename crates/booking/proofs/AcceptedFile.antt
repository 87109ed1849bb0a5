-- What an accepted booking tells of the file's records and the ledger: the record Passes.
--     accepted_passes      an accepted call's file passes
--     all_named            39 and 40 passed: each cancel in turn names an entry, and that has the opposite amounts
-- Assumes nothing.
use mathlib.Core.Path.{◌≡◌, refl, sym, ap, subst}
use mathlib.Core.Logic.{inl, inr, ⊎_elim}
use mathlib.Core.Bool.{Bool, true, false, not, ◌&&◌, cond, true≢false}
use Rattle.std.specs.Prelude.{Option, Some, None}
use mathlib.Core.List.{List, [], ◌∷◌, map}
use Prim.Native.Nat.{ℕ, suc, ◌^◌, ◌≤◌, ◌<◌}
use native.Mathlib.Omega.{arith}
use borrow.Author.Tests.{ne_eqb, not-false}
use lib.Dec.{T, eqb, eqb→eq}
use lib.ListN.{length, get_or}
use Rattle.lists.specs.Selections.{filter, any}
use Rattle.lists.specs.InsideSelections.{all, distinct}
use Rattle.lists.proofs.Selections.{from_true, and_both, and_right, cases, neither}
use Rattle.records.specs.Text.{lines_of}
use Rattle.bill_files.specs.Accepted.{Bill, BillFile, bill_file, bills_in, id_in}
use Rattle.bill_files.specs.InsideFits.{BillFits, FileFits, Distinct}
use Rattle.format.specs.Format.{line_at}
use Rattle.bill_files.specs.Passing.{Passing}
use Rattle.bill_files.proofs.Accepted.{bill_ids, bill_fits_lem, file_fits}
use Rattle.bill_files.proofs.Trailer.{trailer_total}
use Rattle.entries.specs.declared.Entry.{Entry}
use Rattle.soundness.specs.Sound.{entry_fits, opposite}
use Rattle.soundness.specs.Meaning.{EntryFits}
use Rattle.soundness.proofs.Meaning.{entry_means}
use Rattle.booking.specs.Booking.{entry, file_entry, id_or_zero, named_entry, cancel_named, first_cancel, is_unnamed, is_unopposed, first_unnamed, first_unopposed, is_stored, has_stored, Input, file_of, ledger_of, is_booked}
use Rattle.booking.specs.InsidePasses.{Key, same_key, key_of, keys, bill_fits, is_opposed, AllNamed, Passes}
use Rattle.booking.specs.Acceptable.{no_bill, bill_at}
use Rattle.booking.proofs.Accepting.{LedgerPasses, search_on, accepted_unrefused}

-- ---- tests 39 and 40
named_opposed : (c : Bill) (e : Option Entry) → is_unnamed e ≡ false → is_unopposed c e ≡ false → is_opposed c e ≡ true
named_opposed c None n o = absurd (true≢false n)
named_opposed c (Some e) n o = not-false (opposite (entry c 4) e) o

pub all_named : (l : List Entry) (bs : List Bill) → first_cancel (λ l c. is_unnamed (named_entry c l)) l bs ≡ length bs → first_cancel (λ l c. is_unopposed c (named_entry c l)) l bs ≡ length bs
    → AllNamed l (filter (λ b. b.cancel) bs)
all_named l [] e f = tt
all_named l (b ∷ bs) e f =
    let one = (search_on (b.cancel && is_unnamed (named_entry b l)) (first_cancel (λ l c. is_unnamed (named_entry c l)) (cond b.cancel (cancel_named b l) l) bs) (length bs)).0 e in
    let two = (search_on (b.cancel && is_unopposed b (named_entry b l)) (first_cancel (λ l c. is_unopposed c (named_entry c l)) (cond b.cancel (cancel_named b l) l) bs) (length bs)).0 f in
    go (λ l. all_named l bs) b.cancel one.0 two.0 one.1 two.1
  where
    go : ((l : List Entry) → first_cancel (λ l c. is_unnamed (named_entry c l)) l bs ≡ length bs → first_cancel (λ l c. is_unopposed c (named_entry c l)) l bs ≡ length bs
        → AllNamed l (filter (λ b. b.cancel) bs)) → (y : Bool) → (y && is_unnamed (named_entry b l)) ≡ false → (y && is_unopposed b (named_entry b l)) ≡ false
        → first_cancel (λ l c. is_unnamed (named_entry c l)) (cond y (cancel_named b l) l) bs ≡ length bs
        → first_cancel (λ l c. is_unopposed c (named_entry c l)) (cond y (cancel_named b l) l) bs ≡ length bs
        → AllNamed l (cond y (b ∷ filter (λ b. b.cancel) bs) (filter (λ b. b.cancel) bs))
    go rest true n o e f = (named_opposed b (named_entry b l) n o, rest (cancel_named b l) e f)
    go rest false n o e f = rest l e f

-- ---- test 102
all_unstored : (l : List Entry) (bs : List Bill) → any (λ b. is_stored l b.sender b.record_id) bs ≡ false → T (all (λ k. not (is_stored l k.0 k.1)) (map key_of bs))
all_unstored l [] e = tt
all_unstored l (b ∷ bs) e =
    let n = neither (is_stored l b.sender b.record_id) (any (λ b. is_stored l b.sender b.record_id) bs) e in
    rw n.0 (all_unstored l bs n.1)

-- ---- test 9
-- numbers that are apart are those of keys that are
no_same : (k : Key) (ks : List Key) → ((i : ℕ) → i < length ks → (k.1 ≡ get_or (map (λ (k : Key). k.1) ks) i 0) → ⊥) → any (same_key k) ks ≡ false
no_same k [] h = refl
no_same k (m ∷ ks) h =
    cases (same_key k m)
    (λ e. absurd (h 0 (omega arith) (eqb→eq k.1 m.1 (from_true (and_right (eqb k.0 m.0) (eqb k.1 m.1) e)))))
    (λ e. rw e (no_same k ks (λ i l. h (suc i) (omega arith))))

distinct_keys : (ks : List Key) → Distinct (map (λ (k : Key). k.1) ks) → T (distinct same_key ks)
unfolding Distinct
distinct_keys [] d = tt
distinct_keys (k ∷ ks) d =
    rw (no_same k ks (λ i l. d 0 (suc i) (omega arith) (sized i l)))
    (distinct_keys ks (λ i j a b. d (suc i) (suc j) (omega arith) (omega arith)))
  where
    length_map_ids : (xs : List Key) → length (map (λ (k : Key). k.1) xs) ≡ length xs
    length_map_ids [] = refl
    length_map_ids (x ∷ xs) = ap suc (length_map_ids xs)

    sized : (i : ℕ) → i < length ks → suc i < suc (length (map (λ (k : Key). k.1) ks))
    sized i l = omega (arith, length_map_ids ks)

ids_of : (bs : List Bill) → map (λ (k : Key). k.1) (map key_of bs) ≡ map (λ (b : Bill). b.record_id) bs
ids_of [] = refl
ids_of (b ∷ bs) = ap (λ (xs : List ℕ). b.record_id ∷ xs) (ids_of bs)

-- ---- what fits
all_at : {A : Type 0} (p : A → Bool) (other : A) (xs : List A) → ((k : ℕ) → k < length xs → p (get_or xs k other) ≡ true) → T (all p xs)
all_at p other [] h = tt
all_at p other (x ∷ xs) h = rw (h 0 (omega arith)) (all_at p other xs (λ k l. h (suc k) (omega arith)))

small_reference : (r : Option ℕ) → ((n : ℕ) → r ≡ Some n → n < 10 ^ 15) → id_or_zero r < 10 ^ 15
small_reference None h = omega arith
small_reference (Some n) h = h n refl

cancels_small : (t : Bool) (n : ℕ) → n < 10 ^ 15 → cond t n 0 < 10 ^ 15
cancels_small true n h = h
cancels_small false n h = omega arith

-- a TH or OC of the file fits in every state but that of a file entry
bill_entry : (b : Bill) → BillFits b → (s : ℕ) → 1 ≤ s → s ≤ 4 → EntryFits (entry b s)
bill_entry b f s low high =
    record {
      sender = f.sender;
      site = f.site;
      id = f.record_id;
      cancels = cancels_small (eqb s 4) (id_or_zero b.reference) (small_reference b.reference f.reference);
      charge = f.charge;
      usage = f.usage;
      commodity = f.commodity;
      kind = inr f.kind;
      state = high;
      start = omega (arith, f.in_order, f.end);
      end = f.end;
      file_state = (λ e. absurd (omega arith), λ e. absurd (not_file e));
      in_order = f.in_order;
      only_periods = λ n. ⊎_elim (λ e. absurd (n e)) f.once f.kind;
      file_site = λ e. absurd (not_file e);
      only_cancels = λ n. ap (λ (t : Bool). cond t (id_or_zero b.reference) 0) (ne_eqb s 4 n);
    }
  where
    not_file : b.kind ≡ 1 → ⊥
    not_file e = ⊎_elim (λ k. omega arith) (λ k. omega arith) f.kind

file_entry_lem : (file : BillFile) → FileFits file → EntryFits (file_entry file)
file_entry_lem file f =
    record {
      sender = f.sender;
      site = omega arith;
      id = f.record_id;
      cancels = omega arith;
      charge = f.total;
      usage = omega arith;
      commodity = f.commodity;
      kind = inl refl;
      state = omega arith;
      start = omega arith;
      end = omega arith;
      file_state = (λ e. refl, λ e. refl);
      in_order = omega arith;
      only_periods = λ n. (refl, refl, refl);
      file_site = λ e. refl;
      only_cancels = λ n. refl;
    }

fits : (e : Entry) → EntryFits e → entry_fits e ≡ true
fits e = (entry_means e).1

bill_fits_all : (b : Bill) → BillFits b → bill_fits b ≡ true
bill_fits_all b f =
    and_both (entry_fits (entry b 1) && entry_fits (entry b 2)) (entry_fits (entry b 4))
    (and_both (entry_fits (entry b 1)) (entry_fits (entry b 2)) (fits (entry b 1) (bill_entry b f 1 (omega arith) (omega arith))) (fits (entry b 2) (bill_entry b f 2 (omega arith) (omega arith))))
    (fits (entry b 4) (bill_entry b f 4 (omega arith) (omega arith)))

-- ---- a file that passes tests 2 to 38, and those that read the ledger
pub passes : (retailer : ℕ) (distributors : List ℕ) (lines : List (List ℕ)) (places : ℕ) (l : List Entry)
    → Passing retailer distributors lines → LedgerPasses places l (bill_file lines) → Passes places l (bill_file lines)
unfolding bill_file has_stored first_unnamed first_unopposed
passes retailer distributors lines places l p t =
    let stored = neither (is_stored l (bill_file lines).sender (bill_file lines).record_id) (any (λ b. is_stored l b.sender b.record_id) (bills_in lines)) t.unstored in
    record {
      file_fits = fits (file_entry (bill_file lines)) (file_entry_lem (bill_file lines) (file_fits p));
      bills_fit = all_at bill_fits no_bill (bills_in lines) (λ k h. bill_fits_all (bill_at (bills_in lines) k) (bill_fits_lem p no_bill k h));
      keys_once = distinct_keys (keys (bill_file lines)) (subst (λ (ids : List ℕ). Distinct (id_in (line_at lines 0) ∷ ids)) (sym (ids_of (bills_in lines))) (bill_ids p));
      total = trailer_total p;
      named = all_named l (bills_in lines) t.named t.opposed;
      unstored = rw stored.0 (all_unstored l (bills_in lines) stored.1);
      room = t.room;
    }

pub accepted_passes : (i : Input) → is_booked i ≡ true → Passes (length i.run) (ledger_of i) (file_of i)
accepted_passes i e =
    let u = (accepted_unrefused i).0 e in
    passes i.settings.retailer i.settings.distributors (lines_of i.file) (length i.run) (ledger_of i) u.passing u.ledger
