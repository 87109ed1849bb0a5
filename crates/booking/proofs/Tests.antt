-- What the tests of an accepted file say of the booked records: its cancels name live or held ones with opposite amounts, and no key comes twice.
-- Assumes nothing.
use mathlib.Core.Path.{◌≡◌, refl, sym, ap, ◌∙◌}
use mathlib.Core.Bool.{Bool, true, false, not, ◌&&◌, cond, false≢true}
use Rattle.std.specs.Prelude.{Some}
use mathlib.Core.List.{List, [], ◌∷◌, ◌++◌, map}
use Prim.Native.Nat.{ℕ, suc, ◌≤◌}
use native.Mathlib.Nat.{le_trans, le_of_eq}
use native.Mathlib.Omega.{arith}
use lib.Dec.{T}
use Rattle.lists.specs.Selections.{filter, any, count}
use Rattle.lists.specs.InsideSelections.{all, distinct}
use Rattle.lists.proofs.Selections.{is_true, both, is_false, cases, count_map, count_append, count_split, count_none, count_filter_le, distinct_count}
use Rattle.bill_files.specs.Accepted.{Bill, BillFile}
use Rattle.entries.specs.declared.Entry.{Entry}
use Rattle.booking.specs.Booking.{cancels, originals, entry, names_entry, named_entry, cancel_named, is_stored}
use Rattle.booking.specs.InsidePasses.{Key, same_key, key_of, entry_key, keys, is_opposed, AllNamed, Passes}
use Rattle.booking.specs.Guarantee.{fits, Standing, is_uncancelled, turn}
use Rattle.booking.proofs.Turns.{bills, Once, has, same_key_lem, key_same, named_standing}
use Rattle.booking.proofs.Stored.{code, entry_now, is_record, Stores, names_now, names_record, stores_cancel}
use Rattle.booking.proofs.Opposites.{opposes_entry}
use Rattle.booking.proofs.Named.{is_opposing, HasOpposite, AllHaveOpposites}
use Rattle.booking.proofs.KeptNames.{all_named_append}

-- ════ tests 39 and 40

-- the earliest entry that a cancel names is that of the earliest record
named_record : (c : Bill) (l : List Entry) → named_entry c (filter is_record l) ≡ named_entry c l
named_record c [] = refl
named_record c (e ∷ l) = cases (names_entry c e)
    (λ n. rw (n, names_record c e n) (rw n))
    (λ n. rw n (go n (is_record e) (named_record c l)))
  where
    go : names_entry c e ≡ false → (x : Bool) → named_entry c (filter is_record l) ≡ named_entry c l → named_entry c (cond x (e ∷ filter is_record l) (filter is_record l)) ≡ named_entry c l
    go n true h = rw n h
    go n false h = h

opposed_now : (c : Bill) (bs : List Standing) → is_opposed c (named_entry c (map entry_now bs)) ≡ is_opposing c (named_standing c bs)
opposed_now c [] = refl
opposed_now c (s ∷ bs) =
    ap (λ (x : Bool). is_opposed c (cond x (Some (entry_now s)) (named_entry c (map entry_now bs)))) (names_now c s)
    ∙ go (is_uncancelled s && fits c s.bill) (opposed_now c bs)
  where
    go : (x : Bool) → is_opposed c (named_entry c (map entry_now bs)) ≡ is_opposing c (named_standing c bs)
        → is_opposed c (cond x (Some (entry_now s)) (named_entry c (map entry_now bs))) ≡ is_opposing c (cond x (Some s) (named_standing c bs))
    go true h = opposes_entry c s.bill (code s.status)
    go false h = h

has_opposite : (l : List Entry) (bs : List Standing) (c : Bill) → Stores l bs → is_opposed c (named_entry c l) ≡ true → HasOpposite bs c
has_opposite l bs c t named = sym (opposed_now c bs) ∙ ap (λ (m : List Entry). is_opposed c (named_entry c m)) (sym t) ∙ ap (is_opposed c) (named_record c l) ∙ named

pub all_have_opposites : (l : List Entry) (bs : List Standing) (cs : List Bill) → T (all (λ b. b.cancel) cs) → Stores l bs → AllNamed l cs → AllHaveOpposites bs cs
all_have_opposites l bs [] a t n = tt
all_have_opposites l bs (c ∷ cs) a t n =
    let h = both c.cancel (all (λ b. b.cancel) cs) a in (
      has_opposite l bs c t n.0,
      all_have_opposites (cancel_named c l ++ entry c 4 ∷ []) (turn bs c) cs h.1 (stores_cancel l bs c (is_true c.cancel h.0) t)
          (all_named_append (cancel_named c l) (entry c 4 ∷ []) cs n.1),
    )

-- ════ tests 9 and 102

-- what no key of a list passes, none that is among them passes
pub none_passes : (q : Key → Bool) (ks : List Key) (k : Key) → T (all (λ x. not (q x)) ks) → any (λ x. same_key x k) ks ≡ true → q k ≡ false
none_passes q [] k a e = absurd (false≢true e)
none_passes q (x ∷ ks) k a e =
    let h = both (not (q x)) (all (λ x. not (q x)) ks) a in
    cases (same_key x k)
    (λ s. ap q (sym (same_key_lem x k s)) ∙ is_false (q x) h.0)
    (λ s. none_passes q ks k h.1 (rw s at e))

pub key_once : (ks : List Key) (k : Key) → T (distinct same_key ks) → count (λ x. same_key x k) ks ≤ 1
key_once ks k = distinct_count same_key (λ x. same_key x k) ks (λ x y a b. key_same x y (same_key_lem x k a ∙ sym (same_key_lem y k b)))

stored_keys : (l : List Entry) (bs : List Standing) (k : Key) → Stores l bs → count (has k) (bills bs) ≤ count (λ e. same_key (entry_key e) k) l
stored_keys l bs k t =
    le_trans (le_of_eq (count_map (has k) (λ s. s.bill) bs ∙ sym (count_map (λ e. same_key (entry_key e) k) entry_now bs) ∙ ap (count (λ e. same_key (entry_key e) k)) (sym t)))
    (count_filter_le (λ e. same_key (entry_key e) k) is_record l)

-- a key of the file is no entry's
unstored_key : (places : ℕ) (l : List Entry) (file : BillFile) (k : Key) → Passes places l file → any (λ x. same_key x k) (keys file) ≡ true
    → any (λ e. same_key (entry_key e) k) l ≡ false
unfolding is_stored
unstored_key places l file k p e = none_passes (λ x. is_stored l x.0 x.1) (keys file) k p.unstored e

pub once_booked : (places : ℕ) (l : List Entry) (bs : List Standing) (file : BillFile) → Stores l bs → Passes places l file → Once (bills bs)
    → Once (bills bs ++ (cancels file ++ originals file))
once_booked places l bs file t p o k =
    let all_keys = count_append (has k) (bills bs) (cancels file ++ originals file) in
    let order = count_append (has k) (cancels file) (originals file) in
    let parts = count_split (has k) (λ b. b.cancel) file.bills in
    let mapped = count_map (λ x. same_key x k) key_of file.bills in
    let in_file : count (λ x. same_key x k) (keys file) ≤ 1 = key_once (keys file) k p.keys_once in
    let before = o k in
    let in_bills : count (λ x. same_key x k) (map key_of file.bills) ≤ count (λ x. same_key x k) (keys file) =
    more (same_key (file.sender, file.record_id) k) (count (λ x. same_key x k) (map key_of file.bills)) in
    cases (any (λ x. same_key x k) (keys file))
    (λ e.
    let none = count_none (λ e. same_key (entry_key e) k) l (unstored_key places l file k p e) in
    let le = stored_keys l bs k t in
    omega arith)
    (λ e.
    let none = count_none (λ x. same_key x k) (keys file) e in
    omega arith)
  where
    more : (b : Bool) (n : ℕ) → n ≤ cond b (suc n) n
    more true n = omega arith
    more false n = omega arith
