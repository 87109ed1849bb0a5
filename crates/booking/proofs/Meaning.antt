-- What the tests that read the ledger ask, in plain terms.
--     test_8, test_102     no entry stores the Record ID
--     test_39              "names an entry .., live or held before this file, that no earlier Y record of the file names": the search changes the
--                          ledger as it goes, and says just this where no sender and Record ID pair repeats
--     test_39_and_40       the same of an entry with the opposite amounts: the record `Cancels` of specs/Acceptable
-- Assumes nothing.
use mathlib.Core.Path.{◌≡◌, refl, sym, ap, ◌∙◌, subst}
use mathlib.Core.Logic.Iff
use mathlib.Core.Logic.{◌↔◌}
use mathlib.Core.Bool.{Bool, true, false, not, ◌&&◌, ◌||◌, cond, true≢false}
use Rattle.std.specs.Prelude.{Option, Some}
use mathlib.Core.List.{List, [], ◌∷◌}
use Prim.Native.Nat.{ℕ, zero, suc, ◌<◌}
use native.Mathlib.Omega.{arith}
use borrow.Author.Tests.{eqb-true, eq-eqb}
use lib.Dec.{eqb}
use lib.ListN.{length, get_or}
use Rattle.lists.specs.Selections.{any}
use Rattle.lists.proofs.Selections.{cases, and_left, and_right, and_both, neither}
use Rattle.bill_files.specs.Accepted.{Bill, BillFile}
use Rattle.entries.specs.declared.Entry.{Entry}
use Rattle.entries.specs.Entries.{entry_of, blank, in_state}
use Rattle.soundness.specs.Sound.{opposite}
use Rattle.soundness.proofs.Meaning.{opposite_means}
use Rattle.booking.proofs.Accepting.{search_on}
use Rattle.booking.proofs.Added.{length_cancelled}
use Rattle.booking.proofs.Names.{names_means}
use Rattle.booking.proofs.Opposites.{opposite_of_lem}
use Rattle.booking.specs.Acceptable.{no_bill, bill_at, Cancels}
use Rattle.booking.specs.Booking.{entry, names_entry, named_entry, cancel_named, first_cancel, is_unnamed, is_unopposed, first_unnamed, first_unopposed, has_file, is_stored, has_stored}

-- ---- a test that holds nowhere
none_at : {A : Type 0} (p : A → Bool) (other : A) (xs : List A) → (any p xs ≡ false) ↔ ((i : ℕ) → i < length xs → p (get_or xs i other) ≡ false)
none_at p other [] = (λ e i h. absurd (omega arith), λ h. refl)
none_at p other (x ∷ xs) = (
  λ e. let n = neither (p x) (any p xs) e in λ i h. at i h n.0 ((none_at p other xs).0 n.1),
  λ h. rw (h 0 (omega arith)) ((none_at p other xs).1 (λ i l. h (suc i) (omega arith))),
)
  where
    at : (i : ℕ) → i < suc (length xs) → p x ≡ false → ((i : ℕ) → i < length xs → p (get_or xs i other) ≡ false) → p (get_or (x ∷ xs) i other) ≡ false
    at zero h first rest = first
    at (suc i) h first rest = rest i (omega arith)

-- tests of which one at least fails
unlike_two : (k l m n : ℕ) → ((eqb k l && eqb m n) ≡ false) ↔ (k ≡ l → m ≡ n → ⊥)
unlike_two k l m n = (
  λ e p q. true≢false (sym (and_both (eqb k l) (eqb m n) (eq-eqb k l p) (eq-eqb m n q)) ∙ e),
  λ h. cases (eqb k l && eqb m n) (λ t. absurd (h (eqb-true k l (and_left (eqb k l) (eqb m n) t)) (eqb-true m n (and_right (eqb k l) (eqb m n) t)))) (λ t. t),
)

unlike_three : (a b k l m n : ℕ) → ((eqb a b && eqb k l && eqb m n) ≡ false) ↔ (a ≡ b → k ≡ l → m ≡ n → ⊥)
unlike_three a b k l m n = (
  λ e p q r. true≢false (sym (and_both (eqb a b && eqb k l) (eqb m n) (and_both (eqb a b) (eqb k l) (eq-eqb a b p) (eq-eqb k l q)) (eq-eqb m n r)) ∙ e),
  λ h. cases (eqb a b && eqb k l && eqb m n)
      (λ t.
      let s = and_left (eqb a b && eqb k l) (eqb m n) t in
      absurd (h (eqb-true a b (and_left (eqb a b) (eqb k l) s)) (eqb-true k l (and_right (eqb a b) (eqb k l) s)) (eqb-true m n (and_right (eqb a b && eqb k l) (eqb m n) t))))
      (λ t. t),
)

pub test_8 : (l : List Entry) (file : BillFile)
    → (has_file l file ≡ false) ↔ ((i : ℕ) → i < length l → (entry_of l i).kind ≡ 1 → (entry_of l i).sender ≡ file.sender → (entry_of l i).id ≡ file.record_id → ⊥)
unfolding has_file
test_8 l file =
    let at = none_at (λ (e : Entry). eqb e.kind 1 && eqb e.sender file.sender && eqb e.id file.record_id) blank l in
    (λ e i h. (plain i).0 (at.0 e i h), λ f. at.1 (λ i h. (plain i).1 (f i h)))
  where
    plain : (i : ℕ) → ((eqb (entry_of l i).kind 1 && eqb (entry_of l i).sender file.sender && eqb (entry_of l i).id file.record_id) ≡ false)
        ↔ ((entry_of l i).kind ≡ 1 → (entry_of l i).sender ≡ file.sender → (entry_of l i).id ≡ file.record_id → ⊥)
    plain i = unlike_three (entry_of l i).kind 1 (entry_of l i).sender file.sender (entry_of l i).id file.record_id

-- a sender and Record ID that no entry stores
abbrev NotStored : List Entry → ℕ → ℕ → Type 0
NotStored l sender id = (i : ℕ) → i < length l → (entry_of l i).sender ≡ sender → (entry_of l i).id ≡ id → ⊥

not_stored : (l : List Entry) (sender id : ℕ) → (is_stored l sender id ≡ false) ↔ NotStored l sender id
unfolding is_stored
not_stored l sender id =
    let at = none_at (λ (e : Entry). eqb e.sender sender && eqb e.id id) blank l in
    (λ e i h. (plain i).0 (at.0 e i h), λ f. at.1 (λ i h. (plain i).1 (f i h)))
  where
    plain : (i : ℕ) → ((eqb (entry_of l i).sender sender && eqb (entry_of l i).id id) ≡ false) ↔ ((entry_of l i).sender ≡ sender → (entry_of l i).id ≡ id → ⊥)
    plain i = unlike_two (entry_of l i).sender sender (entry_of l i).id id

pub test_102 : (l : List Entry) (file : BillFile)
    → (has_stored l file ≡ false) ↔ (NotStored l file.sender file.record_id × ((k : ℕ) → k < length file.bills → NotStored l (bill_at file.bills k).sender (bill_at file.bills k).record_id))
unfolding has_stored
test_102 l file =
    let stored : Bill → Bool = λ b. is_stored l b.sender b.record_id in
    let at = none_at stored no_bill file.bills in (
      λ e.
          let n = neither (is_stored l file.sender file.record_id) (any stored file.bills) e in
          ((not_stored l file.sender file.record_id).0 n.0, λ k h. (not_stored l (bill_at file.bills k).sender (bill_at file.bills k).record_id).0 (at.0 n.1 k h)),
      λ (f, g). rw ((not_stored l file.sender file.record_id).1 f) (at.1 (λ k h. (not_stored l (bill_at file.bills k).sender (bill_at file.bills k).record_id).1 (g k h))),
    )

-- ---- what a cancel names

-- no two entries have what the cancel names
abbrev pub NamesOne : Bill → List Entry → Type 0
NamesOne c l = (i j : ℕ) → i < j → j < length l → names_entry c (entry_of l i) ≡ true → names_entry c (entry_of l j) ≡ true → ⊥

pub cancelled_unnamed : (c : Bill) (e : Entry) → names_entry c (in_state e 3) ≡ false
unfolding names_entry
cancelled_unnamed c e = refl

-- the entry that a cancel names can be named no more, and the others are as they were
named_no_more : (c d : Bill) (l : List Entry) (j : ℕ) → NamesOne c l → j < length l → names_entry c (entry_of l j) ≡ true → names_entry d (entry_of (cancel_named c l) j) ≡ false
named_no_more c d [] j one h e = absurd (omega arith)
named_no_more c d (x ∷ l) zero one h e = subst (λ (b : Bool). names_entry d (entry_of (cond b (in_state x 3 ∷ l) (x ∷ cancel_named c l)) 0) ≡ false) (sym e) (cancelled_unnamed d x)
named_no_more c d (x ∷ l) (suc j) one h e =
    cases (names_entry c x)
    (λ t. absurd (one 0 (suc j) (omega arith) h t e))
    (λ t. rw t (named_no_more c d l j (λ i k a b. one (suc i) (suc k) (omega arith) (omega arith)) (omega arith) e))

unnamed_stays : (c : Bill) (l : List Entry) (j : ℕ) → names_entry c (entry_of l j) ≡ false → entry_of (cancel_named c l) j ≡ entry_of l j
unnamed_stays c [] j e = refl
unnamed_stays c (x ∷ l) zero e = ap (λ (b : Bool). entry_of (cond b (in_state x 3 ∷ l) (x ∷ cancel_named c l)) 0) e
unnamed_stays c (x ∷ l) (suc j) e = cases (names_entry c x) (λ t. rw t) (λ t. rw t (unnamed_stays c l j e))

-- ---- keys
abbrev pub KeysOnce : List Entry → Type 0
KeysOnce l = (i j : ℕ) → i < j → j < length l → (entry_of l i).sender ≡ (entry_of l j).sender → (entry_of l i).id ≡ (entry_of l j).id → ⊥

same_sender : (c : Bill) (l : List Entry) (j : ℕ) → (entry_of (cancel_named c l) j).sender ≡ (entry_of l j).sender
same_sender c [] j = refl
same_sender c (x ∷ l) zero = cases (names_entry c x) (λ t. rw t) (λ t. rw t)
same_sender c (x ∷ l) (suc j) = cases (names_entry c x) (λ t. rw t) (λ t. rw t (same_sender c l j))

same_id : (c : Bill) (l : List Entry) (j : ℕ) → (entry_of (cancel_named c l) j).id ≡ (entry_of l j).id
same_id c [] j = refl
same_id c (x ∷ l) zero = cases (names_entry c x) (λ t. rw t) (λ t. rw t)
same_id c (x ∷ l) (suc j) = cases (names_entry c x) (λ t. rw t) (λ t. rw t (same_id c l j))

keys_stay : (c : Bill) (l : List Entry) → KeysOnce l → KeysOnce (cancel_named c l)
keys_stay c l k i j a b e f =
    k i j a (omega (arith, length_cancelled c l))
    (sym (same_sender c l i) ∙ e ∙ same_sender c l j)
    (sym (same_id c l i) ∙ f ∙ same_id c l j)

refers : (r : Option ℕ) (m n : ℕ) → r ≡ Some m → r ≡ Some n → m ≡ n
refers r m n e f = cc

pub names_one : (c : Bill) (l : List Entry) → KeysOnce l → NamesOne c l
names_one c l k i j a b e f =
    let p = (names_means c (entry_of l i)).0 e in
    let q = (names_means c (entry_of l j)).0 f in
    k i j a b (sym p.sender ∙ q.sender) (refers c.reference (entry_of l i).id (entry_of l j).id p.reference q.reference)

-- ---- tests 39 and 40

-- the Y record at k names an entry of the ledger that no earlier Y record names, and that is what is asked of it
pub record NamesAlone (asks : Bill → Entry → Bool) (l : List Entry) (bs : List Bill) (k : ℕ) : Type 0 where
  pub place : ℕ
  pub within : place < length l
  pub names : names_entry (bill_at bs k) (entry_of l place) ≡ true
  pub asked : asks (bill_at bs k) (entry_of l place) ≡ true
  pub alone : (i : ℕ) → i < k → (bill_at bs i).cancel ≡ true → names_entry (bill_at bs i) (entry_of l place) ≡ false

abbrev pub EachNamed : (Bill → Entry → Bool) → List Entry → List Bill → Type 0
EachNamed asks l bs = (k : ℕ) → k < length bs → (bill_at bs k).cancel ≡ true → NamesAlone asks l bs k

abbrev Found : (Bill → Entry → Bool) → Bill → List Entry → Type 0
Found asks c l = (j : ℕ) × (j < length l) × (names_entry c (entry_of l j) ≡ true) × (asks c (entry_of l j) ≡ true)

module _ (asks : Bill → Entry → Bool) where
  shift : (l : List Entry) (b : Bill) (bs : List Bill) (k : ℕ) → (n : NamesAlone asks l bs k)
      → (b.cancel ≡ true → names_entry b (entry_of l n.place) ≡ false) → NamesAlone asks l (b ∷ bs) (suc k)
  shift l b bs k n first = record { place = n.place; within = n.within; names = n.names; asked = n.asked; alone = at }
    where
      at : (i : ℕ) → i < suc k → (bill_at (b ∷ bs) i).cancel ≡ true → names_entry (bill_at (b ∷ bs) i) (entry_of l n.place) ≡ false
      at zero h e = first e
      at (suc i) h e = n.alone i (omega arith) e

  back : (l : List Entry) (b : Bill) (bs : List Bill) (k : ℕ) → NamesAlone asks l (b ∷ bs) (suc k) → NamesAlone asks l bs k
  back l b bs k n = record { place = n.place; within = n.within; names = n.names; asked = n.asked; alone = λ i h e. n.alone (suc i) (omega arith) e }

  -- an entry that the first cancel doesn't name stays, and one that it names can't be named any more
  module _ (b : Bill) (l : List Entry) (bs : List Bill) (one : NamesOne b l) where
    later_before : (k : ℕ) → NamesAlone asks (cancel_named b l) bs k → NamesAlone asks l (b ∷ bs) (suc k)
    later_before k n = shift l b bs k (record {
      place = n.place;
      within = inside;
      names = subst (λ (e : Entry). names_entry (bill_at bs k) e ≡ true) same n.names;
      asked = subst (λ (e : Entry). asks (bill_at bs k) e ≡ true) same n.asked;
      alone = λ i h c. subst (λ (e : Entry). names_entry (bill_at bs i) e ≡ false) same (n.alone i h c);
    }) (λ e. unnamed)
      where
        inside : n.place < length l
        inside = omega (arith, n.within, length_cancelled b l)

        unnamed : names_entry b (entry_of l n.place) ≡ false
        unnamed =
            cases (names_entry b (entry_of l n.place))
            (λ t. absurd (true≢false (sym n.names ∙ named_no_more b (bill_at bs k) l n.place one inside t)))
            (λ t. t)

        same : entry_of (cancel_named b l) n.place ≡ entry_of l n.place
        same = unnamed_stays b l n.place unnamed

    before_later : b.cancel ≡ true → (k : ℕ) → NamesAlone asks l (b ∷ bs) (suc k) → NamesAlone asks (cancel_named b l) bs k
    before_later e k n = record {
      place = n.place;
      within = omega (arith, n.within, length_cancelled b l);
      names = subst (λ (e : Entry). names_entry (bill_at bs k) e ≡ true) (sym same) n.names;
      asked = subst (λ (e : Entry). asks (bill_at bs k) e ≡ true) (sym same) n.asked;
      alone = λ i h c. subst (λ (e : Entry). names_entry (bill_at bs i) e ≡ false) (sym same) (n.alone (suc i) (omega arith) c);
    }
      where
        same : entry_of (cancel_named b l) n.place ≡ entry_of l n.place
        same = unnamed_stays b l n.place (n.alone 0 (omega arith) e)

    after_cancel_lem : b.cancel ≡ true → Found asks b l × EachNamed asks (cancel_named b l) bs ↔ EachNamed asks l (b ∷ bs)
    after_cancel_lem e = (
      λ h k a c. at k a c h.0 h.1,
      λ h. (
        let n = h 0 (omega arith) e in (n.place, n.within, n.names, n.asked),
        λ k a c. before_later e k (h (suc k) (omega arith) c),
      ),
    )
      where
        at : (k : ℕ) → k < suc (length bs) → (bill_at (b ∷ bs) k).cancel ≡ true → Found asks b l → EachNamed asks (cancel_named b l) bs → NamesAlone asks l (b ∷ bs) k
        at zero a c here rest = record { place = here.0; within = here.1; names = here.2; asked = here.3; alone = λ i h. absurd (omega arith) }
        at (suc k) a c here rest = later_before k (rest k (omega arith) c)

  after_original : (b : Bill) (l : List Entry) (bs : List Bill) → b.cancel ≡ false → EachNamed asks l bs ↔ EachNamed asks l (b ∷ bs)
  after_original b l bs e = (at, λ h k a c. back l b bs k (h (suc k) (omega arith) c))
    where
      at : EachNamed asks l bs → (k : ℕ) → k < suc (length bs) → (bill_at (b ∷ bs) k).cancel ≡ true → NamesAlone asks l (b ∷ bs) k
      at h zero a c = absurd (true≢false (sym c ∙ e))
      at h (suc k) a c = shift l b bs k (h k (omega arith) c) (λ f. absurd (true≢false (sym f ∙ e)))

  -- a search that fails where no such entry is found
  module _ (fails : List Entry → Bill → Bool) (found : (c : Bill) (l : List Entry) → NamesOne c l → (fails l c ≡ false) ↔ Found asks c l) where
    each_named : (l : List Entry) (bs : List Bill) → KeysOnce l → (first_cancel fails l bs ≡ length bs) ↔ EachNamed asks l bs
    each_named l [] keys = (λ e k h. absurd (omega arith), λ h. refl)
    each_named l (b ∷ bs) keys =
        cases b.cancel
        (λ e. Iff.trans (hits e) (Iff.trans (both_iff (found b l (names_one b l keys)) (each_named (cancel_named b l) bs (keys_stay b l keys))) (after_cancel_lem b l bs (names_one b l keys) e)))
        (λ e. Iff.trans (misses e) (Iff.trans (each_named l bs keys) (after_original b l bs e)))
      where
        both_iff : {P Q R S : Type 0} → (P ↔ Q) → (R ↔ S) → (P × R) ↔ (Q × S)
        both_iff f g = (λ h. (f.0 h.0, g.0 h.1), λ h. (f.1 h.0, g.1 h.1))

        hits : b.cancel ≡ true → (first_cancel fails l (b ∷ bs) ≡ suc (length bs)) ↔ ((fails l b ≡ false) × (first_cancel fails (cancel_named b l) bs ≡ length bs))
        hits e = subst (λ (y : Bool). (cond (y && fails l b) 0 (suc (first_cancel fails (cond y (cancel_named b l) l) bs)) ≡ suc (length bs))
            ↔ ((fails l b ≡ false) × (first_cancel fails (cancel_named b l) bs ≡ length bs))) (sym e) (search_on (fails l b) (first_cancel fails (cancel_named b l) bs) (length bs))

        misses : b.cancel ≡ false → (first_cancel fails l (b ∷ bs) ≡ suc (length bs)) ↔ (first_cancel fails l bs ≡ length bs)
        misses e = subst (λ (y : Bool). (cond (y && fails l b) 0 (suc (first_cancel fails (cond y (cancel_named b l) l) bs)) ≡ suc (length bs))
            ↔ (first_cancel fails l bs ≡ length bs)) (sym e) ((λ h. omega arith, λ h. omega arith))

-- 39 asks nothing more of the entry
abbrev pub asks_nothing : Bill → Entry → Bool
asks_nothing c e = true

found_at : (c : Bill) (l : List Entry) → (is_unnamed (named_entry c l) ≡ false) ↔ Found asks_nothing c l
found_at c [] = (λ e. absurd (true≢false e), λ h. absurd (omega (arith, h.1)))
found_at c (x ∷ l) = (λ e. to (found_at c l).0 (names_entry c x) refl e, λ h. from h.0 (found_at c l).1 h.1 h.2)
  where
    to : (is_unnamed (named_entry c l) ≡ false → Found asks_nothing c l) → (t : Bool) → names_entry c x ≡ t → is_unnamed (cond t (Some x) (named_entry c l)) ≡ false → Found asks_nothing c (x ∷ l)
    to rest true p e = (0, omega arith, p, refl)
    to rest false p e = let r = rest e in (suc r.0, omega (arith, r.1), r.2, refl)

    from : (j : ℕ) → (Found asks_nothing c l → is_unnamed (named_entry c l) ≡ false) → j < suc (length l)
        → names_entry c (entry_of (x ∷ l) j) ≡ true → is_unnamed (cond (names_entry c x) (Some x) (named_entry c l)) ≡ false
    from zero rest h e = ap (λ (b : Bool). is_unnamed (cond b (Some x) (named_entry c l))) e
    from (suc j) rest h e = cases (names_entry c x) (λ t. rw t) (λ t. rw t (rest (j, omega arith, e, refl)))

pub test_39 : (l : List Entry) (file : BillFile) → KeysOnce l → (first_unnamed l file ≡ length file.bills) ↔ EachNamed asks_nothing l file.bills
unfolding first_unnamed
test_39 l file keys = each_named asks_nothing (λ l c. is_unnamed (named_entry c l)) (λ c l one. found_at c l) l file.bills keys

-- 40 asks for the opposite amounts
abbrev pub asks_opposite : Bill → Entry → Bool
asks_opposite c e = opposite (entry c 4) e

abbrev fails_either : Bill → Option Entry → Bool
fails_either c e = is_unnamed e || is_unopposed c e

opposed_at : (c : Bill) (l : List Entry) → NamesOne c l → (fails_either c (named_entry c l) ≡ false) ↔ Found asks_opposite c l
opposed_at c [] one = (λ e. absurd (true≢false e), λ h. absurd (omega (arith, h.1)))
opposed_at c (x ∷ l) one = (
  λ e. to (opposed_at c l rest_one).0 (names_entry c x) (opposite (entry c 4) x) refl refl e,
  λ h. from h.0 (opposed_at c l rest_one).1 h.1 h.2 h.3,
)
  where
    rest_one : NamesOne c l
    rest_one i k a b = one (suc i) (suc k) (omega arith) (omega arith)

    to : (fails_either c (named_entry c l) ≡ false → Found asks_opposite c l) → (t o : Bool) → names_entry c x ≡ t → opposite (entry c 4) x ≡ o
        → fails_either c (cond t (Some x) (named_entry c l)) ≡ false → Found asks_opposite c (x ∷ l)
    to rest true true p q e = (0, omega arith, p, q)
    to rest true false p q e = absurd (true≢false (sym (ap not q) ∙ e))
    to rest false o p q e = let r = rest e in (suc r.0, omega (arith, r.1), r.2, r.3)

    from : (j : ℕ) → (Found asks_opposite c l → fails_either c (named_entry c l) ≡ false) → j < suc (length l)
        → names_entry c (entry_of (x ∷ l) j) ≡ true → opposite (entry c 4) (entry_of (x ∷ l) j) ≡ true → fails_either c (cond (names_entry c x) (Some x) (named_entry c l)) ≡ false
    from zero rest h e f = ap (λ (b : Bool). fails_either c (cond b (Some x) (named_entry c l))) e ∙ ap not f
    from (suc j) rest h e f =
        cases (names_entry c x)
        (λ t. absurd (one 0 (suc j) (omega arith) h t e))
        (λ t. rw t (rest (j, omega arith, e, f)))

-- two searches that reach the end are one that looks for either
either_search : (f g : List Entry → Bill → Bool) (l : List Entry) (bs : List Bill)
    → ((first_cancel f l bs ≡ length bs) × (first_cancel g l bs ≡ length bs)) ↔ (first_cancel (λ l c. f l c || g l c) l bs ≡ length bs)
either_search f g l [] = (λ h. refl, λ h. (refl, refl))
either_search f g l (b ∷ bs) = go b.cancel (f l b) (g l b) (either_search f g (cond b.cancel (cancel_named b l) l) bs)
  where
    next : {m n k : ℕ} → ((m ≡ length bs) × (n ≡ length bs)) ↔ (k ≡ length bs) → ((suc m ≡ suc (length bs)) × (suc n ≡ suc (length bs))) ↔ (suc k ≡ suc (length bs))
    next is = (λ h. ap suc (is.0 (omega (arith, h.0), omega (arith, h.1))), λ h. let r = is.1 (omega arith) in (ap suc r.0, ap suc r.1))

    go : {m n k : ℕ} (y t u : Bool) → ((m ≡ length bs) × (n ≡ length bs)) ↔ (k ≡ length bs)
        → ((cond (y && t) 0 (suc m) ≡ suc (length bs)) × (cond (y && u) 0 (suc n) ≡ suc (length bs))) ↔ (cond (y && (t || u)) 0 (suc k) ≡ suc (length bs))
    go true true u is = (λ h. absurd (omega (arith, h.0)), λ h. absurd (omega arith))
    go true false true is = (λ h. absurd (omega (arith, h.1)), λ h. absurd (omega arith))
    go true false false is = next is
    go false t u is = next is

-- the same in plain terms
cancels_mean : (l : List Entry) (bs : List Bill) (k : ℕ) → NamesAlone asks_opposite l bs k ↔ Cancels l bs k
cancels_mean l bs k = (
  λ n.
      let e = entry_of l n.place in
      let o = (opposite_means (entry (bill_at bs k) 4) e).0 n.asked in
      record {
        place = n.place;
        within = n.within;
        names = (names_means (bill_at bs k) e).0 n.names;
        alone = λ i h y m. true≢false (sym ((names_means (bill_at bs i) e).1 m) ∙ n.alone i h y);
        charge = opposite_of_lem (bill_at bs k).charge e.charge o.charge;
        usage = opposite_of_lem (bill_at bs k).usage e.usage o.usage;
      },
  λ n.
      let e = entry_of l n.place in
      record {
        place = n.place;
        within = n.within;
        names = (names_means (bill_at bs k) e).1 n.names;
        asked = (opposite_means (entry (bill_at bs k) 4) e).1
            (record { charge = opposite_of_lem e.charge (bill_at bs k).charge n.charge; usage = opposite_of_lem e.usage (bill_at bs k).usage n.usage });
        alone = λ i h y. cases (names_entry (bill_at bs i) e) (λ t. absurd (n.alone i h y ((names_means (bill_at bs i) e).0 t))) (λ t. t);
      },
)

pub test_39_and_40 : (l : List Entry) (file : BillFile) → KeysOnce l
    → ((first_unnamed l file ≡ length file.bills) × (first_unopposed l file ≡ length file.bills))
    ↔ ((k : ℕ) → k < length file.bills → (bill_at file.bills k).cancel ≡ true → Cancels l file.bills k)
unfolding first_unnamed first_unopposed
test_39_and_40 l file keys =
    let searched = Iff.trans (either_search (λ l c. is_unnamed (named_entry c l)) (λ l c. is_unopposed c (named_entry c l)) l file.bills)
    (each_named asks_opposite (λ l c. fails_either c (named_entry c l)) opposed_at l file.bills keys) in
    (λ h k a y. (cancels_mean l file.bills k).0 (searched.0 h k a y), λ h. searched.1 (λ k a y. (cancels_mean l file.bills k).1 (h k a y)))
