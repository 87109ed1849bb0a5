-- Test 39 by marks: the entry that each cancel of a file names, in the ledger as the cancels before it leave it.
--     Naming                                 the loop's invariant
--     naming_none, naming_fail, naming_step, naming_all    it holds at the start; a cancel that names none; a record that passes; every place is noted
-- Assumes nothing.
use mathlib.Core.Path.{◌≡◌, refl, sym, ap, ◌∙◌, subst}
use mathlib.Core.Bool.{Bool, true, false, not, ◌&&◌, ◌||◌, cond, true≢false}
use Rattle.std.specs.Prelude.{Option, Some, None}
use mathlib.Core.List.{List}
use Prim.Native.Nat.{ℕ, ◌+◌, ◌-◌, ◌≤◌, ◌<◌}
use native.Mathlib.Nat.{zero-add}
use native.Mathlib.Omega.{arith}
use native.Mathlib.Decide.{dec_lt, ℕ_discrete}
use borrow.Author.Tests.{ne_eqb, ltb-true, ltb-false}
use lib.Dec.{eqb, ltb}
use lib.ListN.{length, get_or, set, take}
use lib.Seq.{get_or-set_same, get_or-set_other}
use Rattle.lists.specs.First.{first_where}
use Rattle.lists.specs.Below.{first_below}
use Rattle.lists.proofs.Below.{first_at_most, first_holds, first_least}
use Rattle.lists.proofs.Column.{stored}
use Rattle.lists.proofs.First.{Passed, passed_none, passed_over, passed_here, passed_end}
use Rattle.bill_files.specs.Accepted.{Bill}
use Rattle.entries.specs.declared.Entry.{Entry}
use Rattle.entries.specs.Entries.{blank, entry_of, in_state}
use Rattle.soundness.specs.Sound.{same_subject}
use Rattle.booking.specs.Booking.{entry, names_entry, refers_to, is_live_or_held, named_entry, cancel_named, first_cancel, is_unnamed}
use Rattle.booking.specs.Acceptable.{bill_at}
use Rattle.booking.proofs.Added.{length_cancelled}
use Rattle.booking.proofs.Meaning.{cancelled_unnamed}
use Rattle.used_entries.specs.InsideSearches.{reference_of, names_as, named_first}
use Rattle.file_bills.specs.declared.SourceBill.{SourceBill}
use Rattle.file_bills.specs.InsideBills.{is_cancel, source_at, Source, reference_in_column, References}
use Rattle.file_bills.proofs.Sources.{source_cancel, source_as}
use Rattle.used_entries.specs.InsideNamed.{cancelled_by, named_place, Named}
use Rattle.ledger_tests.specs.InsideTests.{Marked, names, Tried}
use Rattle.used_entries.proofs.Cancelled.{named_some, named_none, cancel_first, cancelled_here, cancelled_past}
use Rattle.ledger_tests.proofs.Resumed.{Resumed, resumed_none, resumed_here, resumed_more}

-- ---- what a cancel names, by its entry and its Reference ID
reference_back : (r : Option ℕ) → reference_of (reference_in_column r) ≡ r
reference_back None = refl
reference_back (Some m) = ap (λ (t : Bool). cond t None (Some (m + 1 - 1))) (ne_eqb (m + 1) 0 (λ z. omega (arith, z))) ∙ ap Some (less m)
  where
    less : (m : ℕ) → m + 1 - 1 ≡ m
    less m = omega arith

names_same : (b : Bill) (e : Entry) → names_as (reference_in_column b.reference) (entry b 4) e ≡ names_entry b e
unfolding names_as names_entry
names_same b e = ap (λ (r : Option ℕ). is_live_or_held e && refers_to r e.id && same_subject (entry b 4) e) (reference_back b.reference)

-- the first place by a test of places, and the first element by a test that agrees with it
first_where_lem : {A : Type 0} (f : A → Bool) (l : List A) (d : A) (test : ℕ → Bool) (n : ℕ) → length l ≡ n → ((p : ℕ) → p < n → f (get_or l p d) ≡ test p) → first_below test n ≡ first_where f l
first_where_lem f l d test n long same = sym (go (dec_lt (first_below test n) n))
  where
    passed : Passed f l (first_below test n)
    passed =
        subst (Passed f l) (zero-add (first_below test n))
        (passed_over f l d 0 (first_below test n) (omega (arith, first_at_most test n, long)) (passed_none f l)
        (λ k h. ap (λ (j : ℕ). f (get_or l j d)) (zero-add k) ∙ same k (omega (arith, first_at_most test n)) ∙ first_least test n k h))

    go : Dec (first_below test n < n) → first_where f l ≡ first_below test n
    go (yes h) = passed_here f l d (first_below test n) (omega (arith, long)) passed (same (first_below test n) h ∙ first_holds test n h)
    go (no h) = passed_end f l (first_below test n) (omega (arith, h, long)) passed

module _ (l now : List Entry) (marks : List ℕ) (M : Marked l now marks) (b : Bill) where
  at : (p : ℕ) → p < length l → names_entry b (entry_of now p) ≡ (eqb (get_or marks p 0) 0 && names_as (reference_in_column b.reference) (entry b 4) (entry_of l p))
  at p h =
      ap (names_entry b) (M.each p h) ∙ go (eqb (get_or marks p 0) 0)
      ∙ ap (λ (t : Bool). eqb (get_or marks p 0) 0 && t) (sym (names_same b (entry_of l p)))
    where
      go : (t : Bool) → names_entry b (cond t (entry_of l p) (in_state (entry_of l p) 3)) ≡ (t && names_entry b (entry_of l p))
      go true = refl
      go false = cancelled_unnamed b (entry_of l p)

  named_is : named_first l marks (reference_in_column b.reference) (entry b 4) ≡ first_where (names_entry b) now
  unfolding named_first
  named_is = first_where_lem (names_entry b) now blank _ (length l) M.long at

  -- one more is marked
  marked_more : (p : ℕ) → p ≡ first_where (names_entry b) now → p < length l → p < length marks → Marked l (cancel_named b now) (set marks p 1)
  marked_more p first h room = record {
    long = length_cancelled b now ∙ M.long;
    each = λ q k. ap (λ (x : List Entry). entry_of x q) (cancel_first b now p (sym first) (omega (arith, M.long))) ∙ go q k (ℕ_discrete q p);
  }
    where
      was : (t : Bool) → in_state (cond t (entry_of l p) (in_state (entry_of l p) 3)) 3 ≡ in_state (entry_of l p) 3
      was true = refl
      was false = refl

      go : (q : ℕ) → q < length l → Dec (q ≡ p) → entry_of (set now p (in_state (entry_of now p) 3)) q ≡ cond (eqb (get_or (set marks p 1) q 0) 0) (entry_of l q) (in_state (entry_of l q) 3)
      go q k (yes e) =
          subst (λ (q : ℕ). entry_of (set now p (in_state (entry_of now p) 3)) q ≡ cond (eqb (get_or (set marks p 1) q 0) 0) (entry_of l q) (in_state (entry_of l q) 3)) (sym e)
          (get_or-set_same now p (in_state (entry_of now p) 3) blank (omega (arith, M.long))
          ∙ ap (λ (x : Entry). in_state x 3) (M.each p h) ∙ was (eqb (get_or marks p 0) 0)
          ∙ sym (ap (λ (m : ℕ). cond (eqb m 0) (entry_of l p) (in_state (entry_of l p) 3)) (get_or-set_same marks p 1 0 room)))
      go q k (no e) =
          get_or-set_other now p q (in_state (entry_of now p) 3) blank e ∙ M.each q k
          ∙ sym (ap (λ (m : ℕ). cond (eqb m 0) (entry_of l q) (in_state (entry_of l q) 3)) (get_or-set_other marks p q 1 0 e))

-- ---- the loop
abbrev pub unnamed_in : List Entry → Bill → Bool
unnamed_in l c = is_unnamed (named_entry c l)

pub record Naming (l : List Entry) (bills : List Bill) (k : ℕ) (marks named : List ℕ) : Type 0 where
  pub marked : Marked l (cancelled_by l (take k bills)) marks
  pub places : (j : ℕ) → j < k → (bill_at bills j).cancel ≡ true → (get_or named j 0 ≡ named_place l bills j) × (get_or named j 0 < length l)
  pub resumed : Resumed unnamed_in l bills k

pub naming_none : (l : List Entry) (bills : List Bill) (marks named : List ℕ) → ((p : ℕ) → get_or marks p 0 ≡ 0) → Naming l bills 0 marks named
naming_none l bills marks named z = record {
  marked = record { long = refl; each = λ p h. sym (ap (λ (m : ℕ). cond (eqb m 0) (entry_of l p) (in_state (entry_of l p) 3)) (z p)) };
  places = λ j h. absurd (omega arith);
  resumed = resumed_none unnamed_in l bills;
}

module _ {l : List Entry} {bills : List Bill} {k : ℕ} {marks named : List ℕ} (G : Naming l bills k marks named) {sources : List SourceBill} (S : Source bills sources)
    (F : References bills sources) (h : k < length bills) where
  abbrev b : Bill
  b = bill_at bills k

  abbrev e : Entry
  e = (source_at sources k).entry

  abbrev before : List Entry
  before = cancelled_by l (take k bills)

  abbrev place : ℕ
  place = named_first l marks (source_at sources k).reference e

  flag : is_cancel e ≡ b.cancel
  flag = source_cancel b e (S.each k h)

  first : b.cancel ≡ true → place ≡ first_where (names_entry b) before
  first q = (λ t. named_first l marks (F.each k h t) (source_as b e true (S.each k h) q t)) ∙ named_is l before marks G.marked b

  module _ {marks' named' : List ℕ} {r : Bool} (T : Tried (source_at sources k).entry (named_first l marks (source_at sources k).reference (source_at sources k).entry) (length l) k marks named marks' named' r) where
    -- what a turn answers, of a cancel and of an original
    answer : (t : Bool) → b.cancel ≡ t → r ≡ (not t || ltb place (length l))
    answer t q = T.answers ∙ ap (λ (t : Bool). not t || ltb place (length l)) (flag ∙ q)

    pub naming_fail : r ≡ false → first_cancel unnamed_in l bills ≡ k
    naming_fail z = go b.cancel refl
      where
        go : (t : Bool) → b.cancel ≡ t → first_cancel unnamed_in l bills ≡ k
        go true q =
            let far = ltb-false place (length l) (sym (answer true q) ∙ z) in
            let nothing = named_none b before (omega (arith, far, first q, G.marked.long)) in
            resumed_here unnamed_in l bills k h G.resumed (λ t. q t && is_unnamed (nothing t))
        go false q = absurd (true≢false (sym (answer false q) ∙ z))

    -- what is left where it names an entry, and where it doesn't
    left : (t : Bool) → names e place (length l) ≡ t → Naming l bills (k + 1) (cond t (set marks place 1) marks) (cond t (set named k place) named) → Naming l bills (k + 1) marks' named'
    left t q g =
        subst (λ (x : List ℕ). Naming l bills (k + 1) x named') (sym (T.marks_left ∙ ap (λ (t : Bool). cond t (set marks place 1) marks) q))
        (subst (λ (x : List ℕ). Naming l bills (k + 1) (cond t (set marks place 1) marks) x) (sym (T.named_left ∙ ap (λ (t : Bool). cond t (set named k place) named) q)) g)

    pub naming_step : r ≡ true → k < length named → length l ≤ length marks → Naming l bills (k + 1) marks' named'
    naming_step z room enough = go b.cancel refl
      where
        go : (t : Bool) → b.cancel ≡ t → Naming l bills (k + 1) marks' named'
        go false q =
            left false (ap (λ (t : Bool). t && ltb place (length l)) (flag ∙ q))
            (record {
              marked = subst (λ (x : List Entry). Marked l x marks) (sym (cancelled_past l bills k h q)) G.marked;
              places = λ j low y. others j low y (dec_lt j k);
              resumed = resumed_more unnamed_in l bills k h G.resumed (ap (λ (t : Bool). t && unnamed_in before b) q);
            })
          where
            others : (j : ℕ) → j < k + 1 → (bill_at bills j).cancel ≡ true → Dec (j < k) → (get_or named j 0 ≡ named_place l bills j) × (get_or named j 0 < length l)
            others j low y (yes m) = G.places j m y
            others j low y (no m) = let s : j ≡ k = omega (arith, m) in absurd (true≢false (sym y ∙ ap (λ (i : ℕ). (bill_at bills i).cancel) s ∙ q))
        go true q =
            let near : ltb place (length l) ≡ true = sym (answer true q) ∙ z in
            let low = ltb-true place (length l) near in
            left true (λ t. (flag ∙ q) t && near t)
            (record {
              marked = subst (λ (x : List Entry). Marked l x (set marks place 1)) (sym (cancelled_here l bills k h q))
                  (marked_more l before marks G.marked b place (first q) low (omega arith));
              places = stored 0 (λ j m. (bill_at bills j).cancel ≡ true → (m ≡ named_place l bills j) × (m < length l)) named k place room G.places
                  (λ y. (first q, omega (arith, low)));
              resumed = resumed_more unnamed_in l bills k h G.resumed (λ t. q t && is_unnamed (named_some b before (omega (arith, first q, low, G.marked.long)) t));
            })

pub naming_all : {l : List Entry} {bills : List Bill} {k : ℕ} {marks named : List ℕ} → Naming l bills k marks named → length bills ≤ length named → length bills ≤ k → Named l bills named
naming_all G room end = record {
  room = room;
  place = λ j h y. (G.places j (omega (arith, end)) y).0;
  within = λ j h y. (G.places j (omega (arith, end)) y).1;
}
