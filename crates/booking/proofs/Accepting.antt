-- Which calls Book accepts: those that none of the refusals applies to.
--     book_order            the numbers of Book's refusals, in document 01's order
--     accepted_unrefused    the accepted calls; proofs/Acceptance says the same in plain terms
-- Assumes nothing.
use mathlib.Core.Path.{◌≡◌, refl, sym, ap, subst}
use mathlib.Core.Logic.Iff
use mathlib.Core.Logic.{◌↔◌}
use mathlib.Core.Bool.{Bool, true, false, not, ◌&&◌, cond, true≢false}
use mathlib.Core.List.{List, [], ◌∷◌, ◌++◌}
use Prim.Native.Nat.{ℕ, suc, ◌+◌, ◌≤◌}
use native.Mathlib.Omega.{arith}
use borrow.Author.Tests.{eqb-true, eq-eqb, ltb-false, le-ltb, not-false}
use lib.Dec.{T, eqb, ltb}
use lib.ListN.{length}
use Rattle.lists.specs.InsideSelections.{all}
use Rattle.records.specs.Text.{lines_of}
use Rattle.refusals.specs.declared.Outcome.{Outcome}
use Rattle.refusals.specs.Refusals.{Refusal}
use Rattle.refusals.specs.InsideNumbers.{numbers_of}
use Rattle.refusals.specs.Check.{format_refusals, order_refusals, identity_refusals, header_refusals, period_refusals, site_refusals, period_total_refusals, trailer_refusals, child_refusals, total_refusals, tests_to12, tests_from14, settings_fit, is_too_large}
use Rattle.refusals.proofs.Outcomes.{tests_parts}
use Rattle.refusals.proofs.Refusals.{NoneOf, none_passes, passes_none, append_none, none_append, applies_at, applies_at_lem, AllOf, Unlike, numbers_unlike}
use Rattle.bill_files.specs.Passing.{Passing}
use Rattle.bill_files.specs.Accepted.{Bill, BillFile}
use Rattle.bill_files.proofs.Passing.{tests_none}
use Rattle.entries.specs.declared.Entry.{Entry}
use Rattle.soundness.specs.Sound.{is_sound}
use Rattle.booking.specs.Booking.{first_cancel, cancel_named, has_file, first_unnamed, first_unopposed, has_stored, ledger_refusals, Input, file_of, ledger_of, opening_refusals, book_refusals, book_refusal, is_booked}

-- ════ the order

-- "Book. 104, 105 (ledger not sound), 103, 2 to 38, 8, 39, 40, 102, 101."
pub book_order : (i : Input) → numbers_of (book_refusals i)
    ≡ 104 ∷ 105 ∷ 103 ∷ 2 ∷ 2 ∷ 3 ∷ 4 ∷ 5 ∷ 6 ∷ 7 ∷ 9 ∷ 10 ∷ 11 ∷ 12 ∷ 14 ∷ 17 ∷ 18 ∷ 29 ∷ 30 ∷ 31 ∷ 32 ∷ 33 ∷ 34 ∷ 38 ∷ 8 ∷ 39 ∷ 40 ∷ 102 ∷ 101 ∷ []
unfolding book_refusals opening_refusals ledger_refusals tests_to12 tests_from14 format_refusals order_refusals identity_refusals header_refusals period_refusals total_refusals site_refusals period_total_refusals trailer_refusals child_refusals
book_order i = refl

-- ════ tests that read the ledger

-- a search that reaches the end finds nothing here, and nothing further on
pub search_on : (t : Bool) (m n : ℕ) → (cond t 0 (suc m) ≡ suc n) ↔ ((t ≡ false) × (m ≡ n))
search_on true m n = (λ h. absurd (omega arith), λ h. absurd (true≢false h.0))
search_on false m n = (λ h. (refl, omega arith), λ h. ap suc h.1)

pub first_cancel_most : (fails : List Entry → Bill → Bool) (l : List Entry) (bs : List Bill) → first_cancel fails l bs ≤ length bs
first_cancel_most fails l [] = omega arith
first_cancel_most fails l (b ∷ bs) = go (b.cancel && fails l b) (first_cancel_most fails (cond b.cancel (cancel_named b l) l) bs)
  where
    go : {n : ℕ} (t : Bool) → n ≤ length bs → cond t 0 (suc n) ≤ suc (length bs)
    go true h = omega arith
    go false h = omega arith

-- test 39 answers a record of the file, or their number
pub unnamed_most : (l : List Entry) (file : BillFile) → first_unnamed l file ≤ length file.bills
unfolding first_unnamed
unnamed_most l file = first_cancel_most _ l file.bills

-- what the searches of these tests answer
pub record LedgerPasses (places : ℕ) (l : List Entry) (file : BillFile) : Type 0 where
  -- 8
  pub new_file : has_file l file ≡ false
  -- 39
  pub named : first_unnamed l file ≡ length file.bills
  -- 40
  pub opposed : first_unopposed l file ≡ length file.bills
  -- 102
  pub unstored : has_stored l file ≡ false
  -- 101
  pub room : length l + 1 + length file.bills ≤ places

module _ (places : ℕ) (l : List Entry) (file : BillFile) where
  place_none : (place : ℕ) → place ≤ length file.bills → (ltb place (length file.bills) ≡ false) ↔ (place ≡ length file.bills)
  place_none place most = (λ e. omega (arith, ltb-false place (length file.bills) e), λ e. le-ltb place (length file.bills) (omega arith))

  unopposed_most : first_unopposed l file ≤ length file.bills
  unfolding first_unopposed
  unopposed_most = first_cancel_most _ l file.bills

  ledger_passes : NoneOf (ledger_refusals places l file) ↔ LedgerPasses places l file
  unfolding ledger_refusals
  ledger_passes = (from, to)
    where
      from : NoneOf (ledger_refusals places l file) → LedgerPasses places l file
      from h =
          let at : (n : ℕ) → applies_at n (ledger_refusals places l file) ≡ false = λ n. applies_at_lem n (ledger_refusals places l file) h in
          record {
            new_file = at 8;
            named = (place_none (first_unnamed l file) (unnamed_most l file)).0 (at 39);
            opposed = (place_none (first_unopposed l file) unopposed_most).0 (at 40);
            unstored = at 102;
            room = ltb-false places (length l + 1 + length file.bills) (at 101);
          }

      to : LedgerPasses places l file → NoneOf (ledger_refusals places l file)
      to p =
          let named = (place_none (first_unnamed l file) (unnamed_most l file)).1 p.named in
          let opposed = (place_none (first_unopposed l file) unopposed_most).1 p.opposed in
          let room = le-ltb places (length l + 1 + length file.bills) p.room in
          (p.new_file, (named, (opposed, (p.unstored, (room, tt)))))

-- ════ Book

-- what the refusals ask, 39 and 40 as searches
pub record Unrefused (i : Input) : Type 0 where
  -- 104
  pub settings : settings_fit i.settings.retailer i.settings.distributors ≡ true
  -- 105
  pub sound : is_sound i.run i.used ≡ true
  -- 103
  pub small : is_too_large i.file ≡ false
  -- 2 to 38
  pub passing : Passing i.settings.retailer i.settings.distributors (lines_of i.file)
  -- 8, 39, 40, 102, 101
  pub ledger : LedgerPasses (length i.run) (ledger_of i) (file_of i)

module _ (i : Input) where
  abbrev lines : List (List ℕ)
  lines = lines_of i.file

  abbrev to_twelve : List Refusal
  to_twelve = tests_to12 i.settings.retailer i.settings.distributors lines

  abbrev from_fourteen : List Refusal
  from_fourteen = tests_from14 lines

  abbrev ledger : List Refusal
  ledger = ledger_refusals (length i.run) (ledger_of i) (file_of i)

  abbrev Passes : Type 0
  Passes = Passing i.settings.retailer i.settings.distributors lines

  numbered : AllOf (Unlike 0) (book_refusals i)
  numbered = numbers_unlike 0 (book_refusals i) (subst (λ (ns : List ℕ). T (all (λ m. not (eqb m 0)) ns)) (sym (book_order i)) tt)

  accepted_none : (is_booked i ≡ true) ↔ NoneOf (book_refusals i)
  unfolding book_refusal
  accepted_none = (
    λ e. passes_none (book_refusals i) numbered (eqb-true (book_refusal i).number 0 e),
    λ h. eq-eqb (book_refusal i).number 0 (ap (λ (o : Outcome). o.number) (none_passes (book_refusals i) h)),
  )

  tests_pass : NoneOf (to_twelve ++ from_fourteen) ↔ Passes
  tests_pass =
      subst (λ (rs : List Refusal). NoneOf rs ↔ Passes) (tests_parts i.settings.retailer i.settings.distributors lines)
      (tests_none i.settings.retailer i.settings.distributors lines)

  -- the parts of the list
  parts : NoneOf (book_refusals i) ↔ (NoneOf (opening_refusals i) × Passes × NoneOf ledger)
  unfolding book_refusals
  parts = (
    λ h.
        let a = none_append (opening_refusals i) _ h in
        let b = none_append to_twelve _ a.1 in
        let c = none_append from_fourteen _ b.1 in
        (a.0, tests_pass.0 (append_none to_twelve from_fourteen b.0 c.0), c.1),
    λ (a, p, c).
        let t = none_append to_twelve from_fourteen (tests_pass.1 p) in
        append_none (opening_refusals i) _ a (append_none to_twelve _ t.0 (append_none from_fourteen _ t.1 c)),
  )

  pub accepted_unrefused : (is_booked i ≡ true) ↔ Unrefused i
  unfolding opening_refusals
  accepted_unrefused = Iff.trans accepted_none (Iff.trans parts (from, to))
    where
      from : NoneOf (opening_refusals i) × Passes × NoneOf ledger → Unrefused i
      from (a, p, c) =
          let at : (n : ℕ) → applies_at n (opening_refusals i) ≡ false = λ n. applies_at_lem n (opening_refusals i) a in
          record {
            settings = not-false (settings_fit i.settings.retailer i.settings.distributors) (at 104);
            sound = not-false (is_sound i.run i.used) (at 105);
            small = at 103;
            passing = p;
            ledger = (ledger_passes (length i.run) (ledger_of i) (file_of i)).0 c;
          }

      to : Unrefused i → NoneOf (opening_refusals i) × Passes × NoneOf ledger
      to u = (
        (ap not u.settings, (ap not u.sound, (u.small, tt))),
        u.passing,
        (ledger_passes (length i.run) (ledger_of i) (file_of i)).1 u.ledger,
      )
