-- A loop over the records of a file that looks for the first cancel that fails a test, in the ledger as the cancels before it leave it.
--     Resumed                  the loop's invariant: the answer is the place passed to and what the search answers from there on
--     resumed_none, resumed_more, resumed_here, resumed_end    it holds at the start; one record more; the answer is here; the answer is the end
-- Assumes nothing.
use mathlib.Core.Path.{◌≡◌, sym, ap, ◌∙◌, refl}
use mathlib.Core.Bool.{Bool, true, false, ◌&&◌, cond}
use mathlib.Core.List.{List}
use Prim.Native.Nat.{ℕ, suc, ◌+◌, ◌≤◌, ◌<◌}
use native.Mathlib.Nat.{add-zero, add-suc, suc-add, zero-add}
use native.Mathlib.Numerals.{add-one}
use lib.ListN.{length, take, drop, drop_of_length-le}
use lib.Seq.{drop-cons}
use Rattle.bill_files.specs.Accepted.{Bill}
use Rattle.entries.specs.declared.Entry.{Entry}
use Rattle.booking.specs.Booking.{cancel_named, first_cancel}
use Rattle.booking.specs.Acceptable.{no_bill, bill_at}
use Rattle.used_entries.specs.InsideNamed.{cancelled_by}
use Rattle.used_entries.proofs.Cancelled.{cancelled_here, cancelled_past}

module _ (fails : List Entry → Bill → Bool) (l : List Entry) (bills : List Bill) where
  abbrev now : ℕ → List Entry
  now k = cancelled_by l (take k bills)

  abbrev pub Resumed : ℕ → Type 0
  Resumed k = first_cancel fails l bills ≡ k + first_cancel fails (cancelled_by l (take k bills)) (drop k bills)

  pub resumed_none : Resumed 0
  resumed_none = sym (zero-add (first_cancel fails l bills))

  module _ (k : ℕ) (h : k < length bills) (r : Resumed k) where
    abbrev after : Bool → ℕ
    after t = k + cond t 0 (suc (first_cancel fails (cond (bill_at bills k).cancel (cancel_named (bill_at bills k) (now k)) (now k)) (drop (suc k) bills)))

    here : first_cancel fails l bills ≡ after ((bill_at bills k).cancel && fails (now k) (bill_at bills k))
    here = r ∙ ap (λ (bs : List Bill). k + first_cancel fails (now k) bs) (drop-cons bills k no_bill h)

    pub resumed_here : ((bill_at bills k).cancel && fails (cancelled_by l (take k bills)) (bill_at bills k)) ≡ true → first_cancel fails l bills ≡ k
    resumed_here e = here ∙ ap after e ∙ add-zero k

    next : now (k + 1) ≡ cond (bill_at bills k).cancel (cancel_named (bill_at bills k) (now k)) (now k)
    next = go (bill_at bills k).cancel refl
      where
        go : (t : Bool) → (bill_at bills k).cancel ≡ t → now (k + 1) ≡ cond t (cancel_named (bill_at bills k) (now k)) (now k)
        go true e = cancelled_here l bills k h e
        go false e = cancelled_past l bills k h e

    pub resumed_more : ((bill_at bills k).cancel && fails (cancelled_by l (take k bills)) (bill_at bills k)) ≡ false → Resumed (k + 1)
    resumed_more e =
        here ∙ ap after e ∙ add-suc k _ ∙ sym (suc-add k _)
        ∙ (λ t. sym (add-one k) t + first_cancel fails (sym next t) (drop (sym (add-one k) t) bills))

  pub resumed_end : (k : ℕ) → length bills ≤ k → Resumed k → first_cancel fails l bills ≡ k
  resumed_end k h r = r ∙ ap (λ (bs : List Bill). k + first_cancel fails (now k) bs) (drop_of_length-le bills {i = k} h) ∙ add-zero k
