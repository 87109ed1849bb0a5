-- One call of Book: whether its answer accepts, and the run and the used count that it leaves.
-- Assumes nothing.
use mathlib.Core.Path.{◌≡◌, refl, sym, ap, ◌∙◌}
use mathlib.Core.Bool.{Bool, true, false, cond}
use mathlib.Core.List.{◌++◌}
use Prim.Native.Nat.{ℕ}
use native.Mathlib.Omega.{arith}
use borrow.Author.Tests.{eqb-false}
use lib.Dec.{eqb}
use lib.ListN.{length, take, drop, length-append, length-drop}
use lib.Seq.{take-append_seam, drop-append_seam}
use Rattle.lists.specs.Selections.{count}
use Rattle.lists.proofs.Selections.{cases}
use Rattle.entries.specs.Entries.{is_held}
use Rattle.booking.specs.Answers.{Answer}
use Rattle.std.specs.Prelude.{Ok, Err}
use Rattle.booking.specs.Booking.{Input, file_of, ledger_of, book_refusal, is_booked, ledger_after, added_by, Result, refused_result, accepted_result, result_of, book_result, used_after, run_after}
use Rattle.booking.specs.InsidePasses.{Passes}
use Rattle.booking.specs.Guarantee.{is_accepted}
use Rattle.booking.proofs.Added.{length_booked, added_count}

-- ════ what a call answers and leaves

when_true : {A : Type 0} (x : Bool) (a b : A) → x ≡ true → cond x a b ≡ a
when_true x a b e = ap (λ (y : Bool). cond y a b) e

when_false : {A : Type 0} (x : Bool) (a b : A) → x ≡ false → cond x a b ≡ b
when_false x a b e = ap (λ (y : Bool). cond y a b) e

module _ (i : Input) where
  -- ---- its answer

  -- it accepts just where nothing is refused
  pub answer_accepted : (answer : Answer) → result_of answer ≡ book_result i → is_accepted answer ≡ is_booked i
  unfolding book_result
  answer_accepted answer e = ap (λ (r : Result). eqb r.number 0) e ∙ go (is_booked i) _ _ refl
    where
      go : (x : Bool) (added held : ℕ) → is_booked i ≡ x → eqb (cond x (accepted_result added held) (refused_result (book_refusal i).number (book_refusal i).line)).number 0 ≡ x
      go true added held e = refl
      go false added held e = e

  -- the result leaves no choice of the answer: a refusal's number isn't 0, and an accepted file adds an entry at least
  pub answer_when_booked : (answer : Answer) → result_of answer ≡ book_result i → is_booked i ≡ true → answer ≡ Ok (record { added = length (added_by i); held = count is_held (added_by i) })
  unfolding book_result
  answer_when_booked answer e b = go answer (e ∙ when_true (is_booked i) (accepted_result (length (added_by i)) (count is_held (added_by i))) _ b)
    where
      go : (answer : Answer) → result_of answer ≡ accepted_result (length (added_by i)) (count is_held (added_by i)) → answer ≡ Ok (record { added = length (added_by i); held = count is_held (added_by i) })
      go (Ok accepted) e = λ t. Ok (record { added = (e t).added; held = (e t).held })
      go (Err refusal) e = absurd (omega (arith, ap (λ (r : Result). r.added) e, added_count (ledger_of i) (file_of i)))

  pub answer_when_refused : (answer : Answer) → result_of answer ≡ book_result i → is_booked i ≡ false → answer ≡ Err (book_refusal i)
  unfolding book_result
  answer_when_refused answer e b = go answer (e ∙ when_false (is_booked i) _ (refused_result (book_refusal i).number (book_refusal i).line) b)
    where
      go : (answer : Answer) → result_of answer ≡ refused_result (book_refusal i).number (book_refusal i).line → answer ≡ Err (book_refusal i)
      go (Ok accepted) e = absurd (eqb-false (book_refusal i).number 0 b (sym (ap (λ (r : Result). r.number) e)))
      go (Err refusal) e = λ t. Err (record { number = (e t).number; line = (e t).line })

  -- ---- the run and the used count

  pub refused_leaves : is_booked i ≡ false → (run_after i ≡ i.run) × (used_after i ≡ i.used)
  unfolding used_after run_after
  refused_leaves e = (when_false (is_booked i) _ i.run e, when_false (is_booked i) _ i.used e)

  pub used_accepted : is_booked i ≡ true → used_after i ≡ length (ledger_after i)
  unfolding used_after
  used_accepted e = when_true (is_booked i) (length (ledger_after i)) _ e

  pub run_accepted : is_booked i ≡ true → run_after i ≡ ledger_after i ++ drop (length (ledger_after i)) i.run
  unfolding run_after
  run_accepted e = when_true (is_booked i) (ledger_after i ++ drop (length (ledger_after i)) i.run) _ e

  pub used_entries_after : is_booked i ≡ true → take (used_after i) (run_after i) ≡ ledger_after i
  used_entries_after e = (λ t. take (used_accepted e t) (run_accepted e t)) ∙ take-append_seam (ledger_after i) (drop (length (ledger_after i)) i.run)

  -- "places past the new used count keep their content"
  pub past_used : drop (used_after i) (run_after i) ≡ drop (used_after i) i.run
  past_used = cases (is_booked i)
      (λ e.
      (λ t. drop (used_accepted e t) (run_accepted e t)) ∙ drop-append_seam (ledger_after i) (drop (length (ledger_after i)) i.run)
      ∙ ap (λ (n : ℕ). drop n i.run) (sym (used_accepted e)))
      (λ e. ap (drop (used_after i)) (refused_leaves e).0)

  -- the run's length never changes: an accepted file has room
  pub length_run_after : (is_booked i ≡ true → Passes (length i.run) (ledger_of i) (file_of i)) → length (run_after i) ≡ length i.run
  length_run_after passes = cases (is_booked i)
      (λ e.
      let room = (passes e).room in
      let after = length_booked (ledger_of i) (file_of i) in
      let rest = length-drop (length (ledger_after i)) i.run in
      ap length (run_accepted e) ∙ length-append (ledger_after i) (drop (length (ledger_after i)) i.run) ∙ omega arith)
      (λ e. ap length (refused_leaves e).0)
