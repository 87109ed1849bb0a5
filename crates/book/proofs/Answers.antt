-- Answers that meet Book's record.
--     refuses     the refusal, and nothing is written
--     accepts     how many entries were added and held, and the run that has them
-- Assumes nothing.
use mathlib.Core.Path.{◌≡◌, sym, ap, ◌∙◌}
use mathlib.Core.Bool.{Bool, true, false, cond}
use Rattle.std.specs.Prelude.{Err}
use mathlib.Core.List.{List, ◌++◌}
use Prim.Native.Nat.{ℕ, ◌+◌, ◌≤◌}
use native.Mathlib.Omega.{arith}
use borrow.Author.Tests.{eq-eqb, ne_eqb}
use lib.Dec.{eqb}
use lib.ListN.{length, drop, take-append-drop}
use lib.Seq.{length-take-le}
use Rattle.lists.specs.Selections.{count}
use Rattle.refusals.specs.declared.Outcome.{Outcome}
use Rattle.entries.specs.declared.Entry.{Entry}
use Rattle.entries.specs.Entries.{is_held}
use Rattle.booking.specs.Answers.{Answer}
use Rattle.booking.specs.Booking.{Input, Result, file_of, ledger_of, book_refusal, is_booked, ledger_after, added_by, refused_result, accepted_result, result_of, book_result}
use Rattle.booking.proofs.Added.{length_booked, added_count}
use Rattle.booking.proofs.Steps.{refused_leaves, used_accepted, run_accepted}
use Rattle.accepted_entries.specs.InsideAccepted.{Leaves}
use Rattle.book.specs.InsideBook.{Meets}

module _ (i : Input) where
  pub refuses : {r : Outcome} → book_refusal i ≡ r → (r.number ≡ 0 → ⊥) → Meets i (Err r) i.run
  unfolding book_result
  refuses {r} e z =
      let no : is_booked i ≡ false = ap (λ (o : Outcome). eqb o.number 0) e ∙ ne_eqb r.number 0 z in
      record {
        answers =
            ap (λ (o : Outcome). refused_result o.number o.line) (sym e)
            ∙ sym (ap (λ (t : Bool). cond t (accepted_result (length (added_by i)) (count is_held (added_by i))) (refused_result (book_refusal i).number (book_refusal i).line)) no);
        leaves_run = sym (refused_leaves i no).0;
        leaves_used = omega arith ∙ sym (refused_leaves i no).1;
      }

  pub accepts : (n r held : ℕ) (answer : Answer) (run' : List Entry) → result_of answer ≡ accepted_result (1 + n) held → (book_refusal i).number ≡ 0 → i.used ≤ length i.run → n ≡ length (file_of i).bills → r ≡ i.used + 1 + n
      → Leaves i.run run' r (ledger_after i) → held ≡ count is_held (drop i.used (ledger_after i)) → Meets i answer run'
  unfolding book_result
  accepts n r held answer run' says e fits n-is r-is left holds =
      let yes_booked : is_booked i ≡ true = eq-eqb (book_refusal i).number 0 e in
      let short : length (ledger_of i) ≡ i.used = length-take-le i.used i.run fits in
      let long : length (ledger_after i) ≡ r = length_booked (ledger_of i) (file_of i) ∙ omega (arith, short, n-is, r-is) in
      let many : 1 + n ≡ length (added_by i) = omega (arith, n-is, added_count (ledger_of i) (file_of i)) in
      let few : held ≡ count is_held (added_by i) = holds ∙ ap (λ (m : ℕ). count is_held (drop m (ledger_after i))) (sym short) in
      record {
        answers =
            says
            ∙ (λ t. accepted_result (many t) (few t))
            ∙ sym (ap (λ (t : Bool). cond t (accepted_result (length (added_by i)) (count is_held (added_by i))) (refused_result (book_refusal i).number (book_refusal i).line)) yes_booked);
        leaves_run =
            sym (take-append-drop r run')
            ∙ (λ t. left.entries t ++ left.past t)
            ∙ ap (λ (m : ℕ). ledger_after i ++ drop m i.run) (sym long)
            ∙ sym (run_accepted i yes_booked);
        leaves_used = omega (arith, r-is, ap (λ (r : Result). r.added) says) ∙ sym long ∙ sym (used_accepted i yes_booked);
      }
