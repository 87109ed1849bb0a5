-- A reply of Book, as a host reads it.
--     reads_back    a host reads a reply as the answer that it was made of
--     host_booked   so what Book meets by its answer, it meets by the reply
-- Assumes nothing.
use mathlib.Core.Path.{◌≡◌, refl, sym, ap, subst, ◌∙◌}
use mathlib.Core.Bool.{Bool, cond}
use mathlib.Core.List.{List}
use Prim.Native.Nat.{◌+◌}
use lib.ListN.{length}
use Rattle.lists.specs.Selections.{count}
use Rattle.lists.proofs.Selections.{cases}
use Rattle.entries.specs.declared.Entry.{Entry}
use Rattle.entries.specs.Entries.{is_held}
use Rattle.booking.specs.Answers.{Answer}
use Rattle.booking.specs.Booking.{Input, Result, book_refusal, is_booked, added_by, refused_result, accepted_result, result_of, book_result}
use Rattle.book.specs.InsideBook.{Meets}
use Rattle.lent_ledger.specs.declared.BookReply.{BookReply}
use Rattle.lent_ledger.specs.BookReplies.{book_reply, answer_of, HostBooked}

module _ (i : Input) where
  -- a refusal has a number
  pub reads_back : result_of (answer_of (book_reply (book_result i))) ≡ book_result i
  unfolding book_result
  reads_back =
      let result : Bool → Result = λ b. cond b (accepted_result (length (added_by i)) (count is_held (added_by i))) (refused_result (book_refusal i).number (book_refusal i).line) in
      cases (is_booked i)
      (λ e. subst (λ (r : Result). result_of (answer_of (book_reply r)) ≡ r) (sym (ap result e)) refl)
      (λ e. subst (λ (r : Result). result_of (answer_of (book_reply r)) ≡ r) (sym (ap result e)) (rw e refl))

  pub host_booked : (answer : Answer) (reply : BookReply) (run' : List Entry) → reply ≡ book_reply (result_of answer) → Meets i answer run' → HostBooked i reply run'
  host_booked answer reply run' e met =
      let replies : reply ≡ book_reply (book_result i) = e ∙ ap book_reply met.answers in
      record {
        replies = replies;
        books = record {
          answers = ap (λ (r : BookReply). result_of (answer_of r)) replies ∙ reads_back;
          leaves_run = met.leaves_run;
          leaves_used = ap (λ (r : BookReply). i.used + r.added) e ∙ met.leaves_used;
        };
      }
