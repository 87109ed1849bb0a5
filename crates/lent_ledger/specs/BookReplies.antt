-- The answer of Book as a host has it, and what a call of Book on a lent run meets.
-- Assumes nothing.
use Rattle.std.specs.Prelude.{◌≡◌, cond, List, ◌+◌, eqb, Ok, Err}
use Rattle.entries.specs.declared.Entry.{Entry}
use Rattle.booking.specs.Answers.{Answer}
use Rattle.booking.specs.Booking.{Input, Result, book_result, Booked}
use Rattle.lent_ledger.specs.declared.BookReply.{BookReply}

-- it says document 01's number and values, and nothing else
abbrev pub book_reply : Result → BookReply
book_reply r = record { number = r.number; line = r.line; added = r.added; held = r.held }

-- a host reads it so: number 0 is an acceptance
abbrev pub answer_of : BookReply → Answer
answer_of r = cond (eqb r.number 0) (Ok (record { added = r.added; held = r.held })) (Err (record { number = r.number; line = r.line }))

-- the reply by equation; and, as a host reads it, the record of Book, with the used count moved by the entries added
pub record HostBooked (i : Input) (reply : BookReply) (run' : List Entry) : Type 0 where
  pub replies : reply ≡ book_reply (book_result i)
  pub books : Booked i (answer_of reply) run' (i.used + reply.added)
