-- Lists of calls of `intake_book`.
-- Assumes nothing.
use Rattle.std.specs.Prelude.{List}
use Rattle.entries.specs.declared.Entry.{Entry}
use Rattle.booking.specs.Calls.{BookGuaranteed}
use Rattle.lent_ledger.specs.declared.BookReply.{BookReply}
use Rattle.lent_ledger.specs.BookReplies.{answer_of}

-- demand 3 of this function: its contract has the relation `Books` (`HostBooked`, its field books), with the used count moved by what the reply says
abbrev pub HostGuaranteed : Type 0
HostGuaranteed = BookGuaranteed (λ (run : List Entry). run) answer_of (λ (r : BookReply). r.added)
