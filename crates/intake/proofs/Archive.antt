-- Demand 3 of `intake_book`.
-- Assumes nothing.
use mathlib.Core.List.{List}
use Rattle.entries.specs.declared.Entry.{Entry}
use Rattle.booking.proofs.Archive.{calls_guaranteed}
use Rattle.lent_ledger.specs.declared.BookReply.{BookReply}
use Rattle.lent_ledger.specs.BookReplies.{answer_of}
use Rattle.intake.specs.Calls.{HostGuaranteed}

pub host_guarantee : HostGuaranteed
host_guarantee = calls_guaranteed (λ (run : List Entry). run) answer_of (λ (r : BookReply). r.added)
