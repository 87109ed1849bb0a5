-- Demand 3 of `book`.
-- Assumes nothing.
use mathlib.Core.List.{List}
use Rattle.entries.specs.declared.Entry.{Entry}
use Rattle.booking.specs.Answers.{Answer}
use Rattle.booking.specs.Booking.{result_of}
use Rattle.booking.proofs.Archive.{calls_guaranteed}
use Rattle.book.specs.InsideCalls.{RunGuaranteed}

pub book_guarantee : RunGuaranteed
book_guarantee = calls_guaranteed (λ (run : List Entry). run) (λ (a : Answer). a) (λ (a : Answer). (result_of a).added)
