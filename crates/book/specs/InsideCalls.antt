-- Lists of calls of `book`.
-- Assumes nothing.
use Rattle.std.specs.Prelude.{List}
use Rattle.entries.specs.declared.Entry.{Entry}
use Rattle.booking.specs.Answers.{Answer}
use Rattle.booking.specs.Booking.{result_of}
use Rattle.booking.specs.Calls.{BookGuaranteed}

-- demand 3 of this function: its contract is the relation `Books`, with the used count moved by what the answer says
abbrev pub RunGuaranteed : Type 0
RunGuaranteed = BookGuaranteed (λ (run : List Entry). run) (λ (a : Answer). a) (λ (a : Answer). (result_of a).added)
