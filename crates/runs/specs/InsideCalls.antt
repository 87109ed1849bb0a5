-- Lists of calls of Book on a ledger in words.
-- Assumes nothing.
use Rattle.std.specs.Prelude.{List, ℕ, ℤ}
use Rattle.entries.specs.declared.Entry.{Entry}
use Rattle.runs.specs.InsideWords.{entries_of}
use Rattle.booking.specs.Answers.{Answer}
use Rattle.booking.specs.Booking.{result_of}
use Rattle.booking.specs.Calls.{BookGuaranteed}

-- the words that it was lent of a run, and the run that they are
abbrev pub RunInWords : Type 0
RunInWords = List ℕ × List ℤ

abbrev pub run_in : ℕ → RunInWords → List Entry
run_in places lent = entries_of lent.0 lent.1 places

-- demand 3 of such calls, over a run of so many places: each is the relation `Books`, with the used count moved by what the answer says
abbrev pub WordsGuaranteed : Type 0
WordsGuaranteed = (places : ℕ) → BookGuaranteed (run_in places) (λ (a : Answer). a) (λ (a : Answer). (result_of a).added)
