-- Demand 3 of calls of Book on a ledger in words.
-- Assumes nothing.
use Rattle.booking.specs.Answers.{Answer}
use Rattle.booking.specs.Booking.{result_of}
use Rattle.booking.proofs.Archive.{calls_guaranteed}
use Rattle.runs.specs.InsideCalls.{run_in, WordsGuaranteed}

pub book_guarantee : WordsGuaranteed
book_guarantee places = calls_guaranteed (run_in places) (λ (a : Answer). a) (λ (a : Answer). (result_of a).added)
