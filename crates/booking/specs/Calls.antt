-- Lists of calls of a function that books: "Each call has a file and settings of its own, and is lent the run and the count that the call before it left.
-- Nobody else writes them meanwhile."
-- Assumes nothing.
use Rattle.std.specs.Prelude.{◌≡◌, List, [], ◌∷◌, map, ℕ, ◌+◌, take}
use Rattle.lists.specs.Selections.{filter}
use Rattle.records.specs.Text.{lines_of}
use Rattle.bill_files.specs.Accepted.{BillFile, bill_file}
use Rattle.entries.specs.declared.Entry.{Entry}
use Rattle.booking.specs.Answers.{Answer}
use Rattle.booking.specs.Booking.{input_of, Booked}
use Rattle.booking.specs.Guarantee.{is_accepted, Guarantee}

-- what a call is given, and what it replies
pub record BookCall (Reply : Type 0) : Type 0 where
  pub retailer : ℕ
  pub distributors : List ℕ
  pub file : List ℕ
  pub reply : Reply

-- of a function that is lent the run as a Lent and answers with a Reply: which run that is, how a caller reads the reply, and how many entries it then says
-- were added
module _ {Lent Reply : Type 0} (run_of : Lent → List Entry) (answer : Reply → Answer) (added : Reply → ℕ) where
  -- one call: what it meets, and the caller moves the used count by the entries added
  abbrev pub Books : Lent → ℕ → BookCall Reply → Lent → Type 0
  Books lent used c left = Booked (input_of c.retailer c.distributors c.file (run_of lent) used) (answer c.reply) (run_of left) (used + added c.reply)

  abbrev pub BookCalls : Lent → ℕ → List (BookCall Reply) → Lent → ℕ → Type 0
  BookCalls lent used [] left used' = (lent ≡ left) × (used ≡ used')
  BookCalls lent used (c ∷ cs) left used' = (next : Lent) × Books lent used c next × BookCalls next (used + added c.reply) cs left used'

  -- the accepted files, from the answers
  abbrev pub files_accepted : List (BookCall Reply) → List BillFile
  files_accepted calls = map (λ c. bill_file (lines_of c.file)) (filter (λ c. is_accepted (answer c.reply)) calls)

  -- demand 3 of this function: "Before it the used count is 0, over a run of any length and content."
  abbrev pub BookGuaranteed : Type 0
  BookGuaranteed = (lent left : Lent) (used' : ℕ) (calls : List (BookCall Reply)) → BookCalls lent 0 calls left used' → Guarantee (files_accepted calls) (take used' (run_of left))
