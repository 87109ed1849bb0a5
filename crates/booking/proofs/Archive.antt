-- Demand 3 of a function that books: whatever calls of it a list has, chained as document 01 says, the guarantee holds of what they leave.
-- Assumes nothing.
use mathlib.Core.Path.{◌≡◌, refl, ap, subst}
use mathlib.Core.Bool.{Bool, true, false, cond}
use mathlib.Core.List.{List, [], ◌∷◌, map}
use Prim.Native.Nat.{ℕ, ◌+◌}
use lib.ListN.{take}
use Rattle.lists.specs.Selections.{filter}
use Rattle.records.specs.Text.{lines_of}
use Rattle.bill_files.specs.Accepted.{BillFile, bill_file}
use Rattle.entries.specs.declared.Entry.{Entry}
use Rattle.booking.specs.Answers.{Answer}
use Rattle.booking.specs.Booking.{input_of, file_of}
use Rattle.booking.specs.Calls.{BookCall, BookCalls, files_accepted, BookGuaranteed}
use Rattle.booking.specs.Guarantee.{Call, Calls, is_accepted, accepted_files, Guarantee}
use Rattle.booking.proofs.Guarantee.{guarantee}

module _ {Lent Reply : Type 0} (run_of : Lent → List Entry) (answer : Reply → Answer) (added : Reply → ℕ) where
  -- the same list as calls of booking's definition, each with the run that it is lent
  record AsCalls (lent : Lent) (used : ℕ) (calls : List (BookCall Reply)) (left : Lent) (used' : ℕ) : Type 0 where
    list : List Call
    chained : Calls (run_of lent) used list (run_of left) used'
    files : accepted_files list ≡ files_accepted run_of answer added calls

  -- one call more in front: it has the same file
  one_more : (accepted : Bool) (c : Call) (b : BookCall Reply) (cs : List Call) (bs : List (BookCall Reply)) → file_of c.input ≡ bill_file (lines_of b.file) → accepted_files cs ≡ files_accepted run_of answer added bs
      → map (λ c. file_of c.input) (cond accepted (c ∷ filter (λ c. is_accepted c.answer) cs) (filter (λ c. is_accepted c.answer) cs))
      ≡ map (λ c. bill_file (lines_of c.file)) (cond accepted (b ∷ filter (λ c. is_accepted (answer c.reply)) bs) (filter (λ c. is_accepted (answer c.reply)) bs))
  one_more true c b cs bs same rest = λ t. same t ∷ rest t
  one_more false c b cs bs same rest = rest

  as_calls : (lent : Lent) (used : ℕ) (calls : List (BookCall Reply)) (left : Lent) (used' : ℕ) → BookCalls run_of answer added lent used calls left used' → AsCalls lent used calls left used'
  as_calls lent used [] left used' h = record { list = []; chained = (ap run_of h.0, h.1); files = refl }
  as_calls lent used (b ∷ bs) left used' h =
      let rest = as_calls h.0 (used + added b.reply) bs left used' h.2 in
      let c : Call = record { input = input_of b.retailer b.distributors b.file (run_of lent) used; answer = answer b.reply } in
      record {
        list = c ∷ rest.list;
        chained = (run_of h.0, used + added b.reply, record { lent_run = refl; lent_used = refl; met = h.1 }, rest.chained);
        files = one_more (is_accepted (answer b.reply)) c b rest.list bs refl rest.files;
      }

  pub calls_guaranteed : BookGuaranteed run_of answer added
  calls_guaranteed lent left used' calls h =
      let same = as_calls lent 0 calls left used' h in
      subst (λ (files : List BillFile). Guarantee files (take used' (run_of left))) same.files (guarantee (run_of lent) (run_of left) used' same.list same.chained)
