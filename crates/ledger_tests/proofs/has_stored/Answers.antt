-- Answers to the goals of `ledger_tests::has_stored`: the file's own Record ID is stored, or that of a record is, or none is.
-- Assumes nothing.
use mathlib.Core.Bool.{Bool, ◌||◌}
use mathlib.Core.List.{List}
use mathlib.Core.Path.{◌≡◌, ap, ◌∙◌}
use Prim.Native.Nat.{ℕ}
use Rattle.lists.specs.Selections.{any}
use Rattle.bill_files.specs.Accepted.{Bill, BillFile}
use Rattle.entries.specs.declared.Entry.{Entry}
use Rattle.booking.specs.Booking.{is_stored, has_stored}
use Rattle.file_bills.specs.InsideBills.{file_in}
use Rattle.ledger_tests.proofs.Stored.{any_source}
use Rattle.ledger_tests.proofs.has_stored.Goals as goal

-- what is answered where the file's own Record ID is stored, and where it isn't
from_own : (es : List Entry) (file : BillFile) {sender id : ℕ} {own r : Bool} → sender ≡ file.sender → id ≡ file.record_id → own ≡ is_stored es sender id
    → r ≡ (own || any (λ (b : Bill). is_stored es b.sender b.record_id) file.bills) → r ≡ has_stored es file
unfolding has_stored
from_own es file s i e t = t ∙ ap (λ (o : Bool). o || any (λ (b : Bill). is_stored es b.sender b.record_id) file.bills) (e ∙ (λ t. is_stored es (s t) (i t)))

pub returns-then-is_stored : goal.returns-then-is_stored
returns-then-is_stored c =
    from_own c.args.chains.now.entries.now (file_in c.args.file.now) c.requires.sender_value.0 c.requires.sender_value.1 c.is_stored.ensures (rw c.if-is_stored.true)

pub returns-else-is_stored : goal.returns-else-is_stored
returns-else-is_stored c =
    from_own c.args.chains.now.entries.now (file_in c.args.file.now) c.requires.sender_value.0 c.requires.sender_value.1 c.is_stored.ensures
    (rw c.if-is_stored.false (c.stores_any.ensures ∙ any_source c.requires.sender_value.2 (λ (e : Entry). is_stored c.args.chains.now.entries.now e.sender e.id)))
