-- `book::book_file` meets its contract: the search for lines finds room for all of them, or the file has more than it may.
-- Assumes nothing.
use mathlib.Core.Logic.{⊎_elim}
use Prim.Native.Nat.{ℕ, ◌≤◌, ◌<◌}
use native.Mathlib.Omega.{arith}
use lib.ListN.{length, length-replicate}
use Rattle.records.specs.Text.{lines_of}
use Rattle.validation.proofs.Limits.{too_many_lines, within_limits}
use Rattle.booking.specs.Booking.{Input, input_of}
use Rattle.book.proofs.Answers.{refuses}
use Rattle.book.proofs.Refusing.{refused_103}
use Rattle.book.proofs.book_file.Goals as goal

pub book_lines-requires : goal.book_lines-requires
book_lines-requires c =
    let placed = c.in-Some.ensures in
    let few : c.in-Some.n ≤ 4096 = omega (arith, placed.starts, c.find_lines.auto.starts, length-replicate {A = ℕ} 4096 0) in
    record { opened = record { ready = c.requires.ready; small = within_limits c.args.file.now c.requires.few (omega (arith, few, placed.count)) }; few = few }

pub returns-in_default : goal.returns-in_default
returns-in_default c =
    let input : Input = input_of c.args.retailer c.args.distributors.now c.args.file.now c.args.run.now c.args.used in
    let many : 4096 < length (lines_of c.args.file.now) =
    ⊎_elim (λ h. omega (arith, c.find_lines.auto.starts, length-replicate {A = ℕ} 4096 0)) (λ h. omega (arith, c.find_lines.auto.ends, length-replicate {A = ℕ} 4096 0)) c.in_default.ensures in
    rw c.refused.ensures (refuses input (refused_103 input c.requires.ready (too_many_lines c.args.file.now c.requires.few many)) (λ z. omega (arith, z)))
