-- Answers to the goals of `file_bills::read_header`: sender, commodity and Record ID are read from the first line, and the charge from the last line's column.
-- Assumes nothing.
use mathlib.Core.Bool.{Bool, cond}
use mathlib.Core.List.{List}
use mathlib.Core.Path.{◌≡◌, ap, ◌∙◌}
use Prim.Native.Nat.{ℕ, ◌-◌}
use borrow.Author.Rules.{rules}
use lib.IntN.{pos}
use Rattle.lists.proofs.Signed.{value_kept}
use Rattle.lists.specs.Bytes.{same_bytes}
use Rattle.lists.specs.Written.{written}
use Rattle.amounts.specs.Amounts.{or_zero}
use Rattle.digits.specs.Digits.{digits_of}
use Rattle.records.specs.Text.{lines_of}
use Rattle.records.specs.Records.{field}
use Rattle.columns.specs.Columns.{charge_in}
use Rattle.format.specs.Format.{line_at}
use Rattle.bill_files.specs.Accepted.{number_or_zero, bill_file}
use Rattle.file_bills.proofs.read_header.Goals.{then-is_electric, else-is_electric}
use Rattle.file_bills.proofs.read_header.Goals as goal

pub returns : goal.returns
unfolding bill_file
returns c =
    let file = c.args.file.now in
    let line = c.line-line.ensures in
    let sender = c.number_in.ensures ∙ ap (λ (l : List ℕ). number_or_zero (digits_of (field 5 l))) line in
    let id = c.number_in-2.ensures ∙ ap (λ (l : List ℕ). number_or_zero (digits_of (field 1 l))) line in
    let chosen : c.if-is_electric.commodity ≡ cond c.is_electric.result 1 2 = elim c.if-is_electric.branch [
      | then-is_electric w ↦ rw w.if-is_electric.true w.commodity-is
      | else-is_electric w ↦ rw w.if-is_electric.false w.commodity-is
    ] in
    let commodity = chosen ∙ ap (λ (t : Bool). cond t 1 2) (c.is_electric.ensures ∙ ap (λ (l : List ℕ). same_bytes (field 6 l) (written "EL")) line) in
    let charge = value_kept (search rules) (c.charge-charge.ensures ∙ ap (λ (k : ℕ). or_zero (charge_in (line_at (lines_of file.bytes.now) (k - 1)))) file.read.placed.count) in
    λ t. record { sender = sender t; commodity = commodity t; kind = 1; id = id t; site = 0; start = 0; end = 0; charge = charge t; usage = pos 0; state = 0; cancels = 0 }
