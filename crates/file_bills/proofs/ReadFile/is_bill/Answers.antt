-- Answers to the goals of `file_bills::ReadFile::is_bill`: the column of record types says it.
-- Assumes nothing.
use mathlib.Core.Bool.{◌||◌}
use mathlib.Core.Path.{ap, ◌∙◌}
use Prim.Native.Nat.{ℕ}
use lib.Dec.{eqb}
use Rattle.records.specs.Text.{lines_of}
use Rattle.format.specs.Format.{line_at}
use Rattle.file_bills.proofs.Lines.{bill_type}
use Rattle.file_bills.proofs.ReadFile.is_bill.Goals as goal

pub returns : goal.returns
returns c = ap (λ (n : ℕ). eqb n 2 || eqb n 7) c.number-record_type.ensures ∙ bill_type (line_at (lines_of c.args.self.now.bytes.now) c.args.i)
