-- Answers to the goals of `file_bills::read_bill`: a line that is a TH or OC is read after those before it, and any other is passed over.
-- Assumes nothing.
use mathlib.Core.Path.{refl, sym, ◌∙◌}
use native.Mathlib.Omega.{arith}
use Rattle.records.specs.Text.{lines_of}
use Rattle.format.specs.Format.{line_at}
use Rattle.file_bills.proofs.Laws.{reading_skip, reading_more}
use Rattle.file_bills.proofs.Lines.{reference_is}
use Rattle.file_bills.proofs.read_bill.Goals as goal

pub returns-then-not-is_bill : goal.returns-then-not-is_bill
returns-then-not-is_bill c =
    reading_skip (lines_of c.args.file.now.bytes.now) c.args.i c.args.m c.args.bills.now (omega (arith, c.args.file.now.read.placed.count, c.requires.line)) c.requires.bill_room.1
    (sym c.is_bill.ensures ∙ c.if-not-is_bill.true)

pub returns : goal.returns
returns c =
    let lines = lines_of c.args.file.now.bytes.now in
    reading_more lines c.args.i c.args.m c.args.bills.now (omega (arith, c.args.file.now.read.placed.count, c.requires.line)) c.requires.bill_room.1
    (omega (arith, c.requires.bill_room.1.few, c.requires.bill_room.0, c.requires.line)) _ (sym c.is_bill.ensures ∙ c.if-not-is_bill.false) c.bill_entry.ensures
    (c.number.ensures ∙ reference_is (line_at lines 0) (line_at lines c.args.i)) refl
