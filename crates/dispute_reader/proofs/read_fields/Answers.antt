-- `dispute_reader::read_fields` meets its contract: all fields fit, or the first that doesn't ends it.
-- Assumes nothing.
use mathlib.Core.Path.{sym, ◌∙◌, ap}
use Rattle.fields.specs.declared.FieldType.TheVariants.{Number}
use Rattle.fields.specs.Fields.{fits_type}
use Rattle.dispute_reader.proofs.OneField.{code_same}
use Rattle.dispute_reader.proofs.AllFields.{no_sender, no_subject, no_code, fields_read}
use Rattle.dispute_reader.proofs.read_fields.Goals as goal

pub returns-in_err-sender : goal.returns-in_err-sender
returns-in_err-sender c = rw c.from_residual.ensures (no_sender _ c.in_err-sender.ensures)

pub returns-in_err-subject : goal.returns-in_err-subject
returns-in_err-subject c = rw c.from_residual-in_err-subject.ensures (no_subject _ c.in_err-subject.ensures)

pub returns-in_err-code : goal.returns-in_err-code
returns-in_err-code c = rw c.from_residual-in_err-code.ensures (no_code _ (ap (fits_type (Number 4 0)) (sym c.field_among.ensures) ∙ c.in_err-code.ensures))

pub returns : goal.returns
returns c = fields_read _ _ _ _ c.in_ok-sender.ensures c.in_ok-subject.ensures (code_same c.field_among.ensures c.in_ok-code.ensures)
