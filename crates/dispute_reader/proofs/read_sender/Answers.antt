-- `dispute_reader::read_sender` meets its contract: each field fits, or the first that doesn't ends it.
-- Assumes nothing.
use mathlib.Core.Path.{sym, ◌∙◌, ap}
use Rattle.fields.specs.declared.FieldType.TheVariants.{DateTime}
use Rattle.fields.specs.Fields.{fits_type}
use Rattle.dispute_reader.proofs.OneField.{read_same}
use Rattle.dispute_reader.proofs.AllFields.{sender_read, no_transaction, no_retailer, no_distributor, no_created}
use Rattle.dispute_reader.proofs.read_sender.Goals as goal

pub returns-in_err-transaction : goal.returns-in_err-transaction
returns-in_err-transaction c = rw c.from_residual.ensures (no_transaction _ c.in_err-transaction.ensures)

pub returns-in_err-retailer : goal.returns-in_err-retailer
returns-in_err-retailer c = rw c.from_residual-in_err-retailer.ensures (no_retailer _ c.in_err-retailer.ensures)

pub returns-in_err-distributor : goal.returns-in_err-distributor
returns-in_err-distributor c = rw c.from_residual-in_err-distributor.ensures (no_distributor _ c.in_err-distributor.ensures)

pub returns-in_err-created : goal.returns-in_err-created
returns-in_err-created c = rw c.from_residual-in_err-created.ensures (no_created _ (ap (fits_type DateTime) (sym c.field_among.ensures) ∙ c.in_err-created.ensures))

pub returns : goal.returns
returns c =
    sender_read _ _ _ _ _ c.in_ok-transaction.ensures c.in_ok-retailer.ensures c.in_ok-distributor.ensures
    (read_same c.field_among.ensures c.in_ok-created.ensures)
