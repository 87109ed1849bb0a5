-- `dispute_reader::read_subject` meets its contract: each field fits, or the first that doesn't ends it.
-- Assumes nothing.
use Rattle.dispute_reader.proofs.AllFields.{subject_read, no_file, no_site, no_period, no_child, no_charge}
use Rattle.dispute_reader.proofs.read_subject.Goals as goal

pub returns-in_err-file : goal.returns-in_err-file
returns-in_err-file c = rw c.from_residual.ensures (no_file _ c.in_err-file.ensures)

pub returns-in_err-site : goal.returns-in_err-site
returns-in_err-site c = rw c.from_residual-in_err-site.ensures (no_site _ c.in_err-site.ensures)

pub returns-in_err-period : goal.returns-in_err-period
returns-in_err-period c = rw c.from_residual-in_err-period.ensures (no_period _ c.in_err-period.ensures)

pub returns-in_err-child : goal.returns-in_err-child
returns-in_err-child c = rw c.from_residual-in_err-child.ensures (no_child _ c.in_err-child.ensures)

pub returns-in_err-charge : goal.returns-in_err-charge
returns-in_err-charge c = rw c.from_residual-in_err-charge.ensures (no_charge _ c.in_err-charge.ensures)

pub returns : goal.returns
returns c =
    subject_read _ _ _ _ _ _ c.in_ok-file.ensures c.in_ok-site.ensures c.in_ok-period.ensures c.in_ok-child.ensures c.in_ok-charge.ensures
