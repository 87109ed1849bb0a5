-- `disputes::ids_of` meets its contract: all three fields are read, or one isn't.
-- Assumes nothing.
use mathlib.Core.Path.{sym, ◌∙◌}
use Rattle.disputes.proofs.SuppliedFields.{ids_unread, ids_read}
use Rattle.disputes.proofs.ids_of.Goals as goal

pub returns-in_err-transaction : goal.returns-in_err-transaction
returns-in_err-transaction c =
    rw c.from_residual.ensures
    (ids_unread c.args.transaction.now c.args.created.now c.args.file.now (rw (sym c.digits.ensures ∙ c.in_err-transaction.was)))

pub returns-in_err-date_time_of : goal.returns-in_err-date_time_of
returns-in_err-date_time_of c =
    rw c.from_residual-in_err-date_time_of.ensures
    (ids_unread c.args.transaction.now c.args.created.now c.args.file.now
    (rw (sym c.digits.ensures ∙ c.in_ok-transaction.was, sym c.date_time_of.ensures ∙ c.in_err-date_time_of.was)))

pub returns-in_err-file : goal.returns-in_err-file
returns-in_err-file c =
    rw c.from_residual-in_err-file.ensures
    (ids_unread c.args.transaction.now c.args.created.now c.args.file.now
    (rw (sym c.digits.ensures ∙ c.in_ok-transaction.was, sym c.date_time_of.ensures ∙ c.in_ok-date_time_of.was, sym c.digits-2.ensures ∙ c.in_err-file.was)))

pub returns : goal.returns
returns c =
    ids_read c.args.transaction.now c.args.created.now c.args.file.now _ _ _ _ (sym c.digits.ensures ∙ c.in_ok-transaction.was)
    (sym c.date_time_of.ensures ∙ c.in_ok-date_time_of.was) (sym c.digits-2.ensures ∙ c.in_ok-file.was)
