-- `lent_ledger::book` meets its contract: what Book meets by its answer, it meets by the reply.
-- Assumes nothing.
use Rattle.lent_ledger.proofs.BookLaws.{host_booked}
use Rattle.lent_ledger.proofs.book.Goals as goal

pub returns : goal.returns
returns c = host_booked _ c.book.result c.from.result _ c.from.ensures c.book.ensures
