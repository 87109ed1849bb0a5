-- `book::book_passing` meets its contract: the file's own entry, its TH and OC, and then Book from them.
-- Assumes nothing.
use Rattle.records.specs.Text.{lines_of}
use Rattle.book.proofs.FileBills.{bills_read, sender_own, commodity_own}
use Rattle.book.proofs.book_passing.Goals as goal

pub read_bills-count-requires-clause-sender_value : goal.read_bills-count-requires-clause-sender_value
read_bills-count-requires-clause-sender_value c = (sender_own _ _ c.read_header-header.ensures, commodity_own _ _ c.read_header-header.ensures)

pub book_bills-requires-clause-header_value : goal.book_bills-requires-clause-header_value
book_bills-requires-clause-header_value c = (c.read_header-header.ensures, bills_read (lines_of c.args.file.now.bytes.now) c.args.file.now.n c.read_bills-count.result _ c.args.file.now.read.placed.count c.args.file.now.read.few c.read_bills-count.ensures)
