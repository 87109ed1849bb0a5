-- Answers to the goals of `file_bills::read_bills`: none is read at the start.
-- Assumes nothing.
use Rattle.records.specs.Text.{lines_of}
use Rattle.file_bills.proofs.Laws.{reading_none}
use Rattle.file_bills.proofs.read_bills.Goals as goal

pub loop-i-init : goal.loop-i-init
loop-i-init c = reading_none (lines_of c.args.file.now.bytes.now) c.args.bills.now
