-- `read_lines` meets its contract. The invariant of the loop over the lines: those before line i are read, and stand in the columns.
-- That of the loop over a line's fields: those before k are read, and the others stand from a on. Each `break` is at a line that fails test 2 or 3.
-- Assumes nothing.
use mathlib.Core.Path.{◌≡◌}
use Rattle.columns.proofs.Rows.{Reading}
use Rattle.records.specs.Text.{lines_of}
use Rattle.records.specs.InsidePlacedLines.{part}
use Rattle.line_reader.proofs.Lines.{LinesTo}
use Rattle.line_reader.proofs.FieldLoop.{Kept, FieldsTo}
use Rattle.line_reader.proofs.read_lines.Given as goal

abbrev pub invariant-loop-k : goal.invariant-loop-k
invariant-loop-k l = FieldsTo l.lines.bytes.now (part l.lines.bytes.now l.start l.e) l.record_type l.k l.a l.e l.filled l.numbers l.record.starts l.record.ends

abbrev pub invariant-records : goal.invariant-records
invariant-records l = (l.read.stopped ≡ l.i) × LinesTo (lines_of l.lines.bytes.now) l.lines.n l.read × Reading (lines_of l.lines.bytes.now) l.initial.charges l.initial.usages l.i l.words l.charges l.usages × Kept l.numbers l.record.starts l.record.ends
