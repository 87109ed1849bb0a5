-- `dispute_reader::read_line` meets its contract: each refusal is one of test 2, and the fields of a line that passes stand at eleven places.
-- Assumes nothing.
use mathlib.Core.Path.{sym, ◌∙◌}
use Rattle.dispute_reader.proofs.OneLine.{line_unprintable, line_miscounted, line_unnamed, line_read, found_named}
use Rattle.dispute_reader.proofs.read_line.Goals as goal

pub returns-then-has_unprintable : goal.returns-then-has_unprintable
returns-then-has_unprintable c = line_unprintable _ (sym c.has_unprintable.ensures ∙ c.if-has_unprintable.true)

pub returns-then-record-ne11 : goal.returns-then-record-ne11
returns-then-record-ne11 c = line_miscounted _ (λ e. c.if-record-ne11.true (c.record_at-record.ensures.placed.count ∙ e))

pub returns-then-not-same_bytes : goal.returns-then-not-same_bytes
returns-then-not-same_bytes c =
    line_unnamed _ (found_named c.record_at-record.ensures c.if-record-ne11.false c.field_among.ensures c.same_bytes.ensures ∙ c.if-not-same_bytes.true)

pub returns : goal.returns
returns c =
    line_read c.record_at-record.ensures c.if-record-ne11.false (sym c.has_unprintable.ensures ∙ c.if-has_unprintable.false)
    (found_named c.record_at-record.ensures c.if-record-ne11.false c.field_among.ensures c.same_bytes.ensures ∙ c.if-not-same_bytes.false)
    c.read_fields.result c.read_fields.ensures c.ok_or.result c.ok_or.ensures.value
