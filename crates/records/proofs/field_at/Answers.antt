-- `field_at` meets its contract: the record's places are those of its fields.
-- Assumes nothing.
use Rattle.records.proofs.Laws.{among_is, place_among}
use Rattle.records.proofs.field_at.Goals as goal

pub returns : goal.returns
returns c =
    rw (c.place_among.ensures.0, c.place_among.ensures.1, ← among_is) (place_among c.record_at-r.ensures.placed c.args.k)
