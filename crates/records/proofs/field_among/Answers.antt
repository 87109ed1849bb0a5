-- `field_among` meets its contract: the place of field k is where it stands.
-- Assumes nothing.
use Rattle.records.proofs.Laws.{place_among}
use Rattle.records.specs.InsidePlacedFields.{field_among, fields_at}
use Rattle.records.specs.InsidePlacedLines.{At}
use Rattle.records.proofs.field_among.Goals as goal

pub slice_bounds-result-count : goal.slice_bounds-result-count
slice_bounds-result-count c =
    let place : At c.args.file.now c.place_among-place.result.0 c.place_among-place.result.1 (field_among (fields_at c.args.file.now c.args.count c.args.starts.now c.args.ends.now) c.args.k) =
    rw (c.place_among-place.ensures.0, c.place_among-place.ensures.1) (place_among c.requires.1 c.args.k) in
    (place).low

pub slice_bounds-result-start : goal.slice_bounds-result-start
slice_bounds-result-start c =
    let place : At c.args.file.now c.place_among-place.result.0 c.place_among-place.result.1 (field_among (fields_at c.args.file.now c.args.count c.args.starts.now c.args.ends.now) c.args.k) =
    rw (c.place_among-place.ensures.0, c.place_among-place.ensures.1) (place_among c.requires.1 c.args.k) in
    (place).low

pub slice_bounds-result-end : goal.slice_bounds-result-end
slice_bounds-result-end c =
    let place : At c.args.file.now c.place_among-place.result.0 c.place_among-place.result.1 (field_among (fields_at c.args.file.now c.args.count c.args.starts.now c.args.ends.now) c.args.k) =
    rw (c.place_among-place.ensures.0, c.place_among-place.ensures.1) (place_among c.requires.1 c.args.k) in
    (place).high

pub returns : goal.returns
returns c =
    let place : At c.args.file.now c.place_among-place.result.0 c.place_among-place.result.1 (field_among (fields_at c.args.file.now c.args.count c.args.starts.now c.args.ends.now) c.args.k) =
    rw (c.place_among-place.ensures.0, c.place_among-place.ensures.1) (place_among c.requires.1 c.args.k) in
    (place).same
