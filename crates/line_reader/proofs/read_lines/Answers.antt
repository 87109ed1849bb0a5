-- `read_lines` meets its contract. The invariant of the loop over the lines: those before `read.stopped` are read, and stand in the columns.
-- That of the loop over a line's fields: those before k are read, and the others stand from a on. Each `break` is at a line that fails test 2 or 3.
-- Assumes nothing.
use Prim.Native.Nat.{ℕ, ◌+◌, ◌*◌, ◌≤◌, ◌<◌}
use mathlib.Core.List.{List}
use mathlib.Core.Bool.{Bool, true, false}
use mathlib.Core.Path.{◌≡◌, refl, sym, ◌∙◌, ap, subst}
use native.Mathlib.Omega.{arith}
use lib.ListN.{length, get_or}
use Rattle.fields.specs.declared.FieldType.{FieldType}
use Rattle.readings.proofs.Ends.{field_length}
use Rattle.readings.specs.declared.Reading.{Reading}
use Rattle.columns.proofs.Rows.{reading_none, reading_end}
use Rattle.format.specs.Format.{line_at}
use Rattle.tables.proofs.Laws.{count_most}
use Rattle.records.proofs.Placed.{placed_at}
use Rattle.records.specs.Text.{lines_of}
use Rattle.records.specs.InsidePlacedLines.{part, At, Placed}
use Rattle.line_reader.specs.declared.LinesRead.{LinesRead}
use Rattle.line_reader.specs.InsideLineReader.{unread, first_unread, LinesTold}
use Rattle.readings.specs.InsideReadings.{FieldRead}
use Rattle.line_reader.proofs.Unread.{unread_count, first_none}
use Rattle.line_reader.proofs.Lines.{LinesTo, lines_none, lines_more, lines_end, stops, line_stored}
use Rattle.line_reader.proofs.Heads.{count_least}
use Rattle.line_reader.proofs.Filled.{filled_more, mark_field}
use Rattle.line_reader.proofs.Fields.{end_inside, field_there, field_is, code_narrow, code_type}
use Rattle.line_reader.proofs.FieldLoop.{LineRead, fields_start, fields_more, unread_next, fields_end}
use Rattle.line_reader.proofs.read_lines.Goals as goal

module _ {file : List ℕ} {n : ℕ} {starts ends : List ℕ} (placed : Placed file n starts ends (lines_of file)) {i : ℕ} (here : i < n) where
  -- line i stands in the file
  place : At file (get_or starts i 0) (get_or ends i 0) (line_at (lines_of file) i)
  place = placed_at placed i here

  -- a field of line i that is read ends in the file
  field_ends : {t : FieldType} {a : ℕ} {r : Reading} → (a ≤ get_or ends i 0) × FieldRead t (part file a (get_or ends i 0)) r → a + r.len ≤ length file
  field_ends {a = a} told = omega (arith, told.1.ends, end_inside file a (get_or ends i 0) told.0 place.high, place.high)

-- where the line that is read next fails, the reader stops
fails : {file : List ℕ} {n i : ℕ} {starts ends words charges usages : List ℕ} {read : LinesRead} → Placed file n starts ends (lines_of file) → i < n → read.stopped ≡ i → LinesTo (lines_of file) n read
    → unread (part file (get_or starts i 0) (get_or ends i 0)) ≡ true → LinesTold (lines_of file) words charges usages read
fails {file} {n} placed here next before e =
    stops (lines_of file) n before (omega (arith, here, next)) placed.count (ap (λ (j : ℕ). unread (line_at (lines_of file) j)) next ∙ rw (sym (place placed here).same) e)

-- line i is the line that is read next
line_of_next : {file : List ℕ} (lines : List (List ℕ)) {next i type : ℕ} {filled : Bool} {numbers bs es : List ℕ} → next ≡ i → LineRead file (line_at lines i) type filled numbers bs es
    → LineRead file (line_at lines next) type filled numbers bs es
line_of_next {file} lines {type = type} {filled} {numbers} {bs} {es} e line = subst (λ (k : ℕ). LineRead file (line_at lines k) type filled numbers bs es) (sym e) line

pub records-init : goal.records-init
records-init c = (
  c.none_read-read.ensures.0,
  lines_none _ _ c.none_read-read.ensures.0 c.none_read-read.ensures.1 c.none_read-read.ensures.2 c.none_read-read.ensures.3 c.none_read-read.ensures.4,
  reading_none _ _ _ _ c.requires.room.0.words_length,
  record { none = refl; size = refl; starts = ap length c.no_record-record.ensures.2; ends = ap length c.no_record-record.ensures.3 },
)

pub read_head-requires : goal.read_head-requires
read_head-requires c =
    let line = place c.args.lines.now.placed c.records-test.true in
    record { low = line.low; high = line.high; size = c.records.invariant.3.size; none = c.records.invariant.3.none }

pub loop-k-init : goal.loop-k-init
loop-k-init c =
    fields_start c.in-Some.ensures c.records.«record».starts c.records.«record».ends c.records.invariant.3.starts c.records.invariant.3.ends c.place_three.ensures c.place_three-in-records.ensures

pub overflow_add-row : goal.overflow_add-row
overflow_add-row c = omega (arith, count_most, c.in-Some.ensures.known)

pub offset_bounds-codes-row : goal.offset_bounds-codes-row
offset_bounds-codes-row c = omega (arith, count_most, c.in-Some.ensures.known)

pub bounds-codes-row : goal.bounds-codes-row
bounds-codes-row c = omega (arith, count_most, c.in-Some.ensures.known)

pub read_next-requires : goal.read_next-requires
read_next-requires c = (code_narrow _ _ c.in-Some.ensures.known (omega (arith, count_most, c.in-Some.ensures.known)) c.codes-codes.ensures, (place c.args.lines.now.placed c.records-test.true).high)

pub overflow_add-row-in-loop-k : goal.overflow_add-row-in-loop-k
overflow_add-row-in-loop-k c = omega (arith, count_most, c.in-Some.ensures.known)

pub still_filled-filled-requires : goal.still_filled-filled-requires
still_filled-filled-requires c = omega (arith, count_most, c.in-Some.ensures.known)

pub offset_bounds-record-k : goal.offset_bounds-record-k
offset_bounds-record-k c = omega (arith, count_most, c.in-Some.ensures.known)

pub bounds-record-k : goal.bounds-record-k
bounds-record-k c = omega (arith, count_most, c.in-Some.ensures.known, c.loop-k.invariant.kept.starts)

pub overflow_add-record : goal.overflow_add-record
overflow_add-record c = omega (arith, field_ends c.args.lines.now.placed c.records-test.true c.in-Some-read_next.ensures)

pub offset_bounds-record-k-in-loop-k : goal.offset_bounds-record-k-in-loop-k
offset_bounds-record-k-in-loop-k c = omega (arith, count_most, c.in-Some.ensures.known)

pub bounds-record-k-in-loop-k : goal.bounds-record-k-in-loop-k
bounds-record-k-in-loop-k c = omega (arith, count_most, c.in-Some.ensures.known, c.loop-k.invariant.kept.ends)

pub offset_bounds-numbers-k : goal.offset_bounds-numbers-k
offset_bounds-numbers-k c = omega (arith, count_most, c.in-Some.ensures.known)

pub bounds-numbers-k : goal.bounds-numbers-k
bounds-numbers-k c = omega (arith, count_most, c.in-Some.ensures.known, c.loop-k.invariant.kept.size)

pub overflow_add-a-in-loop-k : goal.overflow_add-a-in-loop-k
overflow_add-a-in-loop-k c = omega (arith, field_ends c.args.lines.now.placed c.records-test.true c.in-Some-read_next.ensures)

pub overflow_add-a-in-loop-k-2 : goal.overflow_add-a-in-loop-k-2
overflow_add-a-in-loop-k-2 c = omega (arith, field_ends c.args.lines.now.placed c.records-test.true c.in-Some-read_next.ensures)

pub loop-k-preserved : goal.loop-k-preserved
loop-k-preserved c =
    let type = c.in-Some.head.record_type in
    let mark = get_or c.marks-marks.result.now (type * 19 + c.loop-k.k) false in
    let known : type < 9 = c.in-Some.ensures.known in
    let small : c.loop-k.k < 19 = omega (arith, count_most, c.in-Some.ensures.known) in
    let high = (place c.args.lines.now.placed c.records-test.true).high in
    let low = c.in-Some-read_next.ensures.0 in
    let read = c.in-Some-read_next.ensures.1 in
    let long = read.ends ∙ sym (ap length (field_is c.loop-k.invariant.read low high) ∙ field_length _) in
    let flag =
    filled_more type _ c.loop-k.k c.loop-k.invariant.flag (mark_field type _ c.marks-marks.ensures known c.loop-k.k (omega arith) small long)
    c.still_filled-filled.ensures in
    fields_more c.loop-k.invariant low high small (code_type type c.loop-k.k known small c.codes-codes.ensures) read flag

pub records-preserved : goal.records-preserved
records-preserved c =
    let lines = lines_of c.args.lines.now.bytes.now in
    let head = c.in-Some.ensures in
    let next = c.records.invariant.0 in
    let line = rw (place c.args.lines.now.placed c.records-test.true).same at (fields_end c.loop-k.invariant (omega arith) (omega (arith, count_least, head.known)) (omega arith) head.type head.printable) in
    let here = line_of_next lines next line in (
      c.with_line-read.ensures.stopped ∙ ap (λ (k : ℕ). k + 1) next,
      lines_more _ _ c.records.invariant.1 (omega (arith, next, c.records-test.true)) here (c.is_unpopulated-lacks.ensures _ _ _ here.read c.records.invariant.1.energized) c.with_line-read.ensures,
      line_stored c.records.invariant.2 (omega arith) c.requires.room.0.usages_length line c.store_line.ensures.row_stored c.store_line.ensures.charges_after c.store_line.ensures.usages_after,
      c.loop-k.invariant.kept,
    )

pub returns-after-records : goal.returns-after-records
unfolding first_unread
returns-after-records c =
    let lines = lines_of c.args.lines.now.bytes.now in
    let end : c.records.read.stopped ≡ c.args.lines.now.n = omega arith in
    record {
      stopped = first_none unread lines c.records.read.stopped c.records.invariant.1.passing (end ∙ c.args.lines.now.placed.count);
      all = λ all. lines_end lines c.args.lines.now.n c.records.invariant.1 end c.args.lines.now.placed.count c.requires.some;
      columns = λ all. reading_end c.records.invariant.2 (sym c.records.invariant.0 ∙ all) (omega arith) c.requires.room.0.usages_length;
    }

pub returns-in_default : goal.returns-in_default
returns-in_default c = fails c.args.lines.now.placed c.records-test.true c.records.invariant.0 c.records.invariant.1 c.in_default.ensures

pub returns-in_default-read_next : goal.returns-in_default-read_next
returns-in_default-read_next c =
    let head = c.in-Some.ensures in
    let code = code_type c.in-Some.head.record_type c.loop-k.k head.known (omega (arith, count_most, head.known)) c.codes-codes.ensures in
    fails c.args.lines.now.placed c.records-test.true c.records.invariant.0 c.records.invariant.1
    (unread_next c.loop-k.invariant.read head.type (place c.args.lines.now.placed c.records-test.true).high (omega arith) (λ l. rw code at (c.in_default-read_next.ensures l)))

pub returns-then-a-e : goal.returns-then-a-e
returns-then-a-e c =
    let head = c.in-Some.ensures in
    fails c.args.lines.now.placed c.records-test.true c.records.invariant.0 c.records.invariant.1
    (unread_count _ c.in-Some.head.record_type head.type (λ z. omega (arith, z, field_there c.loop-k.invariant.read c.if-a-e.true (place c.args.lines.now.placed c.records-test.true).high)))
