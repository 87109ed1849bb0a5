-- One pass over a file's lines: what is read of a line's fields, each into its place and one number; which line is the first that can't be read; and what is
-- answered where all can.
-- Assumes nothing.
use Rattle.std.specs.Prelude.{ℕ, ◌+◌, ◌-◌, ◌≤◌, ◌<◌, ◌≡◌, List, [], Bool, true, false, cond, not, ◌&&◌, ◌||◌, length, drop, get_or, eqb, leb, Option, Some, None}
use Rattle.lists.specs.Below.{first_below, some_below}
use Rattle.lists.specs.InsideFirstSoFar.{first_after}
use Rattle.lists.specs.Written.{written}
use Rattle.records.specs.Text.{cut, fields_of}
use Rattle.records.specs.InsidePlacedLines.{part, At}
use Rattle.tables.specs.Types.{FH, TH, type_named}
use Rattle.records.specs.Records.{field, type_in}
use Rattle.tables.specs.Tables.{is_mandatory}
use Rattle.columns.specs.InsideColumns.{ColumnsRead}
use Rattle.fields.specs.declared.FieldType.{FieldType}
use Rattle.fields.specs.Fields.{fits_type}
use Rattle.readings.specs.declared.Reading.{Reading}
use Rattle.readings.specs.InsideLeadingBytes.{packed, leading_field}
use Rattle.readings.specs.InsideReadings.{FieldRead}
use Rattle.format.specs.Conditional.{first_unpopulated}
use Rattle.format.specs.Format.{is_printable, line_at, is_empty, unformatted, some_field, unfit, first_unfilled, first_miscoded}
use Rattle.codes_and_rows.specs.InsideFields.{FieldFits, field_after}
use Rattle.codes_and_rows.specs.InsideNumbers.{codes_stand, unit_of_number}
use Rattle.line_reader.specs.declared.Head.{Head}
use Rattle.line_reader.specs.declared.LinesRead.{LinesRead}

-- the line fails test 2 or test 3
unfoldable pub unread : List ℕ → Bool
unread line = unformatted line || some_field unfit line

unfoldable pub first_unread : List (List ℕ) → ℕ
first_unread lines = first_below (λ (i : ℕ). unread (line_at lines i)) (length lines)

-- ---- a line's fields
-- the fields from the place a on of a line that ends at e; none from past its end
unfoldable pub rest_at : List ℕ → ℕ → ℕ → List (List ℕ)
rest_at file a e = cond (leb a e) (cut 44 (part file a e)) []

-- the first k fields of a line are read, each into its place and its number, the numbers counted from 1; the others stand from the place a on
pub record ReadTo (file line : List ℕ) (type k a e : ℕ) (numbers bs es : List ℕ) : Type 0 where
  pub some : k ≤ length (fields_of line)
  pub rest : drop k (fields_of line) ≡ rest_at file a e
  pub stands : (j : ℕ) → j < k → FieldFits type j (field_after line j) (get_or numbers (j + 1) 0)
  pub placed : (j : ℕ) → j < k → At file (get_or bs j 0) (get_or es j 0) (field_after line j)

-- what is read of the field of a type that begins at a, of a line that ends at e; none where there is none, past its end, or it does not fit
abbrev pub NextTold : FieldType → List ℕ → ℕ → ℕ → Option Reading → Type 0
NextTold t file a e (Some r) = (a ≤ e) × FieldRead t (part file a e) r
NextTold t file a e None = a ≤ e → fits_type t (leading_field (part file a e)) ≡ false

-- `unfilled`, of a record's type and its line
unfoldable pub unfilled_at : ℕ → List ℕ → ℕ → Bool
unfilled_at type line k = cond (eqb type FH && eqb k 1) (not (is_empty (field_after line k))) (is_mandatory type k && is_empty (field_after line k))

-- whether the first k fields of a line are filled as they must be
abbrev pub FilledTo : ℕ → List ℕ → ℕ → Bool → Type 0
FilledTo type line k filled = filled ≡ not (some_below (unfilled_at type line) k)

-- ---- the first three fields
-- whether the Record ID is filled, and the Parent ID is, but for FH, whose is empty, by their lengths
unfoldable pub head_filled : ℕ → ℕ → ℕ → Bool
head_filled type id parent = not (eqb id 0) && cond (eqb type FH) (eqb parent 0) (not (eqb parent 0))

-- a line stands from a to e, and 24 numbers are lent for its fields, of which the first stays 0
pub record LineLent (file : List ℕ) (a e : ℕ) (numbers : List ℕ) : Type 0 where
  pub low : a ≤ e
  pub high : e ≤ length file
  pub size : length numbers ≡ 24
  pub none : get_or numbers 0 0 ≡ 0

-- the first three fields of a line of printable bytes, which begins at a and ends at e, are read, of which the third names its type
pub record HeadRead (file line : List ℕ) (a e : ℕ) (r : Head) (numbers : List ℕ) : Type 0 where
  pub printable : some_below (λ (i : ℕ). not (is_printable (get_or line i 0))) (length line) ≡ false
  pub type : r.record_type ≡ type_named (field_after line 2)
  pub size : length numbers ≡ 24
  pub none : get_or numbers 0 0 ≡ 0
  pub inside : r.type_end ≤ e
  pub some : 3 ≤ length (fields_of line)
  pub rest : drop 3 (fields_of line) ≡ rest_at file (r.type_end + 1) e
  pub stands : (j : ℕ) → j < 3 → FieldFits r.record_type j (field_after line j) (get_or numbers (j + 1) 0)
  pub first : At file a r.id_end (field_after line 0)
  pub second : At file (r.id_end + 1) r.parent_end (field_after line 1)
  pub third : At file (r.parent_end + 1) r.type_end (field_after line 2)
  pub filled : FilledTo r.record_type line 3 r.filled
  pub known : r.record_type < 9

-- what is read of them; none where the line fails test 2 or test 3
abbrev pub HeadTold : List ℕ → List ℕ → ℕ → ℕ → List ℕ → Option Head → Type 0
HeadTold file line a e numbers (Some head) = HeadRead file line a e head numbers
HeadTold file line a e numbers None = unread line ≡ true

-- ---- the file
-- what is kept of the lines, `read` before and r after line `read.stopped` of n, a record of a type, by the numbers of its fields
pub record LineKept (read : LinesRead) (n type : ℕ) (filled lacks : Bool) (numbers : List ℕ) (r : LinesRead) : Type 0 where
  pub stopped : r.stopped ≡ read.stopped + 1
  pub unfilled : r.unfilled ≡ first_after (not filled) read.unfilled n read.stopped
  pub unpopulated : r.unpopulated ≡ first_after lacks read.unpopulated n read.stopped
  pub miscoded : r.miscoded ≡ first_after (not (codes_stand (unit_of_number r.commodity) type numbers)) read.miscoded n read.stopped
  pub retailer : r.retailer ≡ cond (eqb read.stopped 0) (get_or numbers 4 0) read.retailer
  pub sender : r.sender ≡ cond (eqb read.stopped 0) (get_or numbers 5 0) read.sender
  pub commodity : r.commodity ≡ cond (eqb read.stopped 0) (get_or numbers 6 0) read.commodity
  pub counted : r.counted ≡ get_or numbers 4 0
  pub energized : r.energized ≡ cond (eqb type TH) (eqb (get_or numbers 11 0) (packed (written "E"))) read.energized

-- what is answered of a file's lines where each passes tests 2 and 3: what tests 5, 6 and 7 answer, and the numbers that say fields 4 and 5 of the first line
-- and field 4 of the last. Where the first line is FH and the last FT, these are the retailer, the sender and the record count. Test 7 reads the commodity, which
-- the first line names where it is FH.
pub record AllRead (lines : List (List ℕ)) (r : LinesRead) : Type 0 where
  pub unfilled : r.unfilled ≡ first_unfilled lines
  pub unpopulated : r.unpopulated ≡ first_unpopulated lines
  pub miscoded : type_in (line_at lines 0) ≡ FH → r.miscoded ≡ first_miscoded lines
  pub retailer : FieldFits (type_in (line_at lines 0)) 3 (field 4 (line_at lines 0)) r.retailer
  pub sender : FieldFits (type_in (line_at lines 0)) 4 (field 5 (line_at lines 0)) r.sender
  pub counted : FieldFits (type_in (line_at lines (length lines - 1))) 3 (field 4 (line_at lines (length lines - 1))) r.counted

-- what the reader answers of a file's lines, and leaves in the columns
pub record LinesTold (lines : List (List ℕ)) (words charges usages : List ℕ) (r : LinesRead) : Type 0 where
  pub stopped : r.stopped ≡ first_unread lines
  pub all : r.stopped ≡ length lines → AllRead lines r
  pub columns : r.stopped ≡ length lines → ColumnsRead lines words charges usages
