-- The loop over the fields of a line.
--     Kept                                   the lists for numbers and places
--     FieldsTo, fields_start, fields_more    the first k fields are read: the first three; one field more
--     unread_next                            the next is none, or doesn't fit
--     LineRead, fields_end                   all are: what is known of the line
-- Assumes nothing.
use mathlib.Core.Path.{◌≡◌, sym, ◌∙◌, ap}
use mathlib.Core.List.{List}
use mathlib.Core.Bool.{Bool, true, false, not}
use Prim.Native.Nat.{ℕ, ◌+◌, ◌≤◌, ◌<◌}
use native.Mathlib.Numerals.{add-one}
use native.Mathlib.Omega.{arith}
use native.Mathlib.Decide.{dec_lt}
use lib.ListN.{length, get_or, set, length-set}
use lib.Seq.{get_or-set_other}
use Rattle.lists.specs.Below.{some_below}
use Rattle.records.specs.Text.{fields_of}
use Rattle.records.specs.InsidePlacedLines.{part}
use Rattle.tables.specs.Types.{type_named}
use Rattle.fields.specs.declared.FieldType.{FieldType}
use Rattle.fields.specs.Fields.{fits_type}
use Rattle.tables.specs.Tables.{field_count, field_type}
use Rattle.tables.proofs.Laws.{count_most}
use Rattle.format.specs.Format.{is_printable, some_field, unfilled}
use Rattle.readings.specs.declared.Reading.{Reading}
use Rattle.readings.specs.InsideLeadingBytes.{leading_field}
use Rattle.readings.specs.InsideReadings.{FieldRead}
use Rattle.codes_and_rows.specs.InsideFields.{field_after, NumbersRead}
use Rattle.conditional_fields.specs.InsideRecords.{RecordRead}
use Rattle.codes_and_rows.proofs.Codes.{same_fields, type_is, field_of}
use Rattle.line_reader.specs.declared.Head.{Head}
use Rattle.line_reader.specs.InsideLineReader.{unread, ReadTo, FilledTo, HeadRead}
use Rattle.line_reader.proofs.Fields.{rest_end, field_there, field_is, read_more, field_fits}
use Rattle.line_reader.proofs.Filled.{filled_line}
use Rattle.line_reader.proofs.Heads.{head_read}
use Rattle.line_reader.proofs.Unread.{unread_count, unread_field, read_line_lem}

-- the lists for numbers and places keep their lengths, and there is no field 0
pub record Kept (numbers bs es : List ℕ) : Type 0 where
  pub none : get_or numbers 0 0 ≡ 0
  pub size : length numbers ≡ 24
  pub starts : length bs ≡ 24
  pub ends : length es ≡ 24

-- the first k are read, and a flag says whether they are filled
pub record FieldsTo (file line : List ℕ) (type k a e : ℕ) (filled : Bool) (numbers bs es : List ℕ) : Type 0 where
  pub read : ReadTo file line type k a e numbers bs es
  pub flag : FilledTo type line k filled
  pub kept : Kept numbers bs es

pub fields_start : {file line : List ℕ} {a e : ℕ} {r : Head} {numbers bs' es' : List ℕ} → HeadRead file line a e r numbers → (bs es : List ℕ) → length bs ≡ 24 → length es ≡ 24
    → bs' ≡ set (set (set bs 0 a) 1 (r.id_end + 1)) 2 (r.parent_end + 1) → es' ≡ set (set (set es 0 r.id_end) 1 r.parent_end) 2 r.type_end
    → FieldsTo file line r.record_type 3 (r.type_end + 1) e r.filled numbers bs' es'
fields_start h bs es starts ends p q =
    rw (p, q)
    record {
      read = head_read h bs es starts ends;
      flag = h.filled;
      kept = record { none = h.none; size = h.size; starts = simp length-set starts; ends = simp length-set ends };
    }

pub fields_more : {file line : List ℕ} {type k a e : ℕ} {filled after : Bool} {numbers bs es : List ℕ} → FieldsTo file line type k a e filled numbers bs es
    → a ≤ e → e ≤ length file → k < 19 → {t : FieldType} {r : Reading} → t ≡ field_type type k → FieldRead t (part file a e) r → FilledTo type line (k + 1) after
    → FieldsTo file line type (k + 1) (a + r.len + 1) e after (set numbers (k + 1) r.number) (set bs k a) (set es k (a + r.len))
fields_more {k = k} {numbers = numbers} f low high small {r = r} same read flag =
    let kept = f.kept in
    record {
      read = read_more f.read low high r.len r.number read.ends (omega (arith, kept.size)) (omega (arith, kept.starts)) (omega (arith, kept.ends)) (field_fits same read);
      flag = flag;
      kept = record {
        none = get_or-set_other numbers (k + 1) 0 r.number 0 (λ z. omega (arith, z)) ∙ kept.none;
        size = simp length-set kept.size;
        starts = simp length-set kept.starts;
        ends = simp length-set kept.ends;
      };
    }

-- the line fails where there is no field after k others and there should be, or there is and it doesn't fit
pub unread_next : {file line : List ℕ} {type k a e : ℕ} {numbers bs es : List ℕ} → ReadTo file line type k a e numbers bs es → type ≡ type_named (field_after line 2) → e ≤ length file
    → k < field_count type → (a ≤ e → fits_type (field_type type k) (leading_field (part file a e)) ≡ false) → unread line ≡ true
unread_next {file} {line} {type} {k} {a} {e} r named high there misses = go (dec_lt e a)
  where
    go : Dec (e < a) → unread line ≡ true
    go (yes past) = unread_count line type named (λ z. omega (arith, z, rest_end r past))
    go (no l) =
        let low : a ≤ e = omega (arith, l) in
        unread_field line type named k (field_there r low high) (ap (λ (f : List ℕ). fits_type (field_type type k) f) (field_is r low high) ∙ misses low)

-- what is known of a line whose fields are all read
pub record LineRead (file line : List ℕ) (type : ℕ) (flag : Bool) (numbers bs es : List ℕ) : Type 0 where
  pub read : RecordRead file line type numbers bs es
  pub filled : flag ≡ not (some_field unfilled line)
  pub passes : unread line ≡ false

module _ {file line : List ℕ} {type k a e : ℕ} {filled : Bool} {numbers bs es : List ℕ} (f : FieldsTo file line type k a e filled numbers bs es)
    (known : type < 9) (all : k ≡ field_count type) (past : e < a) where
  counted : length (fields_of line) ≡ field_count type
  counted = rest_end f.read past ∙ all

  numbers_read : NumbersRead type line numbers
  numbers_read = record { none = f.kept.none; counted = counted; stands = λ j h. f.read.stands j (omega (arith, all)) }

  pub fields_end : type ≡ type_named (field_after line 2) → some_below (λ (i : ℕ). not (is_printable (get_or line i 0))) (length line) ≡ false → LineRead file line type filled numbers bs es
  fields_end named printable =
      record {
        read = record {
          known = known;
          named = type_is numbers_read known named;
          printable = printable;
          says = numbers_read;
          placed = λ j h. f.read.placed j (omega (arith, all));
        };
        filled = filled_line type line k (type_is numbers_read known named) (ap length (same_fields numbers_read known) ∙ counted ∙ sym all) (λ j. rw add-one (field_of numbers_read known j)) f.flag;
        passes = read_line_lem line type named known (omega (arith, count_most type known)) printable counted (λ j h. (f.read.stands j (omega (arith, all))).fits);
      }
