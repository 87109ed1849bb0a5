-- What is read of one line of a tariff bill dispute (TBD) transaction. Request 4: "A reader of one TBD line, its end as a bill file's, comes with it: 2 as that
-- test does for bytes and field count, or if field 1 isn't TBD or bytes follow the line's end, then 3 as that test does."
-- Assumes nothing.
use Rattle.std.specs.Prelude.{ℕ, List, [], ◌∷◌, Bool, cond, not, ◌&&◌, ◌||◌, eqb, pos, length, get_or}
use Rattle.lists.specs.Below.{some_below}
use Rattle.lists.specs.Bytes.{same_bytes}
use Rattle.lists.specs.Written.{written}
use Rattle.digits.specs.Digits.{number_of}
use Rattle.amounts.specs.Amounts.{amount_of, or_zero}
use Rattle.fields.specs.declared.FieldType.TheVariants.{RecordId, Digits, Number as Num, DateTime}
use Rattle.fields.specs.Fields.{fits_type}
use Rattle.records.specs.Text.{lines_of}
use Rattle.records.specs.Records.{record_fields}
use Rattle.format.specs.Format.{is_empty, is_printable, line_at}
use Rattle.dispute_lines.specs.declared.DisputeField.{DisputeField}
use Rattle.dispute_lines.specs.declared.CodeField.{CodeField}
use Rattle.dispute_lines.specs.declared.DisputeReply.{DisputeReply}

-- the number of the refusal, 0 where there is none, and the eleven fields
pub record Reading : Type 0 where
  pub number : ℕ
  pub fields : List (List ℕ)

abbrev pub reading : ℕ → List (List ℕ) → Reading
reading number fields = record { number = number; fields = fields }

-- field k of them, counted from 1; a refusal has none, and each is empty
abbrev pub field_in : List (List ℕ) → ℕ → List ℕ
field_in fields k = get_or ([] ∷ fields) k []

-- ---- 2: "as that test does for bytes and field count, or if field 1 isn't TBD"
unfoldable pub is_no_dispute : List ℕ → Bool
is_no_dispute line =
    some_below (λ (i : ℕ). not (is_printable (get_or line i 0))) (length line)
    || (not (eqb (length (record_fields line)) 11) || not (same_bytes (field_in (record_fields line) 1) (written "TBD")))

-- "or bytes follow the line's end": there is just one line. No bytes are no line.
unfoldable pub is_one_line : List ℕ → Bool
is_one_line bytes = eqb (length (lines_of bytes)) 1

-- ---- 3: "every field that isn't empty fits its type", by Table 4-14. "Transaction and Record IDs are unsigned (a minus misses the type)"
unfoldable pub fits_dispute : List (List ℕ) → Bool
fits_dispute fields =
    fits_type RecordId (field_in fields 2)  -- Transaction ID
    && (fits_type (Digits 9) (field_in fields 3)  -- Sender ID
    && (fits_type (Digits 4) (field_in fields 4)  -- Distributor ID
    && (fits_type DateTime (field_in fields 5)  -- Date Created
    && (fits_type RecordId (field_in fields 6)  -- Tariff Bill File Record ID
    && (fits_type (Digits 13) (field_in fields 7)  -- Site ID
    && (fits_type RecordId (field_in fields 8)  -- Tariff Bill Period Record ID
    && (fits_type RecordId (field_in fields 9)  -- Record ID
    && (fits_type RecordId (field_in fields 10)  -- One-Time Charge Record ID
    && fits_type (Num 4 0) (field_in fields 11)))))))))  -- Dispute Code

unfoldable pub read_fields : List (List ℕ) → Reading
read_fields fields = cond (fits_dispute fields) (reading 0 fields) (reading 3 [])

unfoldable pub read_line : List ℕ → Reading
read_line line = cond (is_no_dispute line) (reading 2 []) (read_fields (record_fields line))

unfoldable pub read_dispute : List ℕ → Reading
read_dispute bytes = cond (is_one_line bytes) (read_line (line_at (lines_of bytes) 0)) (reading 2 [])

-- ---- what a host is told: of each field whether it is filled, and its number
unfoldable pub field_said : List ℕ → DisputeField
field_said s = cond (is_empty s) (record { filled = 0; value = 0 }) (record { filled = 1; value = number_of s })

unfoldable pub code_said : List ℕ → CodeField
code_said s = cond (is_empty s) (record { filled = 0; value = pos 0 }) (record { filled = 1; value = or_zero (amount_of 4 0 s) })

abbrev pub dispute_reply : Reading → DisputeReply
dispute_reply r =
    record {
      number = r.number;
      transaction = field_said (field_in r.fields 2);
      retailer = field_said (field_in r.fields 3);
      distributor = field_said (field_in r.fields 4);
      created = field_said (field_in r.fields 5);
      file = field_said (field_in r.fields 6);
      site = field_said (field_in r.fields 7);
      period = field_said (field_in r.fields 8);
      child = field_said (field_in r.fields 9);
      charge = field_said (field_in r.fields 10);
      code = code_said (field_in r.fields 11);
    }
