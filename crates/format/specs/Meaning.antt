-- What tests 2 to 7 ask for, in plain terms. `test_2` to `test_7` (proofs/Meaning, and proofs/Conditional for 6) say that exactly these lines pass.
-- Assumes nothing.
use Rattle.std.specs.Prelude.{ℕ, ◌+◌, ◌-◌, ◌≤◌, ◌<◌, ◌≡◌, ◌⊎◌, true, List, [], length, get_or, pos}
use Rattle.lists.specs.Written.{written}
use Rattle.amounts.specs.declared.Amount.TheVariants.{Value as Units}
use Rattle.amounts.specs.Amounts.{amount_of}
use Rattle.fields.specs.Fields.{fits_type}
use Rattle.records.specs.Text.{fields_of}
use Rattle.tables.specs.Types.{FH, TH, DU, DD, OC, FT, may_follow}
use Rattle.records.specs.Records.{record_fields, field, type_in}
use Rattle.tables.specs.Tables.{field_count, field_type, is_mandatory}
use Rattle.format.specs.Format.{line_at, commodity_fields, unit_fields, cancel_fields, exemption_fields}

-- ---- 2: "every byte within a line is 32 to 126; field 3 is a known type; the field count is its table's."
pub record Formatted (line : List ℕ) : Type 0 where
  pub printable : (k : ℕ) → k < length line → (32 ≤ get_or line k 0) × (get_or line k 0 ≤ 126)
  pub known : type_in line < 9
  pub count : length (fields_of line) ≡ field_count (type_in line)

-- ---- 3: "every field that isn't empty fits its type."; fields are counted from 1 in the tables, and k from 0
abbrev pub Fitting : List ℕ → Type 0
Fitting line = (k : ℕ) → k < length (record_fields line) → fits_type (field_type (type_in line) k) (field (k + 1) line) ≡ true

-- ---- 4: "The first line is FH .. and the last FT", and each other may follow the one before it; of the lines of a file that has one
pub record Ordered (lines : List (List ℕ)) : Type 0 where
  pub first : type_in (line_at lines 0) ≡ FH
  pub last : type_in (line_at lines (length lines - 1)) ≡ FT
  pub follows : (i : ℕ) → i + 1 < length lines → may_follow (type_in (line_at lines i)) (type_in (line_at lines (i + 1))) ≡ true

-- ---- 5: "Mandatory fields are filled, but FH's Parent ID, called mandatory, must be empty." It is field 2, which stands after one other.
pub record Filled (line : List ℕ) : Type 0 where
  pub filled : (k : ℕ) → k < length (record_fields line) → is_mandatory (type_in line) k ≡ true → ((type_in line ≡ FH) × (k ≡ 1) → ⊥) → field (k + 1) line ≡ [] → ⊥
  pub parent : type_in line ≡ FH → field 2 line ≡ []

-- ---- 6: "It fails exactly where such a condition holds and the field is empty."
-- no field of a line from `low` to `high` is empty
abbrev pub AllFilled : ℕ → ℕ → List ℕ → Type 0
AllFilled low high line = (k : ℕ) → low ≤ k → k ≤ high → field k line ≡ [] → ⊥

-- of a line, and of the line of its TH
pub record Populated (line period : List ℕ) : Type 0 where
  -- Table 4-4, 8 and 9: "If Cancel Indicator = "Y" this field is mandatory"
  pub cancelled_period : type_in line ≡ TH → field 7 line ≡ written "Y" → AllFilled 8 9 line
  -- Table 4-5, 9: "If Meter Type Code = "C" this field is mandatory."
  pub meter : type_in line ≡ DU → field 8 line ≡ written "C" → AllFilled 9 9 line
  -- Table 4-5, 10 to 15: "If Site Status Code = "E" and Meter Type Code = "C" this field is mandatory."
  pub readings : type_in line ≡ DU → field 11 period ≡ written "E" → field 8 line ≡ written "C" → AllFilled 10 15 line
  -- Table 4-6, 12 and 13: "If Demand Type Code = "Ratchet," "Transmission Ratchet," "Distribution Ratchet" or "Service Ratchet" this field is mandatory"
  pub ratchet : type_in line ≡ DD → (n : ℕ) → amount_of 4 0 (field 8 line) ≡ Units (pos n) → (n ≡ 4100) ⊎ ((n ≡ 4110) ⊎ ((n ≡ 4120) ⊎ (n ≡ 4200))) → AllFilled 12 13 line
  -- Table 4-9, 7 and 8: "If Cancel Indicator = "Y" this field is mandatory"
  pub cancelled_charge : type_in line ≡ OC → field 6 line ≡ written "Y" → AllFilled 7 8 line

-- ---- 7: where a list of fields gives a line's type a field, P holds of it
abbrev pub Where : List ℕ → (List ℕ → Type 0) → List ℕ → Type 0
Where fields P line = (get_or fields (type_in line) 0 ≡ 0 → ⊥) → P (field (get_or fields (type_in line) 0) line)

-- "Commodity Code is EL or NG; Usage UOM is KWH for EL and GJ for NG; Cancel Indicator and GST exemption are Y or N."
pub record Coded (expected line : List ℕ) : Type 0 where
  pub commodity : Where commodity_fields (λ (s : List ℕ). (s ≡ written "EL") ⊎ (s ≡ written "NG")) line
  pub unit : Where unit_fields (λ (s : List ℕ). s ≡ expected) line
  pub cancel : Where cancel_fields (λ (s : List ℕ). (s ≡ written "Y") ⊎ (s ≡ written "N")) line
  pub exemption : Where exemption_fields (λ (s : List ℕ). (s ≡ written "Y") ⊎ (s ≡ written "N")) line
