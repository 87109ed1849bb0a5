-- The places of a line's fields, and what is found in a `Record`.
-- Assumes nothing.
use Rattle.std.specs.Prelude.{ℕ, ◌≤◌, ◌≡◌, List, [], ◌∷◌, length, get_or, take}
use Rattle.records.specs.InsidePlacedLines.{parts, Placed}
use Rattle.records.specs.declared.Record.{Record}
use Rattle.records.specs.Records.{record_fields, type_in}

-- ---- fields by their places
-- the number after k - 1 others, and 0 where there is none
unfoldable pub number_among : List ℕ → ℕ → ℕ
number_among numbers k = get_or (0 ∷ numbers) k 0

-- field k of a record's fields; empty where there is none
unfoldable pub field_among : List (List ℕ) → ℕ → List ℕ
field_among fields k = get_or ([] ∷ fields) k []

-- the fields that stand in s at the first `count` places
abbrev pub fields_at : List ℕ → ℕ → List ℕ → List ℕ → List (List ℕ)
fields_at s count bs es = parts s (take count bs) (take count es)

abbrev pub FieldsPlaced : List ℕ → ℕ → List ℕ → List ℕ → Type 0
FieldsPlaced s count bs es = (count ≤ 24) × Placed s count bs es (fields_at s count bs es)

-- r is the record of a line of s
pub record RecordFound (s line : List ℕ) (r : Record) : Type 0 where
  pub type : r.record_type ≡ type_in line
  pub placed : Placed s r.count r.starts r.ends (record_fields line)
  pub few : r.count ≤ 24
  pub starts : length r.starts ≡ 24
  pub ends : length r.ends ≡ 24
