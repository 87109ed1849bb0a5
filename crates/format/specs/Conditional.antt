-- Test 6 of Table 5-1: Conditional fields. Document 02, request 2: "Add test 6 for every field marked Conditional whose condition reads only fields of the same
-- record or of its FH, SH or TH, as Tables 4-2 to 4-10 word it." docs/DECISIONS.md has the fields that "stay untested", each with its reason.
-- Assumes nothing.
use Rattle.std.specs.Prelude.{ℕ, List, [], ◌∷◌, Bool, false, ◌&&◌, ◌||◌, length, get_or, eqb, pos, negsuc}
use Prim.Native.String.{String}
use Rattle.lists.specs.Below.{first_below, nearest_below}
use Rattle.lists.specs.Bytes.{same_bytes}
use Rattle.lists.specs.Written.{written}
use Rattle.amounts.specs.declared.Amount.{Amount}
use Rattle.amounts.specs.declared.Amount.TheVariants.{Missing, Value as Units, Misses}
use Rattle.amounts.specs.Amounts.{amount_of}
use Rattle.tables.specs.Types.{TH, DU, DD, OC, among}
use Rattle.records.specs.Records.{field, type_in}
use Rattle.format.specs.Format.{line_at, is_empty, cancel_fields}

-- ---- conditions: of a record's line, and of the line of its TH
abbrev pub Condition : Type 0
Condition = List ℕ → List ℕ → Bool

-- field k of a line is a code, byte for byte
abbrev pub has_code : ℕ → String → List ℕ → Bool
has_code k code line = same_bytes (field k line) (written code)

-- "If Cancel Indicator = "Y" this field is mandatory"
unfoldable pub is_cancel : Condition
is_cancel line period = has_code (get_or cancel_fields (type_in line) 0) "Y" line

-- "If Meter Type Code = "C" this field is mandatory."
unfoldable pub has_cumulative_meter : Condition
has_cumulative_meter line period = has_code 8 "C" line

-- the Site Status Code of a TH is E
abbrev pub is_energized : List ℕ → Bool
is_energized period = has_code 11 "E" period

-- "If Site Status Code = "E" and Meter Type Code = "C" this field is mandatory."
unfoldable pub is_metered_while_energized : Condition
is_metered_while_energized line period = is_energized period && has_code 8 "C" line

-- "If Demand Type Code = "Ratchet," "Transmission Ratchet," "Distribution Ratchet" or "Service Ratchet" this field is mandatory", as A5.15 numbers them
abbrev pub ratchets : List ℕ
ratchets = 4100 ∷ 4110 ∷ 4120 ∷ 4200 ∷ []

abbrev pub is_one_of : List ℕ → Amount → Bool
is_one_of ns Missing = false
is_one_of ns (Units (pos n)) = among n ns
is_one_of ns (Units (negsuc n)) = false
is_one_of ns Misses = false

-- Demand Type Code is a Number(4), compared by value
unfoldable pub is_ratchet : Condition
is_ratchet line period = is_one_of ratchets (amount_of 4 0 (field 8 line))

-- ---- the fields tested, each with the record type whose table has it, its number there, and its condition
pub record ConditionalField : Type 0 where
  pub type : ℕ
  pub number : ℕ
  pub holds : Condition

abbrev pub field_if : ℕ → ℕ → Condition → ConditionalField
field_if type number holds = record { type = type; number = number; holds = holds }

abbrev pub conditional_fields : List ConditionalField
conditional_fields =
    field_if TH 8 is_cancel  -- Tariff Bill Period Reference ID
    ∷ field_if TH 9 is_cancel  -- Cancel Reason Code
    ∷ field_if DU 9 has_cumulative_meter  -- Meter Number
    ∷ field_if DU 10 is_metered_while_energized  -- Number of Dials
    ∷ field_if DU 11 is_metered_while_energized  -- From Reading
    ∷ field_if DU 12 is_metered_while_energized  -- From Reading Code
    ∷ field_if DU 13 is_metered_while_energized  -- To Reading
    ∷ field_if DU 14 is_metered_while_energized  -- To Reading Code
    ∷ field_if DU 15 is_metered_while_energized  -- Billing Multiplier
    ∷ field_if DD 12 is_ratchet  -- Ratchet Date Time
    ∷ field_if DD 13 is_ratchet  -- Ratchet Period Months
    ∷ field_if OC 7 is_cancel  -- One-Time Charge Reference ID
    ∷ field_if OC 8 is_cancel  -- Cancel Reason Code
    ∷ []

-- ---- the test
-- "FH, SH and TH are the nearest before": the line of the nearest TH before the record at i, and no bytes where there is none. No condition above reads FH or SH.
unfoldable pub period_before : List (List ℕ) → ℕ → List ℕ
period_before lines i = get_or ([] ∷ lines) (nearest_below (λ (j : ℕ). eqb (type_in (line_at lines j)) TH) i) []

-- "It fails exactly where such a condition holds and the field is empty."
abbrev pub lacks : ConditionalField → List ℕ → List ℕ → Bool
lacks f line period = eqb (type_in line) f.type && (f.holds line period && is_empty (field f.number line))

unfoldable pub lacks_one_of : List ConditionalField → List ℕ → List ℕ → Bool
lacks_one_of [] line period = false
lacks_one_of (f ∷ fs) line period = lacks f line period || lacks_one_of fs line period

unfoldable pub unpopulated : List ℕ → List ℕ → Bool
unpopulated line period = lacks_one_of conditional_fields line period

unfoldable pub first_unpopulated : List (List ℕ) → ℕ
first_unpopulated lines = first_below (λ (i : ℕ). unpopulated (line_at lines i) (period_before lines i)) (length lines)
