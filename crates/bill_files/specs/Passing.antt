-- What tests 2 to 38 ask of the lines of a file, for an auditor: one field for each test, in document 01's order.
-- Fields, types and IDs are those of the lines themselves; `check_passes` (proofs/Passing) says that Check passes just the files that have all this.
-- Assumes nothing.
use Rattle.std.specs.Prelude.{ℕ, zero, suc, ◌-◌, ◌≤◌, ◌<◌, ◌≡◌, List, Bool, false, cond, ◌&&◌, length, eqb, leb, ℤ, pos, ◌+ℤ◌}
use Rattle.lists.specs.Bytes.{same_bytes}
use Rattle.lists.specs.Written.{written}
use Rattle.std.specs.Prelude.{Option, Some}
use Rattle.digits.specs.Digits.{digits_of, fixed_digits_of}
use Rattle.calendar.specs.Calendar.{day_of}
use Rattle.amounts.specs.declared.Amount.{Amount}
use Rattle.amounts.specs.Amounts.{amount_of, or_zero}
use Rattle.tables.specs.Types.{SH, TH, DU, CH, OC, FT, parent_type}
use Rattle.records.specs.Records.{field, type_in}
use Rattle.columns.specs.Columns.{field_in, charge_in, usage_in, record_id, parent_id, site, start_day, end_day, cancel}
use Rattle.tables.specs.Groups.{parent_place}
use Rattle.format.specs.Format.{line_at, unit_of}
use Rattle.format.specs.Conditional.{period_before}
use Rattle.format.specs.Meaning.{Formatted, Fitting, Ordered, Filled, Populated, Coded}
use Rattle.headers.specs.Headers.{is_value}
use Rattle.headers.specs.Meaning.{Listed}
use Rattle.refusals.specs.Check.{types}

-- ---- what the fields of the record below speak of
abbrev pub type_at : List (List ℕ) → ℕ → ℕ
type_at lines i = type_in (line_at lines i)

-- an ID of the record at i; an empty field has none
abbrev pub id_at : ℕ → List (List ℕ) → ℕ → Option ℕ
id_at column lines i = digits_of (field_in column (line_at lines i))

-- Cancel Indicator Y
abbrev pub is_cancel_at : List (List ℕ) → ℕ → Bool
is_cancel_at lines i = same_bytes (field_in cancel (line_at lines i)) (written "Y")

-- the day of a date of the record at i; an empty field has none
abbrev pub date_at : ℕ → List (List ℕ) → ℕ → Option ℕ
date_at column lines i = day_of (field_in column (line_at lines i))

-- the amounts of the record at i
abbrev pub charge_at : List (List ℕ) → ℕ → Amount
charge_at lines i = charge_in (line_at lines i)

abbrev pub usage_at : List (List ℕ) → ℕ → Amount
usage_at lines i = usage_in (line_at lines i)

-- the record at j is the nearest before the one at i that has the type under which its own hangs
pub record Under (lines : List (List ℕ)) (i j : ℕ) : Type 0 where
  pub before : j < i
  pub type : type_at lines j ≡ parent_type (type_at lines i)
  pub nearest : (k : ℕ) → j < k → k < i → type_at lines k ≡ parent_type (type_at lines i) → ⊥

-- the record at i has one of the types `low` to `high`, and hangs under the one at j
abbrev pub OfTypeUnder : ℕ → ℕ → List (List ℕ) → ℕ → ℕ → Type 0
OfTypeUnder low high lines i j = (low ≤ type_at lines i) × (type_at lines i ≤ high) × Under lines i j

-- the N period at i has the day d, and lies within the current billing period of the SH at h of its site
pub record Chosen (lines : List (List ℕ)) (h i d : ℕ) : Type 0 where
  pub header : type_at lines h ≡ SH
  pub period : type_at lines i ≡ TH
  pub original : is_cancel_at lines i ≡ false
  pub same_site : id_at site lines h ≡ id_at site lines i
  pub from : ℕ
  pub to : ℕ
  pub start : ℕ
  pub end : ℕ
  pub billing_start : date_at start_day lines h ≡ Some from
  pub billing_end : date_at end_day lines h ≡ Some to
  pub period_start : date_at start_day lines i ≡ Some start
  pub period_end : date_at end_day lines i ≡ Some end
  pub within : (from ≤ start) × (end ≤ to)
  pub has_day : (start ≤ d) × (d ≤ end)

-- ---- sums over the first n records. Request 1: "All sums still count missing as zero"
unfoldable pub sum_of : (ℕ → Bool) → (ℕ → Amount) → ℕ → ℤ
sum_of counts amount zero = pos 0
sum_of counts amount (suc n) = sum_of counts amount n +ℤ cond (counts n) (or_zero (amount n)) (pos 0)

-- the record at k has one of the types `low` to `high`
abbrev pub is_of_type : ℕ → ℕ → List (List ℕ) → ℕ → Bool
is_of_type low high lines k = leb low (type_at lines k) && leb (type_at lines k) high

-- and the Site ID s
abbrev pub is_of_site : ℕ → ℕ → List (List ℕ) → ℕ → ℕ → Bool
is_of_site low high lines s k = is_of_type low high lines k && is_value s (id_at site lines k)

-- and hangs under the record at i; `parent_place` is the place and one, and 0 where there is none (`under_is` in proofs/Passing)
abbrev pub is_own : ℕ → ℕ → List (List ℕ) → ℕ → ℕ → Bool
is_own low high lines i k = is_of_type low high lines k && eqb (parent_place (types lines) k) (suc i)

-- ---- the tests
pub record Passing (retailer : ℕ) (distributors : List ℕ) (lines : List (List ℕ)) : Type 0 where
  -- 2: "A file of no bytes fails at line 1"
  pub some_line : 0 < length lines
  -- 2: "every byte within a line is 32 to 126; field 3 is a known type; the field count is its table's. An empty line fails."
  pub formatted : (i : ℕ) → i < length lines → Formatted (line_at lines i)
  -- 3: "every field that isn't empty fits its type."
  pub fitting : (i : ℕ) → i < length lines → Fitting (line_at lines i)
  -- 4: "which type may follow which is a fixed table: .. The first line is FH .. and the last FT .."
  pub ordered : Ordered lines
  -- 5: "Mandatory fields are filled, but FH's Parent ID, called mandatory, must be empty."
  pub filled : (i : ℕ) → i < length lines → Filled (line_at lines i)
  -- 6: request 2: "It fails exactly where such a condition holds and the field is empty."
  pub populated : (i : ℕ) → i < length lines → Populated (line_at lines i) (period_before lines i)
  -- 7: "Commodity Code is EL or NG; Usage UOM is KWH for EL and GJ for NG; Cancel Indicator and GST exemption are Y or N. Other codes pass."
  pub coded : (i : ℕ) → i < length lines → Coded (unit_of (line_at lines 0)) (line_at lines i)
  -- 9: "no Record ID repeats in the file (the later line fails)."
  pub distinct : (i j : ℕ) → i < j → j < length lines → id_at record_id lines i ≡ id_at record_id lines j → ⊥
  -- 10: "Parent ID is the Record ID of the nearest preceding FH (for SH, FT), SH (TH, OC) or TH (DU, DD, DM, CH)."
  pub parents : (i j : ℕ) → i < length lines → Under lines i j → id_at parent_id lines i ≡ id_at record_id lines j
  -- 11: "FH's retailer is ours;"
  pub ours : fixed_digits_of 9 (field 4 (line_at lines 0)) ≡ Some retailer
  -- 12: "its sender is listed in the settings."
  pub listed : Listed distributors (line_at lines 0)
  -- 14: "no start date is after its end date, where both are filled."
  pub in_order : (i start end : ℕ) → i < length lines → date_at start_day lines i ≡ Some start → date_at end_day lines i ≡ Some end → start ≤ end
  -- 17: "DU, DD, DM and CH carry their TH's Cancel Indicator."
  pub same_indicator : (i j : ℕ) → i < length lines → OfTypeUnder DU CH lines i j → is_cancel_at lines i ≡ is_cancel_at lines j
  -- 18: "no two N periods of a site, both lying within the current billing period of one and the same SH of that site, share a day
  -- (the later line fails). An SH with an empty billing date chooses none."
  pub no_shared_day : (i j h d : ℕ) → i < j → j < length lines → h < length lines → Chosen lines h i d → Chosen lines h j d → ⊥
  -- 29: "for each SH, its usage total is the sum of Usage Amount, .. over all the file's records of that Site ID, including those under another SH."
  pub site_usage : (i s : ℕ) → i < length lines → type_at lines i ≡ SH → id_at site lines i ≡ Some s → or_zero (usage_at lines i) ≡ sum_of (is_of_site DU DU lines s) (usage_at lines) (length lines)
  -- 30: "and its charge total the sum of Charge Amount in CH and OC, over all the file's records of that Site ID"
  pub site_charge : (i s : ℕ) → i < length lines → type_at lines i ≡ SH → id_at site lines i ≡ Some s → or_zero (charge_at lines i) ≡ sum_of (is_of_site CH OC lines s) (charge_at lines) (length lines)
  -- 31: "TH's usage .. totals are the sums over its own DU"
  pub period_usage : (i : ℕ) → i < length lines → type_at lines i ≡ TH → or_zero (usage_at lines i) ≡ sum_of (is_own DU DU lines i) (usage_at lines) (length lines)
  -- 32: "TH's .. charge totals are the sums over its own .. CH."
  pub period_charge : (i : ℕ) → i < length lines → type_at lines i ≡ TH → or_zero (charge_at lines i) ≡ sum_of (is_own CH CH lines i) (charge_at lines) (length lines)
  -- 33: "FT's record count (as Table 4-10 counts)"
  pub record_count : or_zero (amount_of 9 0 (field 4 (line_at lines (length lines - 1)))) ≡ pos (length lines)
  -- 34: "and the sum of Charge Amount in all CH and OC."
  pub file_charge_lem : (i : ℕ) → i < length lines → type_at lines i ≡ FT → or_zero (charge_at lines i) ≡ sum_of (is_of_type CH OC lines) (charge_at lines) (length lines)
  -- 38: "the Site ID equals the parent's, wherever both have one." Those are the records from TH to OC, and their SH or TH.
  pub same_site : (i j : ℕ) → i < length lines → OfTypeUnder TH OC lines i j → id_at site lines i ≡ id_at site lines j
