-- What an accepted file says: its own entry, and its TH and OC as records, in file order. Booking rests on this.
-- Document 01, "The ledger": "A period's charge and usage are its TH's totals, a one-time charge's charge is its Charge Amount; days and usage
-- are kept for periods only. Fields that a kind lacks are 0; a file entry has its trailer charge total". An amount that is missing counts as zero.
-- Assumes nothing.
use Rattle.std.specs.Prelude.{ℕ, suc, ◌-◌, List, [], ◌∷◌, map, Bool, cond, ◌||◌, length, eqb, ℤ, pos}
use Rattle.std.specs.Prelude.{Option, unwrap_or}
use Rattle.lists.specs.Bytes.{same_bytes}
use Rattle.lists.specs.Selections.{filter, sum}
use Rattle.lists.specs.Written.{written}
use Rattle.digits.specs.Digits.{digits_of}
use Rattle.calendar.specs.Calendar.{day_of}
use Rattle.amounts.specs.Amounts.{or_zero}
use Rattle.tables.specs.Types.{TH, OC}
use Rattle.records.specs.Records.{field, type_in}
use Rattle.columns.specs.Columns.{field_in, charge_in, usage_in, site, reference, start_day, end_day, cancel}
use Rattle.format.specs.Format.{line_at}

-- ---- records
-- a TH (kind 2, a period) or an OC (kind 3, a one-time charge) of a file
pub record Bill : Type 0 where
  pub sender : ℕ
  pub commodity : ℕ
  -- the Record ID of its FH
  pub file_id : ℕ
  pub kind : ℕ
  pub record_id : ℕ
  pub site : ℕ
  pub start : ℕ
  pub end : ℕ
  pub charge : ℤ
  pub usage : ℤ
  -- Indicator Y
  pub cancel : Bool
  -- "an empty one names none"
  pub reference : Option ℕ

-- a file: what its own entry has, and its TH and OC
pub record BillFile : Type 0 where
  pub sender : ℕ
  pub commodity : ℕ
  pub record_id : ℕ
  pub total : ℤ
  pub bills : List Bill
  -- the line of each of them, counted from 1
  pub lines : List ℕ

-- ---- what the fields say
abbrev pub number_or_zero : Option ℕ → ℕ
number_or_zero x = unwrap_or x 0

-- FH's Sender ID, and its Commodity Code as "1 EL, 2 NG"
abbrev pub sender_in : List ℕ → ℕ
sender_in header = number_or_zero (digits_of (field 5 header))

abbrev pub commodity_in : List ℕ → ℕ
commodity_in header = cond (same_bytes (field 6 header) (written "EL")) 1 2

abbrev pub id_in : List ℕ → ℕ
id_in line = number_or_zero (digits_of (field 1 line))

abbrev pub is_period : List ℕ → Bool
is_period line = eqb (type_in line) TH

abbrev pub is_bill : List ℕ → Bool
is_bill line = is_period line || eqb (type_in line) OC

unfoldable pub bill_in : List ℕ → List ℕ → Bill
bill_in header line =
    record {
      sender = sender_in header;
      commodity = commodity_in header;
      file_id = id_in header;
      kind = cond (is_period line) 2 3;
      record_id = id_in line;
      site = number_or_zero (digits_of (field_in site line));
      start = cond (is_period line) (number_or_zero (day_of (field_in start_day line))) 0;
      end = cond (is_period line) (number_or_zero (day_of (field_in end_day line))) 0;
      charge = or_zero (charge_in line);
      usage = cond (is_period line) (or_zero (usage_in line)) (pos 0);
      cancel = same_bytes (field_in cancel line) (written "Y");
      reference = digits_of (field_in reference line);
    }

unfoldable pub bills_in : List (List ℕ) → List Bill
bills_in lines = map (bill_in (line_at lines 0)) (filter is_bill lines)

-- the lines of the TH and OC, where n lines stand before
unfoldable pub bill_lines : ℕ → List (List ℕ) → List ℕ
bill_lines n [] = []
bill_lines n (line ∷ rest) = cond (is_bill line) (suc n ∷ bill_lines (suc n) rest) (bill_lines (suc n) rest)

-- FH is the first line and FT the last
unfoldable pub bill_file : List (List ℕ) → BillFile
bill_file lines =
    record {
      sender = sender_in (line_at lines 0);
      commodity = commodity_in (line_at lines 0);
      record_id = id_in (line_at lines 0);
      total = or_zero (charge_in (line_at lines (length lines - 1)));
      bills = bills_in lines;
      lines = bill_lines 0 lines;
    }

abbrev pub sum_of_charges : List Bill → ℤ
sum_of_charges bills = sum (λ (b : Bill). b.charge) bills
