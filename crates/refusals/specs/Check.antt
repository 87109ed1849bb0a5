-- Check: the first refusal of a list of refusals in document 01's order. "Each test is finished over the whole file before the next begins".
-- Assumes nothing.
use Rattle.std.specs.Prelude.{ℕ, ◌-◌, ◌%◌, List, [], ◌∷◌, ◌++◌, map, Bool, not, ◌&&◌, ◌||◌, length, eqb, leb, ltb}
use Rattle.digits.specs.Digits.{all_digits}
use Rattle.amounts.specs.declared.Amount.{Amount}
use Rattle.records.specs.Text.{lines_of}
use Rattle.tables.specs.Types.{SH, TH, DU, CH, OC, FT}
use Rattle.columns.specs.Columns.{number_in, charge_in, usage_in, record_type, record_id, parent_id, site, start_day, end_day, cancel}
use Rattle.tables.specs.Groups.{parent_places, picked, all_places, ones}
use Rattle.format.specs.Format.{line_at, first_unformatted, first_unfit, first_misplaced, first_unfilled, first_miscoded}
use Rattle.format.specs.Conditional.{first_unpopulated}
use Rattle.identity.specs.Identity.{first_repeated, first_unlike}
use Rattle.headers.specs.Headers.{is_ours, is_listed, counts_records}
use Rattle.periods.specs.Periods.{period_columns, first_reversed, first_overlapping}
use Rattle.totals.specs.Totals.{first_wrong_total}
use Rattle.refusals.specs.declared.Outcome.{Outcome}
use Rattle.refusals.specs.Refusals.{Refusal, at_line, house, at_record, first_refusal}

-- ════ the columns of a file's lines

abbrev pub numbers : ℕ → List (List ℕ) → List ℕ
numbers column lines = map (number_in column) lines

abbrev pub types : List (List ℕ) → List ℕ
types lines = numbers record_type lines

abbrev pub charges : List (List ℕ) → List Amount
charges lines = map charge_in lines

abbrev pub usages : List (List ℕ) → List Amount
usages lines = map usage_in lines

-- a column's values in the records of the types `low` to `high`, 0 in the others
abbrev pub sites_of : ℕ → ℕ → List (List ℕ) → List ℕ
sites_of low high lines = picked (types lines) (numbers site lines) low high

abbrev pub parents_of : ℕ → ℕ → List (List ℕ) → List ℕ
parents_of low high lines = picked (types lines) (parent_places (types lines)) low high

abbrev pub places_of : ℕ → ℕ → List (List ℕ) → List ℕ
places_of low high lines = picked (types lines) (all_places (length lines)) low high

abbrev pub ones_of : ℕ → ℕ → List (List ℕ) → List ℕ
ones_of low high lines = picked (types lines) (ones (length lines)) low high

-- ════ the tests, in the order they are run

-- "A file of no bytes fails at line 1": it has no lines
unfoldable pub format_refusals : List (List ℕ) → List Refusal
format_refusals lines =
    at_line 2 1 (eqb (length lines) 0)
    ∷ at_record 2 (length lines) (first_unformatted lines)
    ∷ at_record 3 (length lines) (first_unfit lines)
    ∷ []

-- request 2: "Checks: 6, at the failing record's line, after 5 and before 7."
unfoldable pub order_refusals : List (List ℕ) → List Refusal
order_refusals lines =
    at_record 4 (length lines) (first_misplaced (types lines))
    ∷ at_record 5 (length lines) (first_unfilled lines)
    ∷ at_record 6 (length lines) (first_unpopulated lines)
    ∷ at_record 7 (length lines) (first_miscoded lines)
    ∷ []

unfoldable pub identity_refusals : List (List ℕ) → List Refusal
identity_refusals lines =
    at_record 9 (length lines) (first_repeated (numbers record_id lines))
    ∷ at_record 10 (length lines) (first_unlike (parent_places (types lines)) (numbers parent_id lines) (numbers record_id lines))
    ∷ []

-- 11 and 12 read FH, which test 4 puts on line 1
unfoldable pub header_refusals : ℕ → List ℕ → List ℕ → List Refusal
header_refusals retailer distributors header = at_line 11 1 (not (is_ours retailer header)) ∷ at_line 12 1 (not (is_listed distributors header)) ∷ []

unfoldable pub period_refusals : List (List ℕ) → List Refusal
period_refusals lines =
    at_record 14 (length lines) (first_reversed (numbers start_day lines) (numbers end_day lines))
    ∷ at_record 17 (length lines) (first_unlike (parents_of DU CH lines) (numbers cancel lines) (numbers cancel lines))
    ∷ at_record 18 (length lines) (first_overlapping (period_columns (types lines) (numbers site lines) (numbers start_day lines) (numbers end_day lines) (numbers cancel lines)))
    ∷ []

-- 29, 30: by Site ID
unfoldable pub site_refusals : List (List ℕ) → List Refusal
site_refusals lines =
    at_record 29 (length lines) (first_wrong_total (sites_of DU DU lines) (sites_of SH SH lines) (usages lines))
    ∷ at_record 30 (length lines) (first_wrong_total (sites_of CH OC lines) (sites_of SH SH lines) (charges lines))
    ∷ []

-- 31, 32: by the TH that a record hangs under
unfoldable pub period_total_refusals : List (List ℕ) → List Refusal
period_total_refusals lines =
    at_record 31 (length lines) (first_wrong_total (parents_of DU DU lines) (places_of TH TH lines) (usages lines))
    ∷ at_record 32 (length lines) (first_wrong_total (parents_of CH CH lines) (places_of TH TH lines) (charges lines))
    ∷ []

-- 33 and 34 read FT, which test 4 puts on the last line
unfoldable pub trailer_refusals : List (List ℕ) → List Refusal
trailer_refusals lines =
    at_line 33 (length lines) (not (counts_records (line_at lines (length lines - 1)) (length lines)))
    ∷ at_record 34 (length lines) (first_wrong_total (ones_of CH OC lines) (ones_of FT FT lines) (charges lines))
    ∷ []

unfoldable pub child_refusals : List (List ℕ) → List Refusal
child_refusals lines = at_record 38 (length lines) (first_unlike (parents_of TH OC lines) (numbers site lines) (numbers site lines)) ∷ []

-- in document 01's order
unfoldable pub total_refusals : List (List ℕ) → List Refusal
total_refusals lines = site_refusals lines ++ (period_total_refusals lines ++ (trailer_refusals lines ++ child_refusals lines))

unfoldable pub column_refusals : ℕ → List ℕ → List (List ℕ) → List Refusal
column_refusals retailer distributors lines =
    order_refusals lines ++ (identity_refusals lines ++ (header_refusals retailer distributors (line_at lines 0) ++ (period_refusals lines ++ total_refusals lines)))

unfoldable pub test_refusals : ℕ → List ℕ → List (List ℕ) → List Refusal
test_refusals retailer distributors lines = format_refusals lines ++ column_refusals retailer distributors lines

-- the same list in two parts (proofs/Outcomes, `tests_parts`): Book may put a refusal of its own between them
unfoldable pub tests_to12 : ℕ → List ℕ → List (List ℕ) → List Refusal
tests_to12 retailer distributors lines =
    format_refusals lines ++ (order_refusals lines ++ (identity_refusals lines ++ header_refusals retailer distributors (line_at lines 0)))

unfoldable pub tests_from14 : List (List ℕ) → List Refusal
tests_from14 lines = period_refusals lines ++ total_refusals lines

-- ════ Check

-- "Settings are a retailer number and distributor IDs as bytes, four digits each. 104 if the number exceeds 999,999,999 or the ID bytes
-- aren't 1 to 32 whole groups of four digits"
unfoldable pub settings_fit : ℕ → List ℕ → Bool
settings_fit retailer distributors =
    leb retailer 999999999 && leb 4 (length distributors) && leb (length distributors) 128 && eqb (length distributors % 4) 0 && all_digits distributors

-- "A file has at most 1,048,576 bytes and 4,096 lines"
unfoldable pub is_too_large : List ℕ → Bool
is_too_large file = ltb 1048576 (length file) || ltb 4096 (length (lines_of file))

-- "104 ..; 103 if the file exceeds its bytes or its lines; then tests 2 to 38"
abbrev pub check_refusals : ℕ → List ℕ → List ℕ → List Refusal
check_refusals retailer distributors file =
    house 104 (not (settings_fit retailer distributors)) ∷ house 103 (is_too_large file) ∷ test_refusals retailer distributors (lines_of file)

unfoldable pub check_of : ℕ → List ℕ → List ℕ → Outcome
check_of retailer distributors file = first_refusal (check_refusals retailer distributors file)
