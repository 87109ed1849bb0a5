-- Check as it was before request 1, when an empty amount was read as 0: its definition, with the reading and the sums of that time, and with the other tests as they
-- are today.
--     check_before_lem    Check answers as before, whatever the settings and the bytes
-- Assumes nothing.
use mathlib.Core.Path.{◌≡◌, refl, ◌∙◌, ap}
use mathlib.Core.Bool.{Bool, not}
use mathlib.Core.List.{List, [], ◌∷◌, ◌++◌, map}
use Prim.Native.Nat.{ℕ, ◌-◌}
use lib.IntN.{ℤ, pos}
use lib.ListN.{length}
use Rattle.amounts.specs.declared.Amount.{Amount}
use Rattle.amounts.specs.Amounts.{or_zero}
use Rattle.amounts.proofs.Before.{amount_before, units_before, counted_before}
use Rattle.records.specs.Text.{lines_of}
use Rattle.records.specs.Records.{field}
use Rattle.tables.specs.Types.{SH, TH, DU, CH, OC, FT}
use Rattle.columns.specs.Columns.{field_in, charge, usage, charge_in, usage_in}
use Rattle.format.specs.Format.{line_at}
use Rattle.headers.specs.Headers.{counts_records}
use Rattle.totals.specs.Totals.{sameℤ, first_wrong_total}
use Rattle.totals.proofs.Before.{first_wrong_total_before, total_before_lem}
use Rattle.refusals.specs.declared.Outcome.{Outcome}
use Rattle.refusals.specs.Refusals.{Refusal, at_line, house, at_record, first_refusal}
use Rattle.refusals.specs.Check.{charges, usages, sites_of, parents_of, places_of, ones_of, format_refusals, order_refusals, identity_refusals, header_refusals, period_refusals, site_refusals, period_total_refusals, trailer_refusals, child_refusals, total_refusals, column_refusals, test_refusals, tests_from14, settings_fit, is_too_large, check_of}

-- ---- the amounts of a line
abbrev pub charge_before : List ℕ → ℤ
charge_before line = units_before (amount_before 11 2 (field_in charge line))

abbrev pub usage_before : List ℕ → ℤ
usage_before line = units_before (amount_before 14 4 (field_in usage line))

pub charge_before_lem : (line : List ℕ) → or_zero (charge_in line) ≡ charge_before line
unfolding charge_in
charge_before_lem line = counted_before 11 2 (field_in charge line)

pub usage_before_lem : (line : List ℕ) → or_zero (usage_in line) ≡ usage_before line
unfolding usage_in
usage_before_lem line = counted_before 14 4 (field_in usage line)

-- ---- the tests that read them
abbrev total_before : List ℕ → List ℕ → (List ℕ → ℤ) → List (List ℕ) → ℕ
total_before members owners number lines = first_wrong_total_before members owners (map number lines)

abbrev counts_before : List ℕ → ℕ → Bool
counts_before trailer n = sameℤ (units_before (amount_before 9 0 (field 4 trailer))) (pos n)

abbrev site_refusals_before : List (List ℕ) → List Refusal
site_refusals_before lines =
    at_record 29 (length lines) (total_before (sites_of DU DU lines) (sites_of SH SH lines) usage_before lines)
    ∷ at_record 30 (length lines) (total_before (sites_of CH OC lines) (sites_of SH SH lines) charge_before lines)
    ∷ []

abbrev period_total_refusals_before : List (List ℕ) → List Refusal
period_total_refusals_before lines =
    at_record 31 (length lines) (total_before (parents_of DU DU lines) (places_of TH TH lines) usage_before lines)
    ∷ at_record 32 (length lines) (total_before (parents_of CH CH lines) (places_of TH TH lines) charge_before lines)
    ∷ []

abbrev trailer_refusals_before : List (List ℕ) → List Refusal
trailer_refusals_before lines =
    at_line 33 (length lines) (not (counts_before (line_at lines (length lines - 1)) (length lines)))
    ∷ at_record 34 (length lines) (total_before (ones_of CH OC lines) (ones_of FT FT lines) charge_before lines)
    ∷ []

abbrev total_refusals_before : List (List ℕ) → List Refusal
total_refusals_before lines = site_refusals_before lines ++ (period_total_refusals_before lines ++ (trailer_refusals_before lines ++ child_refusals lines))

abbrev pub tests_from14_before : List (List ℕ) → List Refusal
tests_from14_before lines = period_refusals lines ++ total_refusals_before lines

abbrev test_refusals_before : ℕ → List ℕ → List (List ℕ) → List Refusal
test_refusals_before retailer distributors lines =
    format_refusals lines
    ++ (order_refusals lines ++ (identity_refusals lines ++ (header_refusals retailer distributors (line_at lines 0) ++ (period_refusals lines ++ total_refusals_before lines))))

abbrev pub check_before : ℕ → List ℕ → List ℕ → Outcome
check_before retailer distributors file =
    first_refusal (house 104 (not (settings_fit retailer distributors)) ∷ house 103 (is_too_large file) ∷ test_refusals_before retailer distributors (lines_of file))

-- ---- they answer the same
numbers_before : (f : List ℕ → Amount) (g : List ℕ → ℤ) → ((line : List ℕ) → or_zero (f line) ≡ g line) → (lines : List (List ℕ)) → map or_zero (map f lines) ≡ map g lines
numbers_before f g same [] = refl
numbers_before f g same (line ∷ lines) = rw (same line, numbers_before f g same lines)

module _ (lines : List (List ℕ)) (members owners : List ℕ) where
  charges_before : first_wrong_total members owners (charges lines) ≡ total_before members owners charge_before lines
  charges_before = total_before_lem members owners (charges lines) ∙ ap (first_wrong_total_before members owners) (numbers_before charge_in charge_before charge_before_lem lines)

  usages_before : first_wrong_total members owners (usages lines) ≡ total_before members owners usage_before lines
  usages_before = total_before_lem members owners (usages lines) ∙ ap (first_wrong_total_before members owners) (numbers_before usage_in usage_before usage_before_lem lines)

counts_before_lem : (trailer : List ℕ) (n : ℕ) → counts_records trailer n ≡ counts_before trailer n
unfolding counts_records
counts_before_lem trailer n = ap (λ (z : ℤ). sameℤ z (pos n)) (counted_before 9 0 (field 4 trailer))

totals_before : (lines : List (List ℕ)) → total_refusals lines ≡ total_refusals_before lines
unfolding total_refusals site_refusals period_total_refusals trailer_refusals
totals_before lines =
    rw (
      usages_before lines (sites_of DU DU lines) (sites_of SH SH lines),
      charges_before lines (sites_of CH OC lines) (sites_of SH SH lines),
      usages_before lines (parents_of DU DU lines) (places_of TH TH lines),
      charges_before lines (parents_of CH CH lines) (places_of TH TH lines),
      counts_before_lem (line_at lines (length lines - 1)) (length lines),
      charges_before lines (ones_of CH OC lines) (ones_of FT FT lines),
    )
    refl

pub tests_before : (lines : List (List ℕ)) → tests_from14 lines ≡ tests_from14_before lines
unfolding tests_from14
tests_before lines = ap (λ (l : List Refusal). period_refusals lines ++ l) (totals_before lines)

pub check_before_lem : (retailer : ℕ) (distributors file : List ℕ) → check_of retailer distributors file ≡ check_before retailer distributors file
unfolding check_of test_refusals column_refusals
check_before_lem retailer distributors file = rw (totals_before (lines_of file)) refl
