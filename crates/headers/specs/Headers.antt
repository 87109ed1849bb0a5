-- Tests 11, 12 and 33 of Table 5-1, as document 01, "Tests", reads them: what FH and FT say of the whole file.
-- Assumes nothing.
use Rattle.std.specs.Prelude.{ℕ, ◌*◌, ◌/◌, List, Bool, false, length, take, drop, eqb, pos}
use Rattle.lists.specs.Below.{some_below}
use Rattle.lists.specs.Bytes.{same_bytes}
use Rattle.std.specs.Prelude.{Option, Some, None}
use Rattle.digits.specs.Digits.{fixed_digits_of}
use Rattle.amounts.specs.Amounts.{amount_of, or_zero}
use Rattle.totals.specs.Totals.{sameℤ}
use Rattle.records.specs.Records.{field}

-- ---- 11: "FH's retailer is ours"
abbrev pub is_value : ℕ → Option ℕ → Bool
is_value n (Some m) = eqb m n
is_value n None = false

unfoldable pub is_ours : ℕ → List ℕ → Bool
is_ours retailer header = is_value retailer (fixed_digits_of 9 (field 4 header))

-- ---- 12: "its sender is listed in the settings": one of the groups of four digits
abbrev pub group : List ℕ → ℕ → List ℕ
group distributors g = take 4 (drop (4 * g) distributors)

unfoldable pub is_listed : List ℕ → List ℕ → Bool
is_listed distributors header = some_below (λ (g : ℕ). same_bytes (group distributors g) (field 5 header)) (length distributors / 4)

-- ---- 33: "FT's record count (as Table 4-10 counts)": "the number of records (including Tariff File Header and File Trailer records)"
unfoldable pub counts_records : List ℕ → ℕ → Bool
counts_records trailer n = sameℤ (or_zero (amount_of 9 0 (field 4 trailer))) (pos n)
