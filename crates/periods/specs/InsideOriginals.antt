-- The original periods as spans of numbers, and that no two of a site share a day. A day stands as itself and one; 0 says that the field is empty.
-- Assumes nothing.
use Rattle.std.specs.Prelude.{◌≡◌, List, [], Bool, true, ℕ, ◌≤◌, ◌<◌}
use Rattle.apart.specs.InsideGathered.{day_number, Gathering}
use Rattle.tables.specs.Groups.{at}
use Rattle.periods.specs.Periods.{PeriodColumns, period_columns, is_original}

-- the record at i is an original period, by the two columns that say so: an empty list stands for one that is not read
abbrev pub original_at : List ℕ → List ℕ → ℕ → Bool
original_at types cancels = is_original (period_columns types [] [] [] cancels)

-- a day of a site as one number
abbrev pub day_at : List ℕ → List ℕ → ℕ → ℕ
day_at sites days i = day_number (at sites i) (at days i)

-- the first and the last days of the original periods among the first n records, as numbers, stand in two lists, `count` in each
abbrev pub SpansGathered : PeriodColumns → List ℕ → List ℕ → ℕ → ℕ → Type 0
SpansGathered c = Gathering (is_original c) (day_at c.sites c.starts) (day_at c.sites c.ends)

-- the period at i has the day d, both ends in
abbrev pub HasDay : PeriodColumns → ℕ → ℕ → Type 0
HasDay c i d = (at c.starts i ≤ d) × (d ≤ at c.ends i)

-- no day of a site is in two of the original periods among the first n records
unfoldable pub NoneShared : PeriodColumns → ℕ → Type 0
NoneShared c n =
    (i j d : ℕ) → i < j → j < n → is_original c i ≡ true → is_original c j ≡ true → at c.sites i ≡ at c.sites j
    → HasDay c i d → HasDay c j d → ⊥
