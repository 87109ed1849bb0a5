-- Tests 14 and 18 of Table 5-1, as document 01, "Tests", reads them. A day stands as itself and one; 0 says that the field is empty.
-- Assumes nothing.
use Rattle.std.specs.Prelude.{ℕ, List, Bool, not, ◌&&◌, length, eqb, leb, ltb}
use Rattle.lists.specs.Below.{first_below, some_below}
use Rattle.calendar.specs.declared.Period.{Period}
use Rattle.calendar.specs.Periods.{shares_day}
use Rattle.tables.specs.Types.{SH, TH}
use Rattle.tables.specs.Groups.{at}

-- ---- 14: "no start date is after its end date, where both are filled"
unfoldable pub is_reversed : List ℕ → List ℕ → ℕ → Bool
is_reversed starts ends i = not (eqb (at starts i) 0) && not (eqb (at ends i) 0) && ltb (at ends i) (at starts i)

unfoldable pub first_reversed : List ℕ → List ℕ → ℕ
first_reversed starts ends = first_below (is_reversed starts ends) (length starts)

-- ---- 18: "no two N periods of a site, both lying within the current billing period of one and the same SH of that site, share a day
-- (the later line fails). An SH with an empty billing date chooses none."
-- the columns that it reads
pub record PeriodColumns : Type 0 where
  pub types : List ℕ
  pub sites : List ℕ
  pub starts : List ℕ
  pub ends : List ℕ
  pub cancels : List ℕ

abbrev pub period_columns : List ℕ → List ℕ → List ℕ → List ℕ → List ℕ → PeriodColumns
period_columns types sites starts ends cancels = record { types = types; sites = sites; starts = starts; ends = ends; cancels = cancels }

-- "N periods"
unfoldable pub is_original : PeriodColumns → ℕ → Bool
is_original c i = eqb (at c.types i) TH && eqb (at c.cancels i) 0

-- "lying within the current billing period" of the SH at h "of that site"
unfoldable pub chooses : PeriodColumns → ℕ → ℕ → Bool
chooses c h i =
    eqb (at c.types h) SH && eqb (at c.sites h) (at c.sites i) && not (eqb (at c.starts h) 0) && not (eqb (at c.ends h) 0)
    && leb (at c.starts h) (at c.starts i) && leb (at c.ends i) (at c.ends h)

abbrev pub days_at : PeriodColumns → ℕ → Period
days_at c i = record { start = at c.starts i; end = at c.ends i }

unfoldable pub overlaps_at : PeriodColumns → ℕ → ℕ → Bool
overlaps_at c i j =
    is_original c i && is_original c j && eqb (at c.sites i) (at c.sites j) && shares_day (days_at c i) (days_at c j)
    && some_below (λ (h : ℕ). chooses c h i && chooses c h j) (length c.types)

unfoldable pub first_overlapping : PeriodColumns → ℕ
first_overlapping c = first_below (λ (j : ℕ). some_below (λ (i : ℕ). overlaps_at c i j) j) (length c.types)
