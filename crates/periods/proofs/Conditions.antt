-- The conditions of test 18 one by one: where one fails the whole fails, and where all but the last hold the last decides.
-- A Site Header that chooses a period:
--     no_header, header_of_another_site, header_without_start, header_without_end, starts_before_header, ends_after_header, chooses_by_end
-- Two periods that overlap: different_sites, first_no_original, second_no_original, second_not_chosen, no_shared_day, overlaps_by_header
-- Assumes nothing.
use mathlib.Core.Path.{◌≡◌, sym}
use mathlib.Core.Bool.{Bool, true, false, ◌&&◌, and-false, false≢true}
use Prim.Native.Nat.{ℕ, ◌≤◌, ◌<◌}
use borrow.Author.Tests.{eq-eqb, ne_eqb, le-leb, lt-leb}
use lib.Dec.{leb}
use lib.ListN.{length}
use Rattle.lists.specs.Below.{some_below}
use Rattle.lists.proofs.Below.{some_none, none_some}
use Rattle.tables.specs.Types.{SH}
use Rattle.tables.specs.Groups.{at}
use Rattle.calendar.specs.Periods.{shares_day}
use Rattle.periods.specs.Periods.{PeriodColumns, is_original, chooses, days_at, overlaps_at}

module _ (c : PeriodColumns) where
  module _ (h i : ℕ) where
    pub no_header : (at c.types h ≡ SH → ⊥) → chooses c h i ≡ false
    unfolding chooses
    no_header other = simp (ne_eqb _ _ other)

    pub header_of_another_site : (at c.sites h ≡ at c.sites i → ⊥) → chooses c h i ≡ false
    unfolding chooses
    header_of_another_site other = simp (ne_eqb _ _ other, and-false)

    pub header_without_start : at c.starts h ≡ 0 → chooses c h i ≡ false
    unfolding chooses
    header_without_start empty = simp (eq-eqb _ _ empty, and-false)

    pub header_without_end : at c.ends h ≡ 0 → chooses c h i ≡ false
    unfolding chooses
    header_without_end empty = simp (eq-eqb _ _ empty, and-false)

    pub starts_before_header : at c.starts i < at c.starts h → chooses c h i ≡ false
    unfolding chooses
    starts_before_header outside = simp (lt-leb _ _ outside, and-false)

    pub ends_after_header : at c.ends h < at c.ends i → chooses c h i ≡ false
    unfolding chooses
    ends_after_header outside = simp (lt-leb _ _ outside, and-false)

    pub chooses_by_end : at c.types h ≡ SH → at c.sites h ≡ at c.sites i → (at c.starts h ≡ 0 → ⊥) → (at c.ends h ≡ 0 → ⊥)
        → at c.starts h ≤ at c.starts i → leb (at c.ends i) (at c.ends h) ≡ chooses c h i
    unfolding chooses
    chooses_by_end header site start end from =
        simp (eq-eqb _ _ header, eq-eqb _ _ site, ne_eqb _ _ start, ne_eqb _ _ end, le-leb _ _ from)

  module _ (i j : ℕ) where
    pub different_sites : (at c.sites i ≡ at c.sites j → ⊥) → overlaps_at c i j ≡ false
    unfolding overlaps_at
    different_sites differ = simp (ne_eqb _ _ differ, and-false)

    pub first_no_original : is_original c i ≡ false → overlaps_at c i j ≡ false
    unfolding overlaps_at
    first_no_original other = simp other

    pub second_no_original : is_original c j ≡ false → overlaps_at c i j ≡ false
    unfolding overlaps_at
    second_no_original other = simp (other, and-false)

    pub second_not_chosen : some_below (λ (h : ℕ). chooses c h j && chooses c h j) (length c.types) ≡ false → overlaps_at c i j ≡ false
    unfolding overlaps_at
    second_not_chosen none = simp (none_some (λ (h : ℕ). chooses c h i && chooses c h j) (length c.types) (λ h l. neither (chooses c h i) (chooses c h j) (some_none (λ (k : ℕ). chooses c k j && chooses c k j) (length c.types) none h l)), and-false)
      where
        neither : (a b : Bool) → (b && b) ≡ false → (a && b) ≡ false
        neither a true e = absurd (false≢true (sym e))
        neither a false e = and-false a

    pub no_shared_day : shares_day (days_at c i) (days_at c j) ≡ false → overlaps_at c i j ≡ false
    unfolding overlaps_at
    no_shared_day apart = simp (apart, and-false)

    pub overlaps_by_header : is_original c i ≡ true → is_original c j ≡ true → at c.sites i ≡ at c.sites j → shares_day (days_at c i) (days_at c j) ≡ true
        → some_below (λ (h : ℕ). chooses c h i && chooses c h j) (length c.types) ≡ overlaps_at c i j
    unfolding overlaps_at
    overlaps_by_header first second site shared = simp (first, second, eq-eqb _ _ site, shared)
