-- What tests 14 and 18 mean, in terms of records, sites and days. Each test passes where its first failing place is the number of records.
--     dates_in_order     14: no start is after its end, where both are filled
--     no_shared_days     18: no day is in two periods of a site that one Site Header chooses
--     overlaps_is        what it is for two periods to overlap
-- The proofs turn each condition of the tests into the fact that it tests, both ways. Assumes nothing.
use mathlib.Core.Path.{◌≡◌, refl, sym, ◌∙◌}
use mathlib.Core.Logic.{◌↔◌}
use mathlib.Core.List.{List}
use mathlib.Core.Bool.{Bool, true, false, ◌&&◌, and-false, and-eq-true_iff, false≢true}
use Prim.Native.Nat.{ℕ, ◌≤◌, ◌<◌, min, max}
use native.Mathlib.Omega.{arith}
use borrow.Author.Tests.{ltb-true, lt-ltb, leb-true, leb-false, le-leb, eqb-true, eqb-false, eq-eqb, ne_eqb}
use lib.Dec.{eqb, leb, ltb}
use lib.ListN.{length}
use Rattle.lists.specs.Below.{first_below, some_below}
use Rattle.lists.proofs.Below.{none_below, none_is_end, some_holds, some_is}
use Rattle.tables.specs.Types.{SH, TH}
use Rattle.tables.specs.Groups.{at}
use Rattle.periods.specs.InsideOriginals.{HasDay}
use Rattle.periods.specs.InsideChosen.{Chooses}
use Rattle.calendar.specs.Periods.{shares_day}
use Rattle.periods.specs.Periods.{is_reversed, first_reversed, PeriodColumns, is_original, chooses, days_at, overlaps_at, first_overlapping}
use Rattle.periods.proofs.Conditions.{no_header, header_of_another_site, header_without_start, header_without_end, starts_before_header, ends_after_header, chooses_by_end, different_sites, first_no_original, second_no_original, no_shared_day, overlaps_by_header}

-- ---- a search that finds nothing, and a part of what holds
none_found : (f : ℕ → Bool) (n : ℕ) → (first_below f n ≡ n) ↔ ((i : ℕ) → i < n → f i ≡ true → ⊥)
none_found f n = (λ e i h t. false≢true (sym (none_below f n e i h) ∙ t), λ none. none_is_end f n (λ i h. refuted (f i) (none i h)))
  where
    refuted : (b : Bool) → (b ≡ true → ⊥) → b ≡ false
    refuted true never = absurd (never refl)
    refuted false never = refl

part : (condition whole : Bool) → (condition ≡ false → whole ≡ false) → whole ≡ true → condition ≡ true
part true whole fails e = refl
part false whole fails e = absurd (false≢true (sym (fails refl) ∙ e))

filled : (x : ℕ) (whole : Bool) → (x ≡ 0 → whole ≡ false) → whole ≡ true → x ≡ 0 → ⊥
filled x whole fails e empty = false≢true (sym (fails empty) ∙ e)

-- ---- 14
record Reversed (starts ends : List ℕ) (i : ℕ) : Type 0 where
  start_filled : at starts i ≡ 0 → ⊥
  end_filled : at ends i ≡ 0 → ⊥
  after : at ends i < at starts i

reversed_is : (starts ends : List ℕ) (i : ℕ) → (is_reversed starts ends i ≡ true) ↔ Reversed starts ends i
unfolding is_reversed
reversed_is starts ends i = (
  λ e. record {
    start_filled = filled (at starts i) whole (λ z. simp (eq-eqb _ _ z)) e;
    end_filled = filled (at ends i) whole (λ z. simp (eq-eqb _ _ z, and-false)) e;
    after = ltb-true (at ends i) (at starts i) (part (ltb (at ends i) (at starts i)) whole (λ f. simp (f, and-false)) e);
  },
  λ r. simp (ne_eqb _ _ r.start_filled, ne_eqb _ _ r.end_filled, lt-ltb _ _ r.after),
)
  where
    whole : Bool
    whole = is_reversed starts ends i

pub dates_in_order : (starts ends : List ℕ)
    → (first_reversed starts ends ≡ length starts)
    ↔ ((i : ℕ) → i < length starts → (at starts i ≡ 0 → ⊥) → (at ends i ≡ 0 → ⊥) → at starts i ≤ at ends i)
unfolding first_reversed
dates_in_order starts ends = (
  λ e i h start end. ordered i (λ after. found.0 e i h ((reversed_is starts ends i).1 (record { start_filled = start; end_filled = end; after = after }))),
  λ ordered. found.1 (λ i h e. let r = (reversed_is starts ends i).0 e in let o = ordered i h r.start_filled r.end_filled in omega (arith, r.after)),
)
  where
    found : (first_below (is_reversed starts ends) (length starts) ≡ length starts) ↔ ((i : ℕ) → i < length starts → is_reversed starts ends i ≡ true → ⊥)
    found = none_found (is_reversed starts ends) (length starts)

    ordered : (i : ℕ) → (at ends i < at starts i → ⊥) → at starts i ≤ at ends i
    ordered i h = omega arith

-- ---- 18
-- the record at i is an original period: a TH with the Cancel Indicator N
pub record Original (c : PeriodColumns) (i : ℕ) : Type 0 where
  pub period_header_lem : at c.types i ≡ TH
  pub no_cancel : at c.cancels i ≡ 0

pub record Overlap (c : PeriodColumns) (i j : ℕ) : Type 0 where
  pub first : Original c i
  pub second : Original c j
  pub same_site : at c.sites i ≡ at c.sites j
  pub day : (d : ℕ) × HasDay c i d × HasDay c j d
  pub header : (h : ℕ) × (h < length c.types) × Chooses c h i × Chooses c h j

module _ (c : PeriodColumns) where
  pub original_is : (i : ℕ) → (is_original c i ≡ true) ↔ Original c i
  unfolding is_original
  original_is i = (
    λ e. let q = (and-eq-true_iff (eqb (at c.types i) TH) (eqb (at c.cancels i) 0)).0 e in record { period_header_lem = eqb-true _ _ q.0; no_cancel = eqb-true _ _ q.1 },
    λ o. simp (eq-eqb _ _ o.period_header_lem, eq-eqb _ _ o.no_cancel),
  )

  chooses_is : (h i : ℕ) → (chooses c h i ≡ true) ↔ Chooses c h i
  chooses_is h i = (
    λ e. record {
      site_header_lem = eqb-true _ _ (part (eqb (at c.types h) SH) whole (λ f. no_header c h i (eqb-false _ _ f)) e);
      same_site = eqb-true _ _ (part (eqb (at c.sites h) (at c.sites i)) whole (λ f. header_of_another_site c h i (eqb-false _ _ f)) e);
      start_filled = filled (at c.starts h) whole (header_without_start c h i) e;
      end_filled = filled (at c.ends h) whole (header_without_end c h i) e;
      from = leb-true _ _ (part (leb (at c.starts h) (at c.starts i)) whole (λ f. starts_before_header c h i (leb-false _ _ f)) e);
      to = leb-true _ _ (part (leb (at c.ends i) (at c.ends h)) whole (λ f. ends_after_header c h i (leb-false _ _ f)) e);
    },
    λ k. sym (chooses_by_end c h i k.site_header_lem k.same_site k.start_filled k.end_filled k.from) ∙ le-leb _ _ k.to,
  )
    where
      whole : Bool
      whole = chooses c h i

  module _ (i j : ℕ) where
    shares_is : (shares_day (days_at c i) (days_at c j) ≡ true) ↔ ((d : ℕ) × HasDay c i d × HasDay c j d)
    unfolding shares_day
    shares_is = (
      λ e. let h = leb-true (max (at c.starts i) (at c.starts j)) (min (at c.ends i) (at c.ends j)) e in (max (at c.starts i) (at c.starts j), (omega arith, omega arith), (omega arith, omega arith)),
      λ w. le-leb (max (at c.starts i) (at c.starts j)) (min (at c.ends i) (at c.ends j)) (omega arith),
    )

    abbrev chooses_both : ℕ → Bool
    chooses_both h = chooses c h i && chooses c h j

    header_is : (some_below chooses_both (length c.types) ≡ true) ↔ ((h : ℕ) × (h < length c.types) × Chooses c h i × Chooses c h j)
    header_is = (
      λ e.
          let w = some_holds chooses_both (length c.types) e in
          let q = (and-eq-true_iff (chooses c w.0 i) (chooses c w.0 j)).0 w.2 in
          (w.0, w.1, (chooses_is w.0 i).0 q.0, (chooses_is w.0 j).0 q.1),
      λ w.
          some_is chooses_both (length c.types) w.0 w.1
          ((and-eq-true_iff (chooses c w.0 i) (chooses c w.0 j)).1 ((chooses_is w.0 i).1 w.2, (chooses_is w.0 j).1 w.3)),
    )

    pub overlaps_is : (overlaps_at c i j ≡ true) ↔ Overlap c i j
    unfolding overlaps_at
    overlaps_is = (
      λ e. record {
        first = (original_is i).0 (part (is_original c i) (overlaps_at c i j) (first_no_original c i j) e);
        second = (original_is j).0 (part (is_original c j) (overlaps_at c i j) (second_no_original c i j) e);
        same_site = eqb-true _ _ (part (eqb (at c.sites i) (at c.sites j)) (overlaps_at c i j) (λ f. different_sites c i j (eqb-false _ _ f)) e);
        day = shares_is.0 (part (shares_day (days_at c i) (days_at c j)) (overlaps_at c i j) (no_shared_day c i j) e);
        header = header_is.0 (part (some_below chooses_both (length c.types)) (overlaps_at c i j) (λ f. simp (f, and-false)) e);
      },
      λ o.
          sym (overlaps_by_header c i j ((original_is i).1 o.first) ((original_is j).1 o.second) o.same_site (shares_is.1 o.day))
          ∙ header_is.1 o.header,
    )

  abbrev overlaps_earlier : ℕ → Bool
  overlaps_earlier j = some_below (λ (i : ℕ). overlaps_at c i j) j

  pub no_shared_days :
      (first_overlapping c ≡ length c.types)
      ↔ ((i j h : ℕ) → i < j → j < length c.types → h < length c.types → Original c i → Original c j → at c.sites i ≡ at c.sites j
      → Chooses c h i → Chooses c h j → (d : ℕ) → HasDay c i d → HasDay c j d → ⊥)
  unfolding first_overlapping
  no_shared_days = (
    λ e i j h earlier last header first second site chooses-first chooses-second d in-first in-second.
        (none_found overlaps_earlier (length c.types)).0 e j last
        (some_is (λ (k : ℕ). overlaps_at c k j) j i earlier
        ((overlaps_is i j).1
        (record {
          first = first;
          second = second;
          same_site = site;
          day = (d, in-first, in-second);
          header = (h, header, chooses-first, chooses-second);
        }))),
    λ apart. (none_found overlaps_earlier (length c.types)).1
        (λ j last e.
        let w = some_holds (λ (k : ℕ). overlaps_at c k j) j e in
        let o = (overlaps_is w.0 j).0 w.2 in
        apart w.0 j o.header.0 w.1 last o.header.1 o.first o.second o.same_site o.header.2 o.header.3
        o.day.0 o.day.1 o.day.2),
  )
