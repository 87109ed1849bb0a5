-- What Check passes: the settings fit, the file isn't too large, and its lines have all that the record `Passing` (specs/Passing) says.
--     tests_none             none of tests 2 to 38 refuses exactly these lines
--     check_passes           exactly these files pass
-- The proofs turn each test, which reads columns, into what it says of the lines, both ways, and put the tests together in their order. Assumes nothing.
use mathlib.Core.Path.{◌≡◌, refl, sym, ◌∙◌, ap}
use mathlib.Core.Logic.Iff
use mathlib.Core.Logic.{◌↔◌}
use mathlib.Core.Bool.{Bool, true, false, not}
use mathlib.Core.List.{List}
use Prim.Native.Nat.{ℕ, suc, ◌+◌, ◌-◌, ◌≤◌, ◌<◌}
use native.Mathlib.Omega.{arith}
use borrow.Author.Tests.{eqb-false, ne_eqb}
use lib.Dec.{eqb, ltb}
use lib.ListN.{length}
use Rattle.lists.proofs.Below.{first_at_most}
use Rattle.std.specs.Prelude.{Some}
use Rattle.records.specs.Text.{lines_of}
use Rattle.tables.specs.Types.{SH, TH, DU, CH, OC, FT}
use Rattle.amounts.specs.declared.Amount.{Amount}
use Rattle.columns.specs.Columns.{number_in, charge_in, usage_in, record_id, parent_id, site, start_day, end_day, cancel}
use Rattle.tables.specs.Groups.{at, parent_places, picked, all_places, ones}
use Rattle.tables.proofs.RecordTypes.{parents_length}
use Rattle.format.specs.Format.{line_at, first_unformatted, first_unfit, first_misplaced, first_unfilled, first_miscoded}
use Rattle.lists.proofs.Reflected.{denied}
use Rattle.format.specs.Meaning.{Ordered}
use Rattle.format.specs.Conditional.{first_unpopulated}
use Rattle.format.proofs.Conditional.{test_6}
use Rattle.format.proofs.Meaning.{test_2, test_3, test_4, test_5, test_7}
use Rattle.identity.specs.Identity.{first_repeated, first_unlike}
use Rattle.identity.proofs.Meaning.{distinct_ids, alike}
use Rattle.headers.proofs.Meaning.{ours_is, listed_is, counts_is}
use Rattle.periods.specs.Periods.{PeriodColumns, period_columns, first_reversed, first_overlapping}
use Rattle.periods.specs.InsideChosen.{Chooses}
use Rattle.periods.specs.InsideOriginals.{HasDay}
use Rattle.periods.proofs.Meaning.{dates_in_order, no_shared_days, Original}
use Rattle.totals.specs.Totals.{first_wrong_total}
use Rattle.totals.proofs.Meaning.{TotalsRight, none_wrong}
use Rattle.refusals.specs.declared.Outcome.{Outcome}
use Rattle.refusals.specs.Check.{numbers, types, charges, usages, sites_of, parents_of, ones_of, format_refusals, order_refusals, identity_refusals, header_refusals, period_refusals, site_refusals, period_total_refusals, trailer_refusals, child_refusals, total_refusals, column_refusals, test_refusals, settings_fit, is_too_large, check_refusals, check_of}
use Rattle.refusals.specs.Refusals.{passed, first_refusal}
use Rattle.bill_files.specs.Passing.{id_at, date_at, is_cancel_at, Under, OfTypeUnder, Chosen, Passing}
use Rattle.bill_files.proofs.Lines.{type_at_lem, date_kept, kept_date, cancel_at, same_marked, same_ids, same_cancels, under_is, type_under_is, picked_size}
use Rattle.refusals.proofs.Outcomes.{check_numbered}
use Rattle.refusals.proofs.Refusals.{NoneOf, none_passes, passes_none, record_none, none_record, applies_at, applies_at_lem}
use Rattle.bill_files.proofs.Sums.{site_totals, own_totals, file_totals}
use Rattle.refusals.proofs.Columns.{numbers_length, types_length}

abbrev periods_of : List (List ℕ) → PeriodColumns
periods_of lines = period_columns (types lines) (numbers site lines) (numbers start_day lines) (numbers end_day lines) (numbers cancel lines)

-- ---- tests 10, 17 and 38: where the place of the record that i hangs under says H, and equal numbers say S
module _ (lines : List (List ℕ)) (all_places own theirs : List ℕ) (size : length all_places ≡ length lines) (H S : ℕ → ℕ → Type 0)
    (hangs : (i j : ℕ) → i < length lines → (at all_places i ≡ suc j) ↔ H i j) (earlier : (i j : ℕ) → H i j → j < i)
    (same : (i j : ℕ) → i < length lines → j < length lines → (at own i ≡ at theirs j) ↔ S i j) where
  alike_is : (first_unlike all_places own theirs ≡ length all_places) ↔ ((i j : ℕ) → i < length lines → H i j → S i j)
  alike_is =
      let law = alike all_places own theirs in (
        λ e i j h u. (same i j h (omega (arith, earlier i j u))).0 (law.0 e i j (omega (arith, size)) ((hangs i j h).1 u)),
        λ all. law.1 (λ i j h q. let l : i < length lines = omega (arith, size) in let u = (hangs i j l).0 q in (same i j l (omega (arith, earlier i j u))).1 (all i j l u)),
      )

module _ (lines : List (List ℕ)) where
  passes_10 : (first_unlike (parent_places (types lines)) (numbers parent_id lines) (numbers record_id lines) ≡ length (parent_places (types lines)))
      ↔ ((i j : ℕ) → i < length lines → Under lines i j → id_at parent_id lines i ≡ id_at record_id lines j)
  passes_10 =
      alike_is lines (parent_places (types lines)) (numbers parent_id lines) (numbers record_id lines) (parents_length (types lines) ∙ types_length lines)
      (Under lines) (λ i j. id_at parent_id lines i ≡ id_at record_id lines j) (under_is lines) (λ i j u. u.before)
      (λ i j h k. same_ids lines i j h k parent_id record_id (refl, refl) (refl, refl))

  passes_17 : (first_unlike (parents_of DU CH lines) (numbers cancel lines) (numbers cancel lines) ≡ length (parents_of DU CH lines))
      ↔ ((i j : ℕ) → i < length lines → OfTypeUnder DU CH lines i j → is_cancel_at lines i ≡ is_cancel_at lines j)
  passes_17 =
      alike_is lines (parents_of DU CH lines) (numbers cancel lines) (numbers cancel lines) (picked_size lines DU CH (parent_places (types lines)))
      (OfTypeUnder DU CH lines) (λ i j. is_cancel_at lines i ≡ is_cancel_at lines j) (λ i j h. type_under_is lines i j h DU CH) (λ i j u. u.2.before)
      (same_cancels lines)

  passes_38 : (first_unlike (parents_of TH OC lines) (numbers site lines) (numbers site lines) ≡ length (parents_of TH OC lines))
      ↔ ((i j : ℕ) → i < length lines → OfTypeUnder TH OC lines i j → id_at site lines i ≡ id_at site lines j)
  passes_38 =
      alike_is lines (parents_of TH OC lines) (numbers site lines) (numbers site lines) (picked_size lines TH OC (parent_places (types lines)))
      (OfTypeUnder TH OC lines) (λ i j. id_at site lines i ≡ id_at site lines j) (λ i j h. type_under_is lines i j h TH OC) (λ i j u. u.2.before)
      (λ i j h k. same_ids lines i j h k site site (refl, refl) (refl, refl))

  -- ---- tests 9 and 14
  passes_9 : (first_repeated (numbers record_id lines) ≡ length (numbers record_id lines)) ↔ ((i j : ℕ) → i < j → j < length lines → id_at record_id lines i ≡ id_at record_id lines j → ⊥)
  passes_9 =
      let law = distinct_ids (numbers record_id lines) in
      let size = numbers_length record_id lines in (
        λ e i j h l q. law.0 e i j h (omega (arith, size)) ((same_ids lines i j (omega arith) l record_id record_id (refl, refl) (refl, refl)).1 q),
        λ all. law.1 (λ i j h l q. let k : j < length lines = omega (arith, size) in all i j h k ((same_ids lines i j (omega arith) k record_id record_id (refl, refl) (refl, refl)).0 q)),
      )

  passes_14 : (first_reversed (numbers start_day lines) (numbers end_day lines) ≡ length (numbers start_day lines))
      ↔ ((i start end : ℕ) → i < length lines → date_at start_day lines i ≡ Some start → date_at end_day lines i ≡ Some end → start ≤ end)
  passes_14 =
      let law = dates_in_order (numbers start_day lines) (numbers end_day lines) in
      let size = numbers_length start_day lines in (
        λ e i start end h p q.
            let s = date_kept lines i h start_day (refl, refl, refl) start p in
            let t = date_kept lines i h end_day (refl, refl, refl) end q in
            omega (arith, law.0 e i (omega (arith, size)) (λ z. omega (arith, s)) (λ z. omega (arith, t)), s, t),
        λ all. law.1 (λ i h some_start some_end.
            let l : i < length lines = omega (arith, size) in
            let start = kept_date lines i l start_day (refl, refl, refl) some_start in
            let end = kept_date lines i l end_day (refl, refl, refl) some_end in
            omega (arith, all i start.0 end.0 l start.1 end.1, start.2, end.2)),
      )

  -- ---- test 18
  chosen_columns : (h i d : ℕ) → h < length lines → i < length lines → Chosen lines h i d → Original (periods_of lines) i × Chooses (periods_of lines) h i × HasDay (periods_of lines) i (d + 1)
  chosen_columns h i d k l c = (
    record { period_header_lem = type_at_lem lines i l ∙ c.period; no_cancel = cancel_at lines i l ∙ rw c.original },
    record {
      site_header_lem = type_at_lem lines h k ∙ c.header;
      same_site = (same_ids lines h i k l site site (refl, refl) (refl, refl)).1 c.same_site;
      start_filled = λ z. omega (arith, from);
      end_filled = λ z. omega (arith, to);
      from = omega (arith, from, start, c.within.0);
      to = omega (arith, end, to, c.within.1);
    },
    (omega (arith, start, c.has_day.0), omega (arith, end, c.has_day.1)),
  )
    where
      from : at (numbers start_day lines) h ≡ c.from + 1
      from = date_kept lines h k start_day (refl, refl, refl) c.from c.billing_start

      to : at (numbers end_day lines) h ≡ c.to + 1
      to = date_kept lines h k end_day (refl, refl, refl) c.to c.billing_end

      start : at (numbers start_day lines) i ≡ c.start + 1
      start = date_kept lines i l start_day (refl, refl, refl) c.start c.period_start

      end : at (numbers end_day lines) i ≡ c.end + 1
      end = date_kept lines i l end_day (refl, refl, refl) c.end c.period_end

  columns_chosen : (h i d : ℕ) → h < length lines → i < length lines → Original (periods_of lines) i → Chooses (periods_of lines) h i → HasDay (periods_of lines) i d → Chosen lines h i (d - 1)
  columns_chosen h i d k l o c has =
      let from = kept_date lines h k start_day (refl, refl, refl) c.start_filled in
      let to = kept_date lines h k end_day (refl, refl, refl) c.end_filled in
      let start = kept_date lines i l start_day (refl, refl, refl) (λ z. omega (arith, z, c.from, from.2)) in
      let end = kept_date lines i l end_day (refl, refl, refl) (λ z. omega (arith, z, has.0, has.1, start.2)) in
      record {
        header = sym (type_at_lem lines h k) ∙ c.site_header_lem;
        period = sym (type_at_lem lines i l) ∙ o.period_header_lem;
        original = same_marked (is_cancel_at lines i) false (sym (cancel_at lines i l) ∙ o.no_cancel);
        same_site = (same_ids lines h i k l site site (refl, refl) (refl, refl)).0 c.same_site;
        from = from.0;
        to = to.0;
        start = start.0;
        end = end.0;
        billing_start = from.1;
        billing_end = to.1;
        period_start = start.1;
        period_end = end.1;
        within = (omega (arith, c.from, from.2, start.2), omega (arith, c.to, end.2, to.2));
        has_day = (omega (arith, has.0, start.2), omega (arith, has.1, end.2, start.2, has.0));
      }

  passes_18 : (first_overlapping (periods_of lines) ≡ length (types lines))
      ↔ ((i j h d : ℕ) → i < j → j < length lines → h < length lines → Chosen lines h i d → Chosen lines h j d → ⊥)
  passes_18 =
      let law = no_shared_days (periods_of lines) in
      let size = types_length lines in (
        λ e i j h d a b c first second.
            let one = chosen_columns h i d c (omega arith) first in
            let two = chosen_columns h j d c b second in
            let site = (same_ids lines i j (omega arith) b site site (refl, refl) (refl, refl)).1 (sym first.same_site ∙ second.same_site) in
            law.0 e i j h a (omega (arith, size)) (omega (arith, size)) one.0 two.0 site one.1 two.1 (d + 1) one.2 two.2,
        λ all. law.1 (λ i j h a b c first second site chosen-first chosen-second d in-first in-second.
            let l : j < length lines = omega (arith, size) in
            let k : h < length lines = omega (arith, size) in
            all i j h (d - 1) a l k (columns_chosen h i d k (omega arith) first chosen-first in-first) (columns_chosen h j d k l second chosen-second in-second)),
      )

-- ---- the tests together: none of a list refuses exactly where what each of them asks holds
misplaced_is : (lines : List (List ℕ)) → 0 < length lines → (first_misplaced (types lines) ≡ length (types lines)) ↔ Ordered lines
unfolding number_in
misplaced_is lines some_line =
    let law = test_4 lines some_line in
    let size = types_length lines in
    (λ e. law.0 (e ∙ size), λ o. law.1 o ∙ sym size)

refused_is : (fits : Bool) {P : Type 0} → (fits ≡ true → P) × (P → fits ≡ true) → (not fits ≡ false) ↔ P
refused_is fits is = Iff.trans (denied fits) is

some_is : (n : ℕ) → (eqb n 0 ≡ false) ↔ (0 < n)
some_is n = (λ e. omega (arith, eqb-false n 0 e), λ h. ne_eqb n 0 (λ z. omega arith))

-- a test by records doesn't apply exactly where what it asks holds
record_is : (n m place : ℕ) {P : Type 0} → place ≤ m → m ≡ n → ((place ≡ m) ↔ P) → (ltb place n ≡ false) ↔ P
record_is n m place most size is = (λ e. is.0 (omega (arith, record_none n place (omega arith) e)), λ h. none_record n place (omega (arith, is.1 h)))

module _ (retailer : ℕ) (distributors : List ℕ) (lines : List (List ℕ)) where
  total_is : (members : List ℕ) (low high : ℕ) (values : List ℕ) (amounts : List Amount) {P : Type 0} → (TotalsRight members (picked (types lines) values low high) amounts ↔ P)
      → (ltb (first_wrong_total members (picked (types lines) values low high) amounts) (length lines) ≡ false) ↔ P
  unfolding first_wrong_total
  total_is members low high values amounts is =
      record_is (length lines) (length (picked (types lines) values low high)) (first_wrong_total members (picked (types lines) values low high) amounts) (first_at_most _ _)
      (picked_size lines low high values) (Iff.trans (none_wrong members (picked (types lines) values low high) amounts) is)

  -- none of tests 2 to 38 refuses a file exactly where it has what they ask
  pub tests_none : NoneOf (test_refusals retailer distributors lines) ↔ Passing retailer distributors lines
  unfolding test_refusals column_refusals total_refusals format_refusals order_refusals identity_refusals header_refusals period_refusals site_refusals period_total_refusals trailer_refusals child_refusals first_unformatted first_misplaced first_unpopulated first_miscoded first_repeated first_unlike first_reversed first_overlapping
  tests_none =
      let n = length lines in
      let sized = types_length lines in
      let header = line_at lines 0 in
      let test2 = record_is n n (first_unformatted lines) (first_at_most _ _) refl (test_2 lines) in
      let test3 = record_is n n (first_unfit lines) (first_at_most _ _) refl (test_3 lines) in
      let test4 = record_is n (length (types lines)) (first_misplaced (types lines)) (first_at_most _ _) sized Iff.rfl in
      let test5 = record_is n n (first_unfilled lines) (first_at_most _ _) refl (test_5 lines) in
      let test6 = record_is n n (first_unpopulated lines) (first_at_most _ _) refl (test_6 lines) in
      let test7 = record_is n n (first_miscoded lines) (first_at_most _ _) refl (test_7 lines) in
      let test9 = record_is n (length (numbers record_id lines)) (first_repeated (numbers record_id lines)) (first_at_most _ _) (numbers_length record_id lines) (passes_9 lines) in
      let test10 =
      record_is n (length (parent_places (types lines))) (first_unlike (parent_places (types lines)) (numbers parent_id lines) (numbers record_id lines)) (first_at_most _ _)
      (parents_length (types lines) ∙ sized) (passes_10 lines) in
      let test11 = refused_is _ (ours_is retailer header) in
      let test12 = refused_is _ (listed_is distributors header) in
      let test14 =
      record_is n (length (numbers start_day lines)) (first_reversed (numbers start_day lines) (numbers end_day lines)) (first_at_most _ _) (numbers_length start_day lines)
      (passes_14 lines) in
      let test17 =
      record_is n (length (parents_of DU CH lines)) (first_unlike (parents_of DU CH lines) (numbers cancel lines) (numbers cancel lines)) (first_at_most _ _)
      (picked_size lines DU CH (parent_places (types lines))) (passes_17 lines) in
      let test18 = record_is n (length (types lines)) (first_overlapping (periods_of lines)) (first_at_most _ _) sized (passes_18 lines) in
      let test29 = total_is (sites_of DU DU lines) SH SH (numbers site lines) (usages lines) (site_totals lines DU DU usage_in) in
      let test30 = total_is (sites_of CH OC lines) SH SH (numbers site lines) (charges lines) (site_totals lines CH OC charge_in) in
      let test31 = total_is (parents_of DU DU lines) TH TH (all_places n) (usages lines) (own_totals lines DU DU usage_in) in
      let test32 = total_is (parents_of CH CH lines) TH TH (all_places n) (charges lines) (own_totals lines CH CH charge_in) in
      let test33 = refused_is _ (counts_is (line_at lines (n - 1)) n) in
      let test34 = total_is (ones_of CH OC lines) FT FT (ones n) (charges lines) (file_totals lines CH OC charge_in) in
      let test38 =
      record_is n (length (parents_of TH OC lines)) (first_unlike (parents_of TH OC lines) (numbers site lines) (numbers site lines)) (first_at_most _ _)
      (picked_size lines TH OC (parent_places (types lines))) (passes_38 lines) in (
        λ h.
            let at : (number : ℕ) → applies_at number (test_refusals retailer distributors lines) ≡ false = λ number. applies_at_lem number (test_refusals retailer distributors lines) h in
            let some_line = (some_is n).0 (at 2) in
            record {
              some_line = some_line;
              formatted = test2.0 h.1.0;
              fitting = test3.0 (at 3);
              ordered = (misplaced_is lines some_line).0 (test4.0 (at 4));
              filled = test5.0 (at 5);
              populated = test6.0 (at 6);
              coded = test7.0 (at 7);
              distinct = test9.0 (at 9);
              parents = test10.0 (at 10);
              ours = test11.0 (at 11);
              listed = test12.0 (at 12);
              in_order = test14.0 (at 14);
              same_indicator = test17.0 (at 17);
              no_shared_day = test18.0 (at 18);
              site_usage = test29.0 (at 29);
              site_charge = test30.0 (at 30);
              period_usage = test31.0 (at 31);
              period_charge = test32.0 (at 32);
              record_count = test33.0 (at 33);
              file_charge_lem = test34.0 (at 34);
              same_site = test38.0 (at 38);
            },
        λ p. (
          (some_is n).1 p.some_line,
          (
            test2.1 p.formatted,
            (
              test3.1 p.fitting,
              (
                test4.1 ((misplaced_is lines p.some_line).1 p.ordered),
                (
                  test5.1 p.filled,
                  (
                    test6.1 p.populated,
                    (
                      test7.1 p.coded,
                      (
                        test9.1 p.distinct,
                        (
                          test10.1 p.parents,
                          (
                            test11.1 p.ours,
                            (
                              test12.1 p.listed,
                              (
                                test14.1 p.in_order,
                                (
                                  test17.1 p.same_indicator,
                                  (
                                    test18.1 p.no_shared_day,
                                    (
                                      test29.1 p.site_usage,
                                      (
                                        test30.1 p.site_charge,
                                        (
                                          test31.1 p.period_usage,
                                          (
                                            test32.1 p.period_charge,
                                            (
                                              test33.1 p.record_count,
                                              (
                                                test34.1 p.file_charge_lem,
                                                (test38.1 p.same_site, tt),
                                              ),
                                            ),
                                          ),
                                        ),
                                      ),
                                    ),
                                  ),
                                ),
                              ),
                            ),
                          ),
                        ),
                      ),
                    ),
                  ),
                ),
              ),
            ),
          ),
        ),
      )

pub check_passes : (retailer : ℕ) (distributors file : List ℕ)
    → (check_of retailer distributors file ≡ passed) ↔ ((settings_fit retailer distributors ≡ true) × (is_too_large file ≡ false) × Passing retailer distributors (lines_of file))
unfolding check_of
check_passes retailer distributors file = (from, to)
  where
    from : first_refusal (check_refusals retailer distributors file) ≡ passed → (settings_fit retailer distributors ≡ true) × (is_too_large file ≡ false) × Passing retailer distributors (lines_of file)
    from e =
        let none = passes_none (check_refusals retailer distributors file) (check_numbered retailer distributors file) (ap (λ (o : Outcome). o.number) e) in
        ((denied (settings_fit retailer distributors)).0 none.0, none.1.0, (tests_none retailer distributors (lines_of file)).0 none.1.1)

    to : (settings_fit retailer distributors ≡ true) × (is_too_large file ≡ false) × Passing retailer distributors (lines_of file) → first_refusal (check_refusals retailer distributors file) ≡ passed
    to h = none_passes (check_refusals retailer distributors file) ((denied (settings_fit retailer distributors)).1 h.0, (h.1, (tests_none retailer distributors (lines_of file)).1 h.2))
