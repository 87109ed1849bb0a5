-- Test 6: which conditional fields a record must have, type by type, and what the test means.
--     empty_among                              whether one of some fields is empty
--     period_lacks, usage_lacks, demand_lacks, charge_lacks, other_lacks    what test 6 asks of a record of each type
--     IsRatchet, one_of, ratchet_counts       the demand types that are ratchets
--     period_found, period_none               the line of the nearest TH: it stands before the record, none nearer; there is none
--     test_6                                  exactly the lines that are populated pass
-- Assumes nothing.
use mathlib.Core.Path.{◌≡◌, refl, sym, ◌∙◌, ap}
use mathlib.Core.List.{List, [], ◌∷◌}
use mathlib.Core.Logic.{◌↔◌, ◌⊎◌, inl, inr, ⊎_elim}
use mathlib.Core.Bool.{Bool, true, false, cond, ◌&&◌, ◌||◌, true≢false, false≢true}
use Prim.Native.Nat.{ℕ, suc, ◌+◌, ◌-◌, ◌≤◌, ◌<◌}
use native.Mathlib.Omega.{arith}
use native.Mathlib.Decide.{dec_lt}
use borrow.Author.Tests.{eqb-true, eqb-false, eq-eqb, ne_eqb}
use lib.Dec.{eqb, ltb}
use lib.ListN.{length, get_or}
use lib.IntN.{pos, negsuc}
use Rattle.lists.specs.Below.{first_from, first_below, some_below}
use Rattle.lists.specs.Written.{written}
use Rattle.amounts.specs.declared.Amount.{Amount}
use Rattle.amounts.specs.declared.Amount.TheVariants.{Missing, Value as Units, Misses}
use Rattle.amounts.specs.Amounts.{amount_of}
use Rattle.lists.proofs.Below.{some_none, none_some, nearest_is, none_nearest}
use Rattle.lists.proofs.Reflected.{none_fails, not_both, same_bytes_is, empty_is}
use Rattle.records.specs.Records.{field, type_in}
use Rattle.tables.specs.Types.{TH, DU, DD, OC}
use Rattle.format.specs.Format.{line_at, is_empty}
use Rattle.format.specs.Meaning.{AllFilled, Populated}
use Rattle.format.specs.Conditional.{has_code, is_energized, is_one_of, ratchets, is_cancel, has_cumulative_meter, is_metered_while_energized, is_ratchet, period_before, lacks_one_of, unpopulated, first_unpopulated}

-- one of `count` fields of a line from `first` on is empty
abbrev pub empty_among : ℕ → ℕ → List ℕ → Bool
empty_among first count line = some_below (λ (j : ℕ). is_empty (field (first + j) line)) count

-- ---- type by type: the condition, and the fields that it asks for
two_rows : (c a b : Bool) → (c && a) || ((c && b) || false) ≡ (c && ltb (cond a 0 (cond b 1 2)) 2)
two_rows false a b = refl
two_rows true true b = refl
two_rows true false true = refl
two_rows true false false = refl

seven_rows : (m s a b c d e f g : Bool)
    → (m && a) || (((s && m) && b) || (((s && m) && c) || (((s && m) && d) || (((s && m) && e) || (((s && m) && f) || (((s && m) && g) || false))))))
    ≡ (m && cond s (ltb (cond a 0 (cond b 1 (cond c 2 (cond d 3 (cond e 4 (cond f 5 (cond g 6 7))))))) 7) (ltb (cond a 0 1) 1))
seven_rows false true a b c d e f g = refl
seven_rows false false a b c d e f g = refl
seven_rows true false true b c d e f g = refl
seven_rows true false false b c d e f g = refl
seven_rows true true true b c d e f g = refl
seven_rows true true false true c d e f g = refl
seven_rows true true false false true d e f g = refl
seven_rows true true false false false true e f g = refl
seven_rows true true false false false false true f g = refl
seven_rows true true false false false false false true g = refl
seven_rows true true false false false false false false true = refl
seven_rows true true false false false false false false false = refl

module _ (line period : List ℕ) where
  pub period_lacks : type_in line ≡ TH → unpopulated line period ≡ (has_code 7 "Y" line && empty_among 8 2 line)
  unfolding unpopulated lacks_one_of is_cancel has_cumulative_meter is_metered_while_energized is_ratchet some_below first_below first_from
  period_lacks e = rw e (two_rows (has_code 7 "Y" line) (is_empty (field 8 line)) (is_empty (field 9 line)))

  pub usage_lacks : type_in line ≡ DU → unpopulated line period ≡ (has_code 8 "C" line && cond (is_energized period) (empty_among 9 7 line) (empty_among 9 1 line))
  unfolding unpopulated lacks_one_of is_cancel has_cumulative_meter is_metered_while_energized is_ratchet some_below first_below first_from
  usage_lacks e =
      rw e
      (seven_rows (has_code 8 "C" line) (is_energized period) (is_empty (field 9 line)) (is_empty (field 10 line)) (is_empty (field 11 line)) (is_empty (field 12 line)) (is_empty (field 13 line))
      (is_empty (field 14 line)) (is_empty (field 15 line)))

  pub demand_lacks : type_in line ≡ DD → unpopulated line period ≡ (is_one_of ratchets (amount_of 4 0 (field 8 line)) && empty_among 12 2 line)
  unfolding unpopulated lacks_one_of is_cancel has_cumulative_meter is_metered_while_energized is_ratchet some_below first_below first_from
  demand_lacks e = rw e (two_rows (is_one_of ratchets (amount_of 4 0 (field 8 line))) (is_empty (field 12 line)) (is_empty (field 13 line)))

  pub charge_lacks : type_in line ≡ OC → unpopulated line period ≡ (has_code 6 "Y" line && empty_among 7 2 line)
  unfolding unpopulated lacks_one_of is_cancel has_cumulative_meter is_metered_while_energized is_ratchet some_below first_below first_from
  charge_lacks e = rw e (two_rows (has_code 6 "Y" line) (is_empty (field 7 line)) (is_empty (field 8 line)))

  pub other_lacks : (type_in line ≡ TH → ⊥) → (type_in line ≡ DU → ⊥) → (type_in line ≡ DD → ⊥) → (type_in line ≡ OC → ⊥) → unpopulated line period ≡ false
  unfolding unpopulated lacks_one_of
  other_lacks period usage demand charge = rw (ne_eqb (type_in line) TH period, ne_eqb (type_in line) DU usage, ne_eqb (type_in line) DD demand, ne_eqb (type_in line) OC charge)

-- ---- the line of the nearest TH
module _ (lines : List (List ℕ)) (i : ℕ) where
  abbrev is_period_at : ℕ → Bool
  is_period_at j = eqb (type_in (line_at lines j)) TH

  pub period_found : (j : ℕ) → j < i → type_in (line_at lines j) ≡ TH → ((k : ℕ) → j < k → k < i → type_in (line_at lines k) ≡ TH → ⊥) → period_before lines i ≡ line_at lines j
  unfolding period_before
  period_found j h is nearest =
      ap (λ (m : ℕ). get_or ([] ∷ lines) m []) (nearest_is is_period_at i j h (eq-eqb (type_in (line_at lines j)) TH is) (λ k l m. ne_eqb (type_in (line_at lines k)) TH (nearest k l m)))

  pub period_none : ((k : ℕ) → k < i → type_in (line_at lines k) ≡ TH → ⊥) → period_before lines i ≡ []
  unfolding period_before
  period_none none = ap (λ (m : ℕ). get_or ([] ∷ lines) m []) (none_nearest is_period_at i (λ k l. ne_eqb (type_in (line_at lines k)) TH (none k l)))

-- ---- what the test means
module _ (low high count : ℕ) (size : low + count ≡ suc high) (line : List ℕ) where
  all_filled : (empty_among low count line ≡ false) ↔ AllFilled low high line
  all_filled = (filled, λ all. none_some _ count (λ j h. ne_eqb (length (field (low + j) line)) 0 (λ z. all (low + j) (omega arith) (omega (arith, size)) ((empty_is (field (low + j) line)).0 z))))
    where
      filled : empty_among low count line ≡ false → AllFilled low high line
      filled e k l h empty =
          let past : low + (k - low) ≡ k = omega arith in
          let some : is_empty (field (low + (k - low)) line) ≡ false = some_none (λ (j : ℕ). is_empty (field (low + j) line)) count e (k - low) (omega (arith, size)) in
          true≢false (sym (rw (past, empty) refl) ∙ some)

abbrev pub IsRatchet : ℕ → Type 0
IsRatchet n = (n ≡ 4100) ⊎ ((n ≡ 4110) ⊎ ((n ≡ 4120) ⊎ (n ≡ 4200)))

pub one_of : (a : Amount) → is_one_of ratchets a ≡ true → (n : ℕ) × (a ≡ Units (pos n)) × IsRatchet n
one_of Missing e = absurd (false≢true e)
one_of (Units (pos n)) e = (n, refl, go (eqb 4100 n) (eqb 4110 n) (eqb 4120 n) (eqb 4200 n) refl refl refl refl e)
  where
    go : (a b c d : Bool) → eqb 4100 n ≡ a → eqb 4110 n ≡ b → eqb 4120 n ≡ c → eqb 4200 n ≡ d → a || (b || (c || (d || false))) ≡ true → IsRatchet n
    go true b c d p q r s e = inl (sym (eqb-true 4100 n p))
    go false true c d p q r s e = inr (inl (sym (eqb-true 4110 n q)))
    go false false true d p q r s e = inr (inr (inl (sym (eqb-true 4120 n r))))
    go false false false true p q r s e = inr (inr (inr (sym (eqb-true 4200 n s))))
    go false false false false p q r s e = absurd (false≢true e)
one_of (Units (negsuc n)) e = absurd (false≢true e)
one_of Misses e = absurd (false≢true e)

pub ratchet_counts : (a : Amount) (n : ℕ) → a ≡ Units (pos n) → IsRatchet n → is_one_of ratchets a ≡ true
ratchet_counts a n e r = rw e (⊎_elim (λ q. rw q) (⊎_elim (λ q. rw q) (⊎_elim (λ q. rw q) (λ q. rw q))) r)

module _ (line period : List ℕ) where
  populated_is : (unpopulated line period ≡ false) ↔ Populated line period
  populated_is = (passes, λ p. holds p (eqb (type_in line) TH) (eqb (type_in line) DU) (eqb (type_in line) DD) (eqb (type_in line) OC) refl refl refl refl)
    where
      passes : unpopulated line period ≡ false → Populated line period
      passes e =
          record {
            cancelled_period = λ is y. (all_filled 8 9 2 refl line).0 ((not_both (has_code 7 "Y" line) _).0 (sym (period_lacks line period is) ∙ e) ((same_bytes_is (field 7 line) (written "Y")).1 y));
            meter = λ is m. (all_filled 9 9 1 refl line).0 (first (is_energized period) ((not_both (has_code 8 "C" line) _).0 (sym (usage_lacks line period is) ∙ e) ((same_bytes_is (field 8 line) (written "C")).1 m)));
            readings = λ is s m k l h. (all_filled 9 15 7 refl line).0
                (rw ((same_bytes_is (field 11 period) (written "E")).1 s) at ((not_both (has_code 8 "C" line) _).0 (sym (usage_lacks line period is) ∙ e) ((same_bytes_is (field 8 line) (written "C")).1 m))) k (omega arith) h;
            ratchet = λ is n a r. (all_filled 12 13 2 refl line).0 ((not_both (is_one_of ratchets (amount_of 4 0 (field 8 line))) _).0 (sym (demand_lacks line period is) ∙ e) (ratchet_counts (amount_of 4 0 (field 8 line)) n a r));
            cancelled_charge = λ is y. (all_filled 7 8 2 refl line).0 ((not_both (has_code 6 "Y" line) _).0 (sym (charge_lacks line period is) ∙ e) ((same_bytes_is (field 6 line) (written "Y")).1 y));
          }
        where
          first : (s : Bool) → cond s (empty_among 9 7 line) (empty_among 9 1 line) ≡ false → empty_among 9 1 line ≡ false
          first true q = (all_filled 9 9 1 refl line).1 (λ k l h. (all_filled 9 15 7 refl line).0 q k l (omega arith))
          first false q = q

      holds : Populated line period → (th du dd oc : Bool) → eqb (type_in line) TH ≡ th → eqb (type_in line) DU ≡ du → eqb (type_in line) DD ≡ dd → eqb (type_in line) OC ≡ oc
          → unpopulated line period ≡ false
      holds p true du dd oc a b c d =
          let is = eqb-true (type_in line) TH a in
          period_lacks line period is ∙ (not_both (has_code 7 "Y" line) _).1 (λ y. (all_filled 8 9 2 refl line).1 (p.cancelled_period is ((same_bytes_is (field 7 line) (written "Y")).0 y)))
      holds p false true dd oc a b c d =
          let is = eqb-true (type_in line) DU b in
          usage_lacks line period is ∙ (not_both (has_code 8 "C" line) _).1 (λ m. both is ((same_bytes_is (field 8 line) (written "C")).0 m) (is_energized period) refl)
        where
          both : type_in line ≡ DU → field 8 line ≡ written "C" → (s : Bool) → is_energized period ≡ s → cond s (empty_among 9 7 line) (empty_among 9 1 line) ≡ false
          both is m true q = (all_filled 9 15 7 refl line).1 (λ k l h. either k l h (dec_lt 9 k))
            where
              either : (k : ℕ) → 9 ≤ k → k ≤ 15 → Dec (9 < k) → field k line ≡ [] → ⊥
              either k l h (yes more) = p.readings is ((same_bytes_is (field 11 period) (written "E")).0 q) m k more h
              either k l h (no more) = p.meter is m k l (omega (arith, more))
          both is m false q = (all_filled 9 9 1 refl line).1 (p.meter is m)
      holds p false false true oc a b c d =
          let is = eqb-true (type_in line) DD c in
          demand_lacks line period is
          ∙ (not_both (is_one_of ratchets (amount_of 4 0 (field 8 line))) _).1 (λ r. let w = one_of (amount_of 4 0 (field 8 line)) r in (all_filled 12 13 2 refl line).1 (p.ratchet is w.0 w.1 w.2))
      holds p false false false true a b c d =
          let is = eqb-true (type_in line) OC d in
          charge_lacks line period is ∙ (not_both (has_code 6 "Y" line) _).1 (λ y. (all_filled 7 8 2 refl line).1 (p.cancelled_charge is ((same_bytes_is (field 6 line) (written "Y")).0 y)))
      holds p false false false false a b c d =
          other_lacks line period (eqb-false (type_in line) TH a) (eqb-false (type_in line) DU b) (eqb-false (type_in line) DD c) (eqb-false (type_in line) OC d)

pub test_6 : (lines : List (List ℕ)) → (first_unpopulated lines ≡ length lines) ↔ ((i : ℕ) → i < length lines → Populated (line_at lines i) (period_before lines i))
unfolding first_unpopulated
test_6 lines =
    none_fails (λ (i : ℕ). unpopulated (line_at lines i) (period_before lines i)) (λ (i : ℕ). Populated (line_at lines i) (period_before lines i))
    (λ i. populated_is (line_at lines i) (period_before lines i)) (length lines)
