-- What the columns that the tests read say of the lines of a file.
--     type_at_lem, id_at_lem, date_kept, kept_date, cancel_at    the number of a column at a place
--     same_ids, same_cancels                equal numbers are equal IDs, and equal Indicators
--     under_is, type_under_is               the record that a record hangs under, by its place in the column of parents
--     picked_is                             a column of the records of some types
-- Assumes nothing.
use mathlib.Core.Path.{◌≡◌, refl, sym, ◌∙◌, ap}
use mathlib.Core.Logic.{◌↔◌}
use mathlib.Core.Bool.{Bool, true, false, cond, ◌&&◌}
use mathlib.Core.List.{List, []}
use Prim.Native.Nat.{ℕ, suc, ◌+◌, ◌<◌}
use native.Mathlib.Omega.{arith}
use borrow.Author.Tests.{leb-true, le-leb}
use lib.Dec.{eqb, leb, ltb}
use lib.ListN.{length}
use Rattle.std.specs.Prelude.{Option, Some, None}
use Rattle.tables.specs.Types.{parent_type}
use Rattle.columns.specs.Columns.{number_in_column, in_column, number_in, record_type, cancel}
use Rattle.columns.proofs.Laws.{map_at}
use Rattle.tables.specs.Groups.{at, parent_place, parent_places, picked_at, picked}
use Rattle.tables.proofs.RecordTypes.{parent_at, parent_before, parent_type_there, parent_is, picked_length, picked_at_lem}
use Rattle.format.specs.Format.{line_at}
use Rattle.refusals.specs.Check.{numbers, types, parents_of}
use Rattle.bill_files.specs.Passing.{type_at, id_at, date_at, is_cancel_at, is_of_type, Under, OfTypeUnder}
use Rattle.refusals.proofs.Columns.{types_length}

-- ---- columns, at a place
-- the columns of IDs, and those of dates
abbrev pub IsId : ℕ → Type 0
IsId column = (eqb column 0 ≡ false) × (ltb column 5 ≡ true)

abbrev pub IsDate : ℕ → Type 0
IsDate column = (eqb column 0 ≡ false) × (ltb column 5 ≡ false) × (ltb column 7 ≡ true)

abbrev pub marked : Bool → ℕ
marked b = cond b 1 0

module _ (lines : List (List ℕ)) (i : ℕ) (h : i < length lines) where
  number_at : (column : ℕ) → at (numbers column lines) i ≡ number_in column (line_at lines i)
  number_at column = map_at (number_in column) [] 0 lines i h

  pub type_at_lem : at (types lines) i ≡ type_at lines i
  unfolding number_in
  type_at_lem = number_at record_type

  -- a column of IDs
  pub id_at_lem : (column : ℕ) → IsId column → at (numbers column lines) i ≡ number_in_column (id_at column lines i)
  unfolding number_in in_column
  id_at_lem column is = number_at column ∙ rw (is.0, is.1)

  -- one of days: a day stands as itself and one
  day_at_lem : (column : ℕ) → IsDate column → at (numbers column lines) i ≡ number_in_column (date_at column lines i)
  unfolding number_in in_column
  day_at_lem column is = number_at column ∙ rw (is.0, is.1, is.2)

  pub date_kept : (column : ℕ) → IsDate column → (day : ℕ) → date_at column lines i ≡ Some day → at (numbers column lines) i ≡ day + 1
  date_kept column is day e = day_at_lem column is ∙ ap number_in_column e

  pub kept_date : (column : ℕ) → IsDate column → (at (numbers column lines) i ≡ 0 → ⊥) → (day : ℕ) × (date_at column lines i ≡ Some day) × (at (numbers column lines) i ≡ day + 1)
  kept_date column is = go (date_at column lines i) (day_at_lem column is)
    where
      go : (x : Option ℕ) → at (numbers column lines) i ≡ number_in_column x → (at (numbers column lines) i ≡ 0 → ⊥) → (day : ℕ) × (x ≡ Some day) × (at (numbers column lines) i ≡ day + 1)
      go (Some day) e filled = (day, refl, e)
      go None e filled = absurd (filled e)

  -- and the Cancel Indicator
  pub cancel_at : at (numbers cancel lines) i ≡ marked (is_cancel_at lines i)
  unfolding number_in in_column
  cancel_at = number_at cancel

-- ---- equal numbers in columns are equal IDs and equal Indicators
same_kept : (x y : Option ℕ) → number_in_column x ≡ number_in_column y → x ≡ y
same_kept (Some m) (Some n) e = ap Some (omega (arith, e))
same_kept (Some m) None e = absurd (omega (arith, e))
same_kept None (Some n) e = absurd (omega (arith, e))
same_kept None None e = refl

pub same_marked : (a b : Bool) → marked a ≡ marked b → a ≡ b
same_marked true true e = refl
same_marked true false e = absurd (omega (arith, e))
same_marked false true e = absurd (omega (arith, e))
same_marked false false e = refl

-- a number of a column is f of what the line says, and f keeps different ones apart
module _ {A : Type 0} (f : A → ℕ) (apart : (x y : A) → f x ≡ f y → x ≡ y) where
  same_said : (m n : ℕ) (x y : A) → m ≡ f x → n ≡ f y → (m ≡ n) ↔ (x ≡ y)
  same_said m n x y p q = (λ e. apart x y (sym p ∙ e ∙ q), λ e. p ∙ ap f e ∙ sym q)

module _ (lines : List (List ℕ)) (i j : ℕ) (h : i < length lines) (k : j < length lines) where
  -- of the columns of IDs
  pub same_ids : (c d : ℕ) → IsId c → IsId d → (at (numbers c lines) i ≡ at (numbers d lines) j) ↔ (id_at c lines i ≡ id_at d lines j)
  same_ids c d p q = same_said number_in_column same_kept _ _ (id_at c lines i) (id_at d lines j) (id_at_lem lines i h c p) (id_at_lem lines j k d q)

  pub same_cancels : (at (numbers cancel lines) i ≡ at (numbers cancel lines) j) ↔ (is_cancel_at lines i ≡ is_cancel_at lines j)
  same_cancels = same_said marked same_marked _ _ (is_cancel_at lines i) (is_cancel_at lines j) (cancel_at lines i h) (cancel_at lines j k)

-- ---- the record that a record hangs under
module _ (lines : List (List ℕ)) (i j : ℕ) (h : i < length lines) where
  here : at (types lines) i ≡ type_at lines i
  here = type_at_lem lines i h

  pub under_is : (at (parent_places (types lines)) i ≡ suc j) ↔ Under lines i j
  under_is = (place_under, under_place)
    where
      known : i < length (types lines)
      known = omega (arith, types_length lines)

      place_under : at (parent_places (types lines)) i ≡ suc j → Under lines i j
      place_under q =
          let there : parent_place (types lines) i ≡ suc j = sym (parent_at (types lines) i known) ∙ q in
          let before : j < i = omega (arith, there, parent_before (types lines) i) in
          let r = parent_type_there (types lines) i j there in
          record {
            before = before;
            type = sym (type_at_lem lines j (omega arith)) ∙ r.0 ∙ ap parent_type here;
            nearest = λ k a b e. r.1 k a b (type_at_lem lines k (omega arith) ∙ e ∙ ap parent_type (sym here));
          }

      under_place : Under lines i j → at (parent_places (types lines)) i ≡ suc j
      under_place u =
          parent_at (types lines) i known
          ∙ parent_is (types lines) i j u.before (type_at_lem lines j (omega (arith, u.before)) ∙ u.type ∙ ap parent_type (sym here))
          (λ k a b e. u.nearest k a b (sym (type_at_lem lines k (omega arith)) ∙ e ∙ ap parent_type here))

  module _ (low high : ℕ) where
    pub type_under_is : (at (parents_of low high lines) i ≡ suc j) ↔ OfTypeUnder low high lines i j
    type_under_is = (
      λ e. go (leb low (at (types lines) i)) (leb (at (types lines) i) high) refl refl (sym read ∙ e),
      λ u. read ∙ rw (le-leb low (at (types lines) i) (omega (arith, here, u.0)), le-leb (at (types lines) i) high (omega (arith, here, u.1))) (under_is.1 u.2),
    )
      where
        read : at (parents_of low high lines) i ≡ picked_at (types lines) (parent_places (types lines)) low high i
        read = picked_at_lem (types lines) (parent_places (types lines)) low high i (omega (arith, types_length lines))

        go : (a b : Bool) → leb low (at (types lines) i) ≡ a → leb (at (types lines) i) high ≡ b → cond (a && b) (at (parent_places (types lines)) i) 0 ≡ suc j → OfTypeUnder low high lines i j
        go true true p q e = (omega (arith, leb-true low (at (types lines) i) p, here), omega (arith, leb-true (at (types lines) i) high q, here), under_is.0 e)
        go true false p q e = absurd (omega (arith, e))
        go false b p q e = absurd (omega (arith, e))

-- ---- records picked by their type
module _ (lines : List (List ℕ)) where
  pub picked_size : (low high : ℕ) (values : List ℕ) → length (picked (types lines) values low high) ≡ length lines
  picked_size low high values = picked_length (types lines) values low high ∙ types_length lines

  pub picked_is : (low high : ℕ) (values : List ℕ) (i : ℕ) → i < length lines → at (picked (types lines) values low high) i ≡ cond (is_of_type low high lines i) (at values i) 0
  picked_is low high values i h = picked_at_lem (types lines) values low high i (omega (arith, types_length lines)) ∙ rw (type_at_lem lines i h)
