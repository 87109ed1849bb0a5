-- What tests 29 to 32 and 34 say of the lines of a file: an owner's amount is the sum over its own records.
--     site_totals      29 and 30: an SH has the sum over the records of its Site ID
--     own_totals       31 and 32: a TH has the sum over the records that hang under it
--     file_totals      34: FT has the sum over the file
-- All three are one law, over the numbers that the records and the owners have in the columns. Assumes nothing.
use mathlib.Core.Path.{◌≡◌, refl, sym, ◌∙◌, ap, subst}
use mathlib.Core.Logic.Iff
use mathlib.Core.Logic.{◌↔◌}
use mathlib.Core.Bool.{Bool, true, false, cond, ◌&&◌}
use mathlib.Core.List.{List, [], map}
use Prim.Native.Nat.{ℕ, zero, suc, ◌+◌, ◌≤◌, ◌<◌}
use native.Mathlib.Nat.{le_refl}
use native.Mathlib.Numerals.{add-one}
use native.Mathlib.Omega.{arith}
use borrow.Author.Tests.{eqb-true, eqb-false, eq-eqb, ne_eqb, leb-true, le-leb}
use lib.Dec.{eqb, leb}
use lib.ListN.{length}
use lib.IntN.{ℤ}
use Rattle.std.specs.Prelude.{Option, Some, None}
use Rattle.amounts.specs.declared.Amount.{Amount}
use Rattle.amounts.specs.declared.Amount.TheVariants.{Missing}
use Rattle.amounts.specs.Amounts.{or_zero}
use Rattle.tables.specs.Types.{SH, TH, FT}
use Rattle.columns.specs.Columns.{number_in_column, site}
use Rattle.columns.proofs.Laws.{map_at, number_kept}
use Rattle.tables.specs.Groups.{at, parent_place, parent_places, picked, all_places, ones}
use Rattle.tables.proofs.RecordTypes.{parent_at, place_at, one_at}
use Rattle.format.specs.Format.{line_at}
use Rattle.lists.proofs.Reflected.{both_of}
use Rattle.headers.specs.Headers.{is_value}
use Rattle.totals.specs.Totals.{amount_at, group_sum}
use Rattle.totals.proofs.Meaning.{TotalsRight}
use Rattle.refusals.specs.Check.{numbers, types, sites_of, parents_of, places_of, ones_of}
use Rattle.bill_files.specs.Passing.{type_at, id_at, sum_of, is_of_type, is_of_site, is_own}
use Rattle.bill_files.proofs.Lines.{id_at_lem, picked_size, picked_is}
use Rattle.refusals.proofs.Columns.{types_length}

-- ---- one type
only_type : (t a : ℕ) → (leb a t && leb t a ≡ true) ↔ (t ≡ a)
only_type t a = (
  λ e. let q = (both_of (leb a t) (leb t a)).0 e in omega (arith, leb-true a t q.0, leb-true t a q.1),
  λ e. rw (le-leb a t (omega (arith, e)), le-leb t a (omega (arith, e))),
)

-- ---- an owner's amount is the sum over its records
-- the records of the types `low` to `high` have `values`, the owners, of the type `owner`, have `owned`: Owns i g says that the owner at i has the number g and one,
-- and counts b g k that the record at k has it, b being whether its type is one of those
module _ (lines : List (List ℕ)) (low high owner : ℕ) (values owned : List ℕ) (amount : List ℕ → Amount) (Owns : ℕ → ℕ → Type 0) (counts : Bool → ℕ → ℕ → Bool)
    (owned-is : (i g : ℕ) → i < length lines → (at owned i ≡ suc g) ↔ Owns i g)
    (counts_is : (i g : ℕ) → Owns i g → (k : ℕ) → k < length lines → (b : Bool) → eqb (cond b (at values k) 0) (suc g) ≡ counts b g k) where
  abbrev members : List ℕ
  members = picked (types lines) values low high

  abbrev owners : List ℕ
  owners = picked (types lines) owned owner owner

  abbrev total : ℕ → ℤ
  total g = sum_of (λ (k : ℕ). counts (is_of_type low high lines k) g k) (λ (k : ℕ). amount (line_at lines k)) (length lines)

  sum_is : (i g : ℕ) → Owns i g → (n : ℕ) → n ≤ length lines
      → group_sum members (map amount lines) (suc g) n ≡ sum_of (λ (k : ℕ). counts (is_of_type low high lines k) g k) (λ (k : ℕ). amount (line_at lines k)) n
  unfolding group_sum sum_of
  sum_is i g o zero h = refl
  sum_is i g o (suc n) h =
      rw (sum_is i g o n (omega arith), picked_is lines low high values n h, counts_is i g o n h (is_of_type low high lines n), map_at amount [] Missing lines n h)

  module _ (i : ℕ) (h : i < length lines) where
    owner_is : (g : ℕ) → (at owners i ≡ suc g) ↔ ((type_at lines i ≡ owner) × Owns i g)
    owner_is g = (
      λ e. go (is_of_type owner owner lines i) refl (sym (picked_is lines owner owner owned i h) ∙ e),
      λ w. picked_is lines owner owner owned i h ∙ rw ((only_type (type_at lines i) owner).1 w.0) ((owned-is i g h).1 w.1),
    )
      where
        go : (b : Bool) → is_of_type owner owner lines i ≡ b → cond b (at owned i) 0 ≡ suc g → (type_at lines i ≡ owner) × Owns i g
        go true q e = ((only_type (type_at lines i) owner).0 q, (owned-is i g h).0 e)
        go false q e = absurd (omega (arith, e))

  totals_are : TotalsRight members owners (map amount lines) ↔ ((i g : ℕ) → i < length lines → type_at lines i ≡ owner → Owns i g → or_zero (amount (line_at lines i)) ≡ total g)
  totals_are = (
    λ right i g h type o.
        let q = (owner_is i h g).1 (type, o) in
        sym (ap or_zero (map_at amount [] Missing lines i h)) ∙ sym (rw (q, size) at (right i (omega (arith, size)) (λ z. omega (arith, q)))) ∙ sum_is i g o (length lines) (le_refl (length lines)),
    λ all i h owns. let l : i < length lines = omega (arith, size) in go i l (all i) (at owners i) refl owns,
  )
    where
      size : length owners ≡ length lines
      size = picked_size lines owner owner owned

      go : (i : ℕ) → i < length lines → ((g : ℕ) → i < length lines → type_at lines i ≡ owner → Owns i g → or_zero (amount (line_at lines i)) ≡ total g)
          → (group : ℕ) → at owners i ≡ group → (at owners i ≡ 0 → ⊥) → group_sum members (map amount lines) (at owners i) (length owners) ≡ or_zero (amount_at (map amount lines) i)
      go i h all zero q owns = absurd (owns q)
      go i h all (suc g) q owns =
          let w = (owner_is i h g).0 q in
          rw (q, size) (sum_is i g w.1 (length lines) (le_refl (length lines)) ∙ sym (all g h w.0 w.1) ∙ sym (ap or_zero (map_at amount [] Missing lines i h)))

-- an owner that has one number only
one_group : (n : ℕ) (group : ℕ → ℕ) (T : ℕ → Type 0) (F : ℕ → ℕ → Type 0)
    → ((i g : ℕ) → i < n → T i → group i ≡ g → F i g) ↔ ((i : ℕ) → i < n → T i → F i (group i))
one_group n group T F = (λ all i h t. all i (group i) h t refl, λ all i g h t e. subst (F i) e (all i h t))

-- ---- the three kinds of owners
next_same : (m n : ℕ) → eqb (m + 1) (suc n) ≡ eqb m n
next_same m n = go (eqb m n) refl
  where
    go : (b : Bool) → eqb m n ≡ b → eqb (m + 1) (suc n) ≡ b
    go true e = eq-eqb (m + 1) (suc n) (omega (arith, eqb-true m n e))
    go false e = ne_eqb (m + 1) (suc n) (λ z. eqb-false m n e (omega arith))

none_next : (g : ℕ) → eqb 0 (suc g) ≡ false
none_next g = ne_eqb 0 (suc g) (λ e. omega arith)

kept_counts : (x : Option ℕ) (g : ℕ) (b : Bool) → eqb (cond b (number_in_column x) 0) (suc g) ≡ (b && is_value g x)
kept_counts (Some m) g true = next_same m g
kept_counts None g true = none_next g
kept_counts x g false = none_next g

place_counts : (place g : ℕ) (b : Bool) → eqb (cond b place 0) (suc g) ≡ (b && eqb place (suc g))
place_counts place g true = refl
place_counts place g false = none_next g

pub one_counts : (b : Bool) → eqb (cond b 1 0) 1 ≡ b
one_counts true = refl
one_counts false = refl

module _ (lines : List (List ℕ)) (low high : ℕ) (amount : List ℕ → Amount) where
  pub site_totals : TotalsRight (sites_of low high lines) (sites_of SH SH lines) (map amount lines)
      ↔ ((i s : ℕ) → i < length lines → type_at lines i ≡ SH → id_at site lines i ≡ Some s
      → or_zero (amount (line_at lines i)) ≡ sum_of (is_of_site low high lines s) (λ (k : ℕ). amount (line_at lines k)) (length lines))
  site_totals =
      totals_are lines low high SH (numbers site lines) (numbers site lines) amount (λ i s. id_at site lines i ≡ Some s) (λ b s k. b && is_value s (id_at site lines k))
      (λ i s h. (λ e. number_kept (id_at site lines i) s (sym (id_at_lem lines i h site (refl, refl)) ∙ e), λ e. id_at_lem lines i h site (refl, refl) ∙ ap number_in_column e ∙ add-one s))
      (λ i s o k h b. rw (id_at_lem lines k h site (refl, refl)) (kept_counts (id_at site lines k) s b))

  pub own_totals : TotalsRight (parents_of low high lines) (places_of TH TH lines) (map amount lines)
      ↔ ((i : ℕ) → i < length lines → type_at lines i ≡ TH → or_zero (amount (line_at lines i)) ≡ sum_of (is_own low high lines i) (λ (k : ℕ). amount (line_at lines k)) (length lines))
  own_totals =
      Iff.trans
      (totals_are lines low high TH (parent_places (types lines)) (all_places (length lines)) amount (λ i g. i ≡ g) (λ b g k. b && eqb (parent_place (types lines) k) (suc g))
      (λ i g h. (λ e. omega (arith, e, place_at (length lines) i h), λ e. omega (arith, e, place_at (length lines) i h)))
      (λ i g o k h b. rw (parent_at (types lines) k (omega (arith, types_length lines))) (place_counts (parent_place (types lines) k) g b)))
      (one_group (length lines) (λ i. i) (λ i. type_at lines i ≡ TH) (λ i g. or_zero (amount (line_at lines i)) ≡ sum_of (is_own low high lines g) (λ (k : ℕ). amount (line_at lines k)) (length lines)))

  pub file_totals : TotalsRight (ones_of low high lines) (ones_of FT FT lines) (map amount lines)
      ↔ ((i : ℕ) → i < length lines → type_at lines i ≡ FT → or_zero (amount (line_at lines i)) ≡ sum_of (is_of_type low high lines) (λ (k : ℕ). amount (line_at lines k)) (length lines))
  file_totals =
      Iff.trans
      (totals_are lines low high FT (ones (length lines)) (ones (length lines)) amount (λ i g. 0 ≡ g) (λ b g k. b)
      (λ i g h. (λ e. omega (arith, e, one_at (length lines) i h), λ e. omega (arith, e, one_at (length lines) i h)))
      (λ i g o k h b. rw (one_at (length lines) k h) (rw (← o) (one_counts b))))
      (one_group (length lines) (λ i. 0) (λ i. type_at lines i ≡ FT) (λ i g. or_zero (amount (line_at lines i)) ≡ sum_of (is_of_type low high lines) (λ (k : ℕ). amount (line_at lines k)) (length lines)))
