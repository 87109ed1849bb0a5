-- What tests 9, 10, 17 and 38 find, in plain terms: a test that ends at the number of records has found nothing, and each law says what that means.
--     distinct_ids       test 9: no two records have the same Record ID
--     alike              tests 10, 17, 38: each record that has a place has its own value equal to that of the record there
--     parent_ids         test 10: each record's Parent ID is the Record ID of the nearest earlier record of the type that its own asks for
--     every_parent       in a file whose types follow each other as test 4 asks, each record but the first hangs under one
-- Assumes nothing.
use mathlib.Core.Path.{◌≡◌, refl, sym, ◌∙◌}
use mathlib.Core.Bool.{Bool, true, false, cond, not, ◌&&◌, ◌||◌}
use mathlib.Core.List.{List}
use mathlib.Core.Logic.{◌↔◌}
use Prim.Native.Nat.{ℕ, zero, suc, ◌-◌, ◌<◌}
use native.Mathlib.Omega.{arith}
use borrow.Author.Tests.{eq-eqb, ne_eqb, eqb-true, eqb-false, ltb-true, not-false}
use lib.Dec.{eqb, ltb}
use lib.ListN.{length}
use Rattle.lists.specs.Below.{first_from, first_below, some_below}
use Rattle.lists.proofs.Below.{none_below, none_is_end, some_none, none_some}
use Rattle.tables.specs.Types.{FH, parent_type, may_follow}
use Rattle.tables.specs.Groups.{at, parent_place, parent_places}
use Rattle.tables.proofs.RecordTypes.{parents_length, parent_at, parent_before, parent_type_there, parent_none, parent_is}
use Rattle.identity.specs.Identity.{repeats, first_repeated, unlike, first_unlike}

-- ---- test 9
pub distinct_ids : (ids : List ℕ) → (first_repeated ids ≡ length ids) ↔ ((i j : ℕ) → i < j → j < length ids → at ids i ≡ at ids j → ⊥)
unfolding first_repeated repeats
distinct_ids ids = (
  λ e i j h l. eqb-false (at ids i) (at ids j) (some_none (λ (k : ℕ). eqb (at ids k) (at ids j)) j (none_below (repeats ids) (length ids) e j l) i h),
  λ none. none_is_end (repeats ids) (length ids) (λ j l. none_some (λ (k : ℕ). eqb (at ids k) (at ids j)) j (λ i h. ne_eqb (at ids i) (at ids j) (none i j h l))),
)

-- ---- tests 10, 17 and 38
some_place : (j : ℕ) → eqb (suc j) 0 ≡ false
some_place j = ne_eqb (suc j) 0 (λ e. omega arith)

place_less_one : (j : ℕ) → suc j - 1 ≡ j
place_less_one j = omega arith

module _ (places own theirs : List ℕ) where
  like_at : (i j : ℕ) → at places i ≡ suc j → unlike places own theirs i ≡ false → at own i ≡ at theirs j
  unfolding unlike
  like_at i j q e = eqb-true (at own i) (at theirs j) (not-false _ (rw (q, some_place, place_less_one) at e))

  at_like : (i : ℕ) → ((j : ℕ) → at places i ≡ suc j → at own i ≡ at theirs j) → unlike places own theirs i ≡ false
  unfolding unlike
  at_like i same = go (at places i) refl
    where
      go : (p : ℕ) → at places i ≡ p → unlike places own theirs i ≡ false
      go zero q = rw q
      go (suc j) q = rw (q, some_place, place_less_one, eq-eqb (at own i) (at theirs j) (same j q))

  pub alike : (first_unlike places own theirs ≡ length places) ↔ ((i j : ℕ) → i < length places → at places i ≡ suc j → at own i ≡ at theirs j)
  unfolding first_unlike
  alike = (
    λ e i j h q. like_at i j q (none_below (unlike places own theirs) (length places) e i h),
    λ same. none_is_end (unlike places own theirs) (length places) (λ i h. at_like i (λ j q. same i j h q)),
  )

-- ---- test 10, for the records that a file's records hang under
-- the record at j is the nearest before the one at i that has the type that it asks for
abbrev pub Nearest : List ℕ → ℕ → ℕ → Type 0
Nearest types i j = (j < i) × (at types j ≡ parent_type (at types i)) × ((k : ℕ) → j < k → k < i → at types k ≡ parent_type (at types i) → ⊥)

module _ (types : List ℕ) (i j : ℕ) (h : i < length types) where
  nearest_place : Nearest types i j → at (parent_places types) i ≡ suc j
  nearest_place near = parent_at types i h ∙ parent_is types i j near.0 near.1 near.2

  place_nearest : at (parent_places types) i ≡ suc j → Nearest types i j
  place_nearest q =
      let there : parent_place types i ≡ suc j = sym (parent_at types i h) ∙ q in
      let r = parent_type_there types i j there in
      (omega (arith, there, parent_before types i), r.0, r.1)

module _ (types parents ids : List ℕ) where
  pub parent_ids : (first_unlike (parent_places types) parents ids ≡ length types)
      ↔ ((i j : ℕ) → i < length types → Nearest types i j → at parents i ≡ at ids j)
  parent_ids =
      let law = alike (parent_places types) parents ids in
      let same : length (parent_places types) ≡ length types = parents_length types in (
        λ e i j h near. law.0 (e ∙ sym same) i j (omega (arith, same)) (nearest_place types i j h near),
        λ each. law.1 (λ i j h q. let l : i < length types = omega (arith, same) in each i j l (place_nearest types i j l q)) ∙ same,
      )

-- ---- each record but the first has a parent
-- a record of the type t hangs under one of the type u, or under a record that does
above : ℕ → ℕ → Bool
above u t = eqb u (parent_type t) || (eqb u (parent_type (parent_type t)) || eqb u (parent_type (parent_type (parent_type t))))

-- the table of test 4 never does this: t follows p, and a type above t is neither p nor above p
amiss : ℕ → ℕ → ℕ → Bool
amiss p t u = may_follow p t && (above u t && not (eqb u p || above u p))

-- nor this: a type that hangs under none follows another
rootless : ℕ → ℕ → Bool
rootless p t = may_follow p t && not (ltb (parent_type t) 9)

none_amiss : some_below (λ (p : ℕ). some_below (λ (t : ℕ). some_below (amiss p t) 9) 9) 9 ≡ false
unfolding some_below first_below first_from amiss above may_follow parent_type
none_amiss = refl

none_rootless : some_below (λ (p : ℕ). some_below (rootless p) 9) 9 ≡ false
unfolding some_below first_below first_from rootless may_follow parent_type
none_rootless = refl

none_above_FH : some_below (λ (u : ℕ). above u FH) 9 ≡ false
unfolding some_below first_below first_from above parent_type
none_above_FH = refl

false_true : {A : Type 0} → false ≡ true → A
false_true e = let z : ◌≡◌ {A = ℕ} 0 1 = cc in absurd (omega arith)

both : (a b : Bool) → (a && b) ≡ true → (a ≡ true) × (b ≡ true)
both true b e = (refl, e)
both false b e = false_true e

-- what may follow is one of the nine types, and so is what it follows
follow_types : (p t : ℕ) → may_follow p t ≡ true → (p < 9) × (t < 9)
unfolding may_follow
follow_types p t e = go (ltb p 9 && ltb t 9) refl _ e
  where
    go : (b : Bool) → (ltb p 9 && ltb t 9) ≡ b → (x : Bool) → cond b x false ≡ true → (p < 9) × (t < 9)
    go true q x f = let r = both (ltb p 9) (ltb t 9) q in (ltb-true p 9 r.0, ltb-true t 9 r.1)
    go false q x f = false_true f

module _ (p t : ℕ) (e : may_follow p t ≡ true) where
  follow_above : (u : ℕ) → u < 9 → above u t ≡ true → (eqb u p || above u p) ≡ true
  unfolding amiss
  follow_above u h a = go (eqb u p || above u p) refl
    where
      tested : amiss p t u ≡ false
      tested =
          let r = follow_types p t e in
          some_none (amiss p t) 9
          (some_none (λ (t : ℕ). some_below (amiss p t) 9) 9 (some_none (λ (p : ℕ). some_below (λ (t : ℕ). some_below (amiss p t) 9) 9) 9 none_amiss p r.0) t r.1) u h

      go : (b : Bool) → (eqb u p || above u p) ≡ b → (eqb u p || above u p) ≡ true
      go true q = q
      go false q = false_true (sym tested ∙ rw (e, a, q))

  follow_parent : parent_type t < 9
  unfolding rootless
  follow_parent = go (ltb (parent_type t) 9) refl
    where
      tested : rootless p t ≡ false
      tested = let r = follow_types p t e in some_none (rootless p) 9 (some_none (λ (p : ℕ). some_below (rootless p) 9) 9 none_rootless p r.0) t r.1

      go : (b : Bool) → ltb (parent_type t) 9 ≡ b → parent_type t < 9
      go true q = ltb-true (parent_type t) 9 q
      go false q = false_true (sym tested ∙ rw (e, q))

parent_above : (t : ℕ) → above (parent_type t) t ≡ true
unfolding above
parent_above t = rw (eq-eqb (parent_type t) (parent_type t) refl)

-- a record before the one at i has the type u
Before : List ℕ → ℕ → ℕ → Type 0
Before types u i = (j : ℕ) × (j < i) × (at types j ≡ u)

module _ (types : List ℕ) (first : at types 0 ≡ FH) (follow : (i : ℕ) → 0 < i → i < length types → may_follow (at types (i - 1)) (at types i) ≡ true) where
  follow_next : (i : ℕ) → suc i < length types → may_follow (at types i) (at types (suc i)) ≡ true
  follow_next i h = rw place_less_one at (follow (suc i) (omega arith) h)

  -- each type above that of the record at i stands before i
  above_before : (i u : ℕ) → i < length types → u < 9 → above u (at types i) ≡ true → Before types u i
  unfolding Before
  above_before zero u l h a = false_true (sym (some_none (λ (u : ℕ). above u FH) 9 none_above_FH u h) ∙ (rw first at a))
  above_before (suc i) u l h a = go (eqb u (at types i)) refl (follow_above (at types i) (at types (suc i)) (follow_next i l) u h a) (above_before i u (omega arith) h)
    where
      go : (b : Bool) → eqb u (at types i) ≡ b → (b || above u (at types i)) ≡ true → (above u (at types i) ≡ true → Before types u i) → Before types u (suc i)
      go true q r earlier = (i, omega arith, sym (eqb-true u (at types i) q))
      go false q r earlier = let w = earlier r in (w.0, omega (arith, w.1), w.2)

  pub every_parent : (i : ℕ) → 0 < i → i < length types → 0 < parent_place types i
  unfolding Before
  every_parent zero h l = absurd (omega arith)
  every_parent (suc i) h l = go (parent_place types (suc i)) refl
    where
      parent : Before types (parent_type (at types (suc i))) (suc i)
      parent = above_before (suc i) (parent_type (at types (suc i))) l (follow_parent (at types i) (at types (suc i)) (follow_next i l)) (parent_above (at types (suc i)))

      go : (p : ℕ) → parent_place types (suc i) ≡ p → 0 < parent_place types (suc i)
      go zero q = absurd (parent_none types (suc i) q parent.0 parent.1 parent.2)
      go (suc p) q = omega (arith, q)
