-- Laws of columns that are made of other columns.
--     tabled_length, tabled_at                   what a column of f at 0 to n - 1 is
--     Tabling, tabling_none, -more, -end         a loop that fills the front of a column with f of each place, and has passed i places
--     Marked, marked_none, -parent, -more        the nearest record of each type that can be asked for, kept in an array while a loop passes the records
--     parent_before, parent_type_there, parent_none, parent_is     what the record is that a record hangs under
--     parents_length, parent_at, picked_length, picked_at_lem, picked_small, place_at, one_at    the four columns at a place
-- Assumes nothing.
use mathlib.Core.Path.{◌≡◌, refl, sym, ◌∙◌, ap, subst}
use mathlib.Core.Bool.{Bool, true, false, cond}
use mathlib.Core.List.{List, [], ◌∷◌, ◌++◌}
use Prim.Native.Nat.{ℕ, zero, suc, ◌+◌, ◌≤◌, ◌<◌}
use native.Mathlib.Nat.{zero-add, add-zero, add-suc, suc-add, le_of_suc-le-suc, not-suc-le-zero}
use native.Mathlib.Numerals.{add-one}
use native.Mathlib.Omega.{arith}
use native.Mathlib.Decide.{dec_lt, ℕ_discrete}
use borrow.Author.Tests.{eq-eqb, ne_eqb, eqb-true, eqb-false, lt-ltb, le-ltb, ltb-true}
use lib.Dec.{eqb, ltb, ltb→lt, eqb→eq}
use lib.ListN.{length, get_or, drop, set, length-set}
use lib.Seq.{drop-cons, set_at, append_snoc, get_or-set_same, get_or-set_other}
use Rattle.lists.specs.Below.{nearest_below}
use Rattle.lists.proofs.Below.{nearest_more, nearest_kept, nearest_at_most, nearest_holds, nearest_none, nearest_is}
use Rattle.lists.proofs.Table.{every_at}
use Rattle.tables.specs.Types.{parent_type, parent_types}
use Rattle.tables.specs.Groups.{at, of_type, parent_place, tabled, parent_places, picked_at, picked, all_places, ones}

-- ---- f at 0 to n - 1
module _ (f : ℕ → ℕ) where
  pub tabled_length : (n i : ℕ) → length (tabled f i n) ≡ n
  unfolding tabled
  tabled_length zero i = refl
  tabled_length (suc n) i = ap suc (tabled_length n (suc i))

  tabled_from : (n i k : ℕ) → k < n → get_or (tabled f i n) k 0 ≡ f (i + k)
  unfolding tabled
  tabled_from zero i k h = absurd (not-suc-le-zero h)
  tabled_from (suc n) i zero h = rw add-zero
  tabled_from (suc n) i (suc k) h = tabled_from n (suc i) k (le_of_suc-le-suc h) ∙ ap f (suc-add i k ∙ sym (add-suc i k))

  pub tabled_at : (n k : ℕ) → k < n → get_or (tabled f 0 n) k 0 ≡ f k
  tabled_at n k h = tabled_from n 0 k h ∙ ap f (zero-add k)

  tabled_snoc : (n i : ℕ) → tabled f i (suc n) ≡ tabled f i n ++ (f (i + n) ∷ [])
  unfolding tabled
  tabled_snoc zero i = rw add-zero
  tabled_snoc (suc n) i = ap (λ (r : List ℕ). f i ∷ r) (tabled_snoc n (suc i) ∙ ap (λ (k : ℕ). tabled f (suc i) n ++ (f k ∷ [])) (suc-add i n ∙ sym (add-suc i n)))

  -- ---- a loop that has passed i places
  module _ (col₀ : List ℕ) where
    abbrev pub Tabling : ℕ → List ℕ → Type 0
    Tabling i col = col ≡ tabled f 0 i ++ drop i col₀

    pub tabling_none : Tabling 0 col₀
    unfolding tabled
    tabling_none = refl

    pub tabling_more : (i : ℕ) (col : List ℕ) (v : ℕ) → i < length col₀ → Tabling i col → v ≡ f i → Tabling (i + 1) (set col i v)
    tabling_more i col v l p e =
        rw (p, e, drop-cons col₀ i 0 l, add-one)
        (set_at (tabled f 0 i) (get_or col₀ i 0) (drop (suc i) col₀) (f i) i (tabled_length i 0)
        ∙ rw (tabled_snoc i 0, zero-add) (sym (append_snoc (tabled f 0 i) (f i) (drop (suc i) col₀))))

    pub tabling_end : (n i : ℕ) (col : List ℕ) → i ≡ n → Tabling i col → Tabling n col
    tabling_end n i col e p = subst (λ (k : ℕ). Tabling k col) e p

-- ---- the nearest record of each type that can be asked for
pub parent_type_small : (t : ℕ) → parent_type t < 10
unfolding parent_type
parent_type_small t = go (ltb t 9) refl
  where
    go : (b : Bool) → ltb t 9 ≡ b → cond b (get_or parent_types t 0) 9 < 10
    go true e = ltb→lt (get_or parent_types t 0) 10 (every_at (λ (k x : ℕ). ltb x 10) parent_types 9 t (ltb-true t 9 e) tt refl)
    go false e = omega arith

-- the place at which the nearest record of a type is kept
pub slot_small : (t slot : ℕ) → slot ≡ cond (ltb t 10) t 10 → slot < 11
slot_small t slot e = go (dec_lt t 10)
  where
    go : Dec (t < 10) → slot < 11
    go (yes h) = omega (arith, rw (lt-ltb t 10 h) at e)
    go (no h) = omega (arith, rw (le-ltb t 10 (omega (arith, h))) at e)

zeros : List ℕ
zeros = 0 ∷ 0 ∷ 0 ∷ 0 ∷ 0 ∷ 0 ∷ 0 ∷ 0 ∷ 0 ∷ 0 ∷ 0 ∷ []

module _ (types : List ℕ) where
  abbrev pub Marked : ℕ → List ℕ → Type 0
  Marked i nearest = (length nearest ≡ 11) × ((t : ℕ) → t < 10 → get_or nearest t 0 ≡ nearest_below (of_type types t) i)

  pub marked_none : Marked 0 (0 ∷ 0 ∷ 0 ∷ 0 ∷ 0 ∷ 0 ∷ 0 ∷ 0 ∷ 0 ∷ 0 ∷ 0 ∷ [])
  unfolding nearest_below zeros
  marked_none = (refl, λ t h. eqb→eq (get_or zeros t 0) 0 (every_at (λ (k x : ℕ). eqb x 0) zeros 11 t (omega arith) tt refl))

  module _ (i : ℕ) (nearest : List ℕ) (p : Marked i nearest) where
    -- what is kept for the type that the record at i asks for is the record that it hangs under
    pub marked_parent : (asked : ℕ) → asked ≡ parent_type (at types i) → get_or nearest asked 0 ≡ parent_place types i
    unfolding parent_place
    marked_parent asked e = rw e (p.1 (parent_type (at types i)) (parent_type_small (at types i)))

    module _ (slot : ℕ) (e : slot ≡ cond (ltb (at types i) 10) (at types i) 10) where
      elsewhere : (t : ℕ) → t < 10 → (at types i ≡ t → ⊥) → t ≡ slot → ⊥
      elsewhere t h q s = other (dec_lt (at types i) 10)
        where
          other : Dec (at types i < 10) → ⊥
          other (yes a) = q (sym (rw (lt-ltb (at types i) 10 a) at e) ∙ sym s)
          other (no a) = omega (arith, rw (le-ltb (at types i) 10 (omega (arith, a))) at e)

      after : (t : ℕ) → t < 10 → Dec (at types i ≡ t) → get_or (set nearest slot (i + 1)) t 0 ≡ nearest_below (of_type types t) (i + 1)
      after t h (yes q) =
          let here : slot ≡ t = (rw (lt-ltb (at types i) 10 (omega (arith, q))) at e) ∙ q in
          rw here (get_or-set_same nearest t (i + 1) 0 (omega (arith, p.0)) ∙ sym (nearest_more (of_type types t) i (eq-eqb (at types i) t q)))
      after t h (no q) =
          get_or-set_other nearest slot t (i + 1) 0 (elsewhere t h q) ∙ p.1 t h ∙ sym (nearest_kept (of_type types t) i (ne_eqb (at types i) t q))

      pub marked_more : Marked (i + 1) (set nearest slot (i + 1))
      marked_more = (length-set nearest slot (i + 1) ∙ p.0, λ t h. after t h (ℕ_discrete (at types i) t))

-- ---- the record that a record hangs under
module _ (types : List ℕ) (i : ℕ) where
  pub parent_before : parent_place types i ≤ i
  unfolding parent_place
  parent_before = nearest_at_most (of_type types (parent_type (at types i))) i

  -- it has the type that is asked for, and no record between the two has that type
  pub parent_type_there : (j : ℕ) → parent_place types i ≡ suc j
      → (at types j ≡ parent_type (at types i)) × ((k : ℕ) → j < k → k < i → at types k ≡ parent_type (at types i) → ⊥)
  unfolding parent_place
  parent_type_there j e =
      let r = nearest_holds (of_type types (parent_type (at types i))) i j e in
      (eqb-true (at types j) (parent_type (at types i)) r.0, λ k a b. eqb-false (at types k) (parent_type (at types i)) (r.1 k a b))

  -- where it hangs under none, no earlier record has that type
  pub parent_none : parent_place types i ≡ 0 → (k : ℕ) → k < i → at types k ≡ parent_type (at types i) → ⊥
  unfolding parent_place
  parent_none e k h = eqb-false (at types k) (parent_type (at types i)) (nearest_none (of_type types (parent_type (at types i))) i e k h)

  -- the nearest earlier record of that type is the one
  pub parent_is : (j : ℕ) → j < i → at types j ≡ parent_type (at types i) → ((k : ℕ) → j < k → k < i → at types k ≡ parent_type (at types i) → ⊥)
      → parent_place types i ≡ suc j
  unfolding parent_place
  parent_is j h e none =
      nearest_is (of_type types (parent_type (at types i))) i j h (eq-eqb (at types j) (parent_type (at types i)) e)
      (λ k a b. ne_eqb (at types k) (parent_type (at types i)) (none k a b))

-- ---- the four columns
-- what is picked, or 0, is no more than what may be picked
pub picked_small : (b : Bool) {n value : ℕ} → value ≤ n → cond b value 0 ≤ n
picked_small true h = h
picked_small false h = omega arith

module _ (types : List ℕ) where
  pub parents_length : length (parent_places types) ≡ length types
  parents_length = tabled_length (parent_place types) (length types) 0

  pub parent_at : (i : ℕ) → i < length types → get_or (parent_places types) i 0 ≡ parent_place types i
  parent_at i h = tabled_at (parent_place types) (length types) i h

  module _ (values : List ℕ) (low high : ℕ) where
    pub picked_length : length (picked types values low high) ≡ length types
    unfolding picked
    picked_length = tabled_length (picked_at types values low high) (length types) 0

    pub picked_at_lem : (i : ℕ) → i < length types → get_or (picked types values low high) i 0 ≡ picked_at types values low high i
    unfolding picked
    picked_at_lem i h = tabled_at (picked_at types values low high) (length types) i h

module _ (n : ℕ) where
  pub place_at : (i : ℕ) → i < n → get_or (all_places n) i 0 ≡ i + 1
  unfolding all_places
  place_at i h = tabled_at (λ (i : ℕ). i + 1) n i h

  pub one_at : (i : ℕ) → i < n → get_or (ones n) i 0 ≡ 1
  unfolding ones
  one_at i h = tabled_at (λ (i : ℕ). 1) n i h
