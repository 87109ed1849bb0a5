-- Document 01, "The file": "Where amounts that are compared or added differ in places, all are taken at the finest." By Tables 4-2 to 4-10 none differ.
--     charge_places     every field that is compared or added as a charge has two places
--     usage_places      every field that is compared or added as a usage has four
-- The test over the nine types is computed once. Assumes nothing.
use mathlib.Core.Path.{◌≡◌, refl, sym, ap}
use mathlib.Core.Bool.{Bool, true, false, not, ◌||◌, true≢false}
use Prim.Native.Nat.{ℕ, ◌-◌, ◌<◌}
use borrow.Author.Tests.{eqb-true, ne_eqb}
use lib.Dec.{eqb}
use Rattle.lists.specs.Below.{first_from, first_below, some_below}
use Rattle.lists.proofs.Below.{some_none}
use Rattle.fields.specs.declared.FieldType.{FieldType}
use Rattle.fields.specs.declared.FieldType.TheVariants.{RecordId, Digits, Number as Num, Date, DateTime, Char, Varchar}
use Rattle.tables.specs.Tables.{field_type}
use Rattle.columns.specs.Columns.{field_of, charge, usage}
use Rattle.lists.proofs.Reflected.{denied}

-- Number(p,s) for some p
has_places : ℕ → FieldType → Bool
has_places s RecordId = false
has_places s (Digits n) = false
has_places s (Num p places) = eqb places s
has_places s Date = false
has_places s DateTime = false
has_places s (Char n) = false
has_places s (Varchar n) = false

has_places_lem : (s : ℕ) (type : FieldType) → has_places s type ≡ true → (p : ℕ) × (type ≡ Num p s)
unfolding has_places
has_places_lem s RecordId e = absurd (true≢false (sym e))
has_places_lem s (Digits n) e = absurd (true≢false (sym e))
has_places_lem s (Num p places) e = (p, ap (Num p) (eqb-true places s e))
has_places_lem s Date e = absurd (true≢false (sym e))
has_places_lem s DateTime e = absurd (true≢false (sym e))
has_places_lem s (Char n) e = absurd (true≢false (sym e))
has_places_lem s (Varchar n) e = absurd (true≢false (sym e))

-- the field of a column in the records of type t, where they have one
in_places : ℕ → ℕ → ℕ → Bool
in_places column s t = eqb (field_of column t) 0 || has_places s (field_type t (field_of column t - 1))

module _ (column s : ℕ) (all : some_below (λ (t : ℕ). not (in_places column s t)) 9 ≡ false) where
  same_places : (t : ℕ) → t < 9 → (field_of column t ≡ 0 → ⊥) → (p : ℕ) × (field_type t (field_of column t - 1) ≡ Num p s)
  unfolding in_places
  same_places t h some =
      let q : in_places column s t ≡ true = (denied (in_places column s t)).0 (some_none (λ (t : ℕ). not (in_places column s t)) 9 all t h) in
      has_places_lem s (field_type t (field_of column t - 1)) (rw (ne_eqb (field_of column t) 0 some) at q)

pub charge_places : (t : ℕ) → t < 9 → (field_of charge t ≡ 0 → ⊥) → (p : ℕ) × (field_type t (field_of charge t - 1) ≡ Num p 2)
unfolding some_below first_below first_from in_places has_places field_type field_of
charge_places = same_places charge 2 refl

pub usage_places : (t : ℕ) → t < 9 → (field_of usage t ≡ 0 → ⊥) → (p : ℕ) × (field_type t (field_of usage t - 1) ≡ Num p 4)
unfolding some_below first_below first_from in_places has_places field_type field_of
usage_places = same_places usage 4 refl
