-- What fits a type: the empty field, and one that isn't empty.
-- Assumes nothing.
use Prim.Native.Nat.{ℕ}
use mathlib.Core.Path.{◌≡◌, refl}
use mathlib.Core.Bool.{true}
use mathlib.Core.List.{List, []}
use lib.Dec.{eqb}
use lib.ListN.{length}
use Rattle.lists.proofs.Selections.{either}
use Rattle.fields.specs.declared.FieldType.{FieldType}
use Rattle.fields.specs.Fields.{fits_filled, fits_type}

pub fits_empty : (t : FieldType) → fits_type t [] ≡ true
unfolding fits_type
fits_empty t = refl

pub fits_filled_lem : (t : FieldType) (s : List ℕ) → fits_filled t s ≡ true → fits_type t s ≡ true
unfolding fits_type
fits_filled_lem t s e = either (eqb (length s) 0) (fits_filled t s) e
