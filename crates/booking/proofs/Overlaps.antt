-- An original at its turn overlaps an entry just where the place of the first such entry is one of the ledger's.
-- Assumes nothing.
use mathlib.Core.Path.{◌≡◌, refl, ◌∙◌}
use mathlib.Core.Bool.{Bool, true, false, ◌||◌, cond}
use mathlib.Core.List.{List, [], ◌∷◌}
use Prim.Native.Nat.{suc}
use native.Mathlib.Omega.{arith}
use borrow.Author.Tests.{ltb-true, ltb-false, lt-ltb, le-ltb}
use lib.Dec.{ltb}
use lib.ListN.{length}
use Rattle.lists.specs.First.{first_where}
use Rattle.lists.specs.Selections.{any}
use Rattle.bill_files.specs.Accepted.{Bill}
use Rattle.entries.specs.declared.Entry.{Entry}
use Rattle.booking.specs.Booking.{overlaps, first_overlap}

first_found : {A : Type 0} (p : A → Bool) (xs : List A) → ltb (first_where p xs) (length xs) ≡ any p xs
unfolding first_where
first_found p [] = refl
first_found p (x ∷ xs) = go (p x) (ltb (first_where p xs) (length xs)) refl (first_found p xs)
  where
    go : (b t : Bool) → ltb (first_where p xs) (length xs) ≡ t → t ≡ any p xs → ltb (cond b 0 (suc (first_where p xs))) (suc (length xs)) ≡ (b || any p xs)
    go true t e f = lt-ltb 0 (suc (length xs)) (omega arith)
    go false true e f = lt-ltb (suc (first_where p xs)) (suc (length xs)) (omega (arith, ltb-true (first_where p xs) (length xs) e)) ∙ f
    go false false e f = le-ltb (suc (first_where p xs)) (suc (length xs)) (omega (arith, ltb-false (first_where p xs) (length xs) e)) ∙ f

pub overlap_found : (l : List Entry) (b : Bill) → ltb (first_overlap l b) (length l) ≡ any (overlaps b) l
unfolding first_overlap
overlap_found l b = first_found (overlaps b) l
