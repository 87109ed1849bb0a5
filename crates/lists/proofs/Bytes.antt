-- Two runs of bytes are the same exactly where the test for it says so.
-- Assumes nothing.
use mathlib.Core.Path.{◌≡◌, refl, ap, subst}
use mathlib.Core.List.{List}
use mathlib.Core.Bool.{true, not}
use Prim.Native.Nat.{ℕ}
use borrow.Author.Tests.{eq-eqb, eqb-true, not-true, not-false}
use lib.Dec.{eqb}
use lib.Pointwise.{pointwise}
use Rattle.std.specs.Bool.{one_answer}
use Rattle.std.proofs.lemmas.Slice.Eq.{slice_eq-Decides}
use Rattle.std.proofs.lemmas.Bool.Decides.{Decides-eqb}
use lib.ListN.{length, get_or}
use lib.Seq.{ext_get_or}
use Rattle.lists.specs.Below.{some_below}
use Rattle.lists.specs.Bytes.{differs_at, same_bytes}
use Rattle.lists.proofs.Below.{some_none, none_some}
use Rattle.lists.proofs.Selections.{and_left, and_right}

pub same_is : (xs ys : List ℕ) → same_bytes xs ys ≡ true → xs ≡ ys
unfolding same_bytes
same_is xs ys e =
    let long = eqb (length xs) (length ys) in
    let differ = some_below (differs_at xs ys) (length xs) in
    ext_get_or 0 xs ys (eqb-true (length xs) (length ys) (and_left long (not differ) e))
    (λ i h. eqb-true (get_or xs i 0) (get_or ys i 0) (not-false _ (some_none (differs_at xs ys) (length xs) (not-true differ (and_right long (not differ) e)) i h)))

pub is_same : (xs : List ℕ) → same_bytes xs xs ≡ true
unfolding same_bytes
is_same xs = rw (eq-eqb (length xs) (length xs) refl, none_some (differs_at xs xs) (length xs) (λ i h. ap not (eq-eqb (get_or xs i 0) (get_or xs i 0) refl)))

-- the test of their elements in pairs says so too
pub same_pointwise : (xs ys : List ℕ) → pointwise eqb xs ys ≡ same_bytes xs ys
same_pointwise xs ys =
    one_answer (pointwise eqb xs ys) (same_bytes xs ys) (slice_eq-Decides Decides-eqb xs ys (pointwise eqb xs ys) refl)
    (same_is xs ys, λ e. subst (λ (zs : List ℕ). same_bytes xs zs ≡ true) e (is_same xs))
