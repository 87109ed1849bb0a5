-- What `first_repeated` says of the values.
--     all_different    where it answers their number, no two are equal
--     one_repeats      where it answers a place, an earlier one has its value
-- Assumes nothing.
use mathlib.Core.Path.{◌≡◌, sym, ◌∙◌}
use mathlib.Core.List.{List}
use mathlib.Core.Bool.{Bool, true≢false}
use Prim.Native.Nat.{ℕ, ◌<◌}
use native.Mathlib.Omega.{arith}
use borrow.Author.Tests.{eq-eqb, eqb-true, ltb-true, ltb-false}
use lib.Dec.{eqb}
use lib.ListN.{get_or}
use Rattle.lists.specs.Below.{first_below}
use Rattle.lists.proofs.Below.{first_holds, first_least, none_below}
use Rattle.buckets.specs.InsideBuckets.{first_place, Distinct}
use Rattle.buckets.specs.InsideTrees.{repeats_at}

module _ (values : List ℕ) (n : ℕ) where
  abbrev same : ℕ → ℕ → Bool
  same p j = eqb (get_or values j 0) (get_or values p 0)

  pub all_different : first_below (repeats_at values) n ≡ n → Distinct values n
  unfolding repeats_at
  all_different none i j l h e =
      let late = ltb-false (first_place values j (get_or values j 0)) j (none_below (repeats_at values) n none j h) in
      true≢false (sym (eq-eqb (get_or values i 0) (get_or values j 0) e) ∙ first_least (same j) j i (omega (arith, late, l)))

  pub one_repeats : first_below (repeats_at values) n < n → (j : ℕ) × (j < first_below (repeats_at values) n) × (get_or values j 0 ≡ get_or values (first_below (repeats_at values) n) 0)
  unfolding repeats_at
  one_repeats h =
      let p = first_below (repeats_at values) n in
      let early = ltb-true (first_place values p (get_or values p 0)) p (first_holds (repeats_at values) n h) in
      (first_place values p (get_or values p 0), early, eqb-true _ (get_or values p 0) (first_holds (same p) p early))
