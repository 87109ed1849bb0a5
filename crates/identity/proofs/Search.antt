-- What a search by a tree shows of test 9.
--     tree_first     the first place whose value an earlier one has is the first record whose ID repeats
-- Assumes nothing.
use mathlib.Core.Path.{◌≡◌, refl}
use mathlib.Core.List.{List}
use Prim.Native.Nat.{ℕ, ◌<◌}
use lib.ListN.{length}
use Rattle.lists.specs.Below.{first_below, some_below}
use Rattle.lists.proofs.Below.{first_same}
use Rattle.buckets.specs.InsideTrees.{repeats_at}
use Rattle.identity.specs.Identity.{repeats, first_repeated}

module _ (ids : List ℕ) where
  repeats_same : (i : ℕ) → i < length ids → repeats_at ids i ≡ repeats ids i
  unfolding repeats repeats_at some_below
  repeats_same i h = refl

  pub tree_first : first_below (repeats_at ids) (length ids) ≡ first_repeated ids
  unfolding first_repeated
  tree_first = first_same (repeats_at ids) (repeats ids) (length ids) repeats_same
