-- Laws of the comparison of a record with the one at its place.
--     place_unlike     a comparison by the place that a column holds
-- Assumes nothing.
use mathlib.Core.Path.{◌≡◌, ap}
use mathlib.Core.Bool.{Bool, false, cond, not}
use mathlib.Core.List.{List}
use Prim.Native.Nat.{ℕ, ◌-◌}
use lib.Dec.{eqb}
use Rattle.tables.specs.Groups.{at}
use Rattle.identity.specs.Identity.{unlike}

module _ (own theirs : List ℕ) (i : ℕ) where
  -- what is answered for the record at i, with a place given
  abbrev pub unlike_by : ℕ → Bool
  unlike_by place = cond (eqb place 0) false (not (eqb (at own i) (at theirs (place - 1))))

  pub place_unlike : (places : List ℕ) (place : ℕ) → place ≡ at places i → unlike_by place ≡ unlike places own theirs i
  unfolding unlike
  place_unlike places place e = ap unlike_by e
