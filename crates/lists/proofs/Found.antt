-- What `any` answers, as a search of places.
--     any_some    of a slice: whether a place's element passes the test
-- Assumes nothing.
use mathlib.Core.Path.{◌≡◌, sym}
use mathlib.Core.Bool.{Bool, true, false}
use mathlib.Core.List.{List}
use Prim.Native.Nat.{ℕ, ◌<◌}
use native.Mathlib.Omega.{arith}
use lib.ListN.{length, get_or}
use Rattle.std.specs.Prelude.{MatchBool}
use Rattle.std.specs.List.{HoldsAt, AllWithin}
use Rattle.lists.specs.Below.{some_below}
use Rattle.lists.proofs.Below.{some_is, none_some}

module _ {A : Type 0} (test : A → Bool) (xs : List A) (blank : A) where
  pub any_some : (r : Bool)
      → MatchBool r ((k : ℕ) × (k < length xs) × HoldsAt (λ x. test x ≡ true) xs k) (AllWithin (λ x. test x ≡ false) xs 0 (length xs))
      → r ≡ some_below (λ i. test (get_or xs i blank)) (length xs)
  any_some true at = sym (some_is (λ i. test (get_or xs i blank)) (length xs) at.0 at.1 (at.2 blank))
  any_some false nowhere = sym (none_some (λ i. test (get_or xs i blank)) (length xs) (λ j h. nowhere j blank (omega arith) h))
