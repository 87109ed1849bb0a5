-- Tests and selections over a list, by a test that computes.
-- Assumes nothing.
use Rattle.std.specs.Prelude.{Bool, false, ◌||◌, cond, List, [], ◌∷◌, ℕ, zero, suc, ℤ, pos, ◌+ℤ◌}

module _ {ℓ} {A : Type ℓ} where
  -- the elements for which f holds, in order
  abbrev pub filter : (A → Bool) → List A → List A
  filter f [] = []
  filter f (x ∷ xs) = cond (f x) (x ∷ filter f xs) (filter f xs)

  abbrev pub any : (A → Bool) → List A → Bool
  any f [] = false
  any f (x ∷ xs) = f x || any f xs

  -- for how many f holds
  abbrev pub count : (A → Bool) → List A → ℕ
  count f [] = zero
  count f (x ∷ xs) = cond (f x) (suc (count f xs)) (count f xs)

  abbrev pub sum : (A → ℤ) → List A → ℤ
  sum f [] = pos zero
  sum f (x ∷ xs) = f x +ℤ sum f xs
