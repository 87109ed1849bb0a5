-- A signed 64-bit number that is made of a magnitude m: below 2 ^ 63 the cast keeps it, and so does the difference from 0.
-- Assumes nothing.
use mathlib.Core.Path.{◌≡◌, refl, sym, ap, ◌∙◌, subst}
use mathlib.Core.Bool.{Bool, true, false, cond}
use Prim.Native.Nat.{ℕ, zero, suc, ◌+◌, ◌-◌, ◌^◌, ◌≤◌, ◌<◌}
use native.Mathlib.Nat.{le_refl}
use borrow.Author.Tests.{ltb-true}
use lib.Dec.{ltb}
use native.Mathlib.Omega.{arith}
use lib.IntN.{ℤ, pos, negsuc, neg_ℤ, nat_abs, sub_ℕ, ◌+ℤ◌, ◌-ℤ◌, +ℤ_idl}
use lib.Signed.{mag, nat_abs-le}
use mir.Syntax.{w64}
use mir.Val.{SFits, to_z, of_z}
use mir.Facts.{to_z-of_z}

pub pos_fits : (m : ℕ) → m < 2 ^ 63 → SFits w64 (pos m)
pos_fits m h = record { sfits = h }

pub pos_kept : (m : ℕ) → m < 2 ^ 63 → to_z w64 m ≡ pos m
pos_kept m h = to_z-of_z {w = w64} {z = pos m} (pos_fits m h)

pub neg_fits : (m : ℕ) → m < 2 ^ 63 → SFits w64 (neg_ℤ (pos m))
neg_fits zero h = record { sfits = h }
neg_fits (suc m) h = record { sfits = omega arith }

minus : (m : ℕ) → m < 2 ^ 63 → pos 0 -ℤ to_z w64 m ≡ neg_ℤ (pos m)
minus m h = ap (λ (z : ℤ). pos 0 -ℤ z) (pos_kept m h) ∙ +ℤ_idl (neg_ℤ (pos m))

pub minus_fits : (m : ℕ) → m < 2 ^ 63 → SFits w64 (pos 0 -ℤ to_z w64 m)
minus_fits m h = subst (SFits w64) (sym (minus m h)) (neg_fits m h)

pub minus_kept : (m : ℕ) → m < 2 ^ 63 → to_z w64 (of_z w64 (pos 0 -ℤ to_z w64 m)) ≡ neg_ℤ (pos m)
minus_kept m h = to_z-of_z {w = w64} (minus_fits m h) ∙ minus m h

-- a value that is passed on as it is
pub value_kept : {x y : ℤ} → SFits w64 x → x ≡ y → to_z w64 (of_z w64 x) ≡ y
value_kept h e = to_z-of_z {w = w64} h ∙ e

-- f of two values that are passed on
pub values_kept : (f : ℤ → ℤ → ℤ) (x y : ℤ) {z : ℤ} → SFits w64 x → SFits w64 y → SFits w64 z → z ≡ f (to_z w64 (of_z w64 x)) (to_z w64 (of_z w64 y)) → to_z w64 (of_z w64 z) ≡ f x y
values_kept f x y hx hy hz e = value_kept hz (e ∙ rw (to_z-of_z {w = w64} hx, to_z-of_z {w = w64} hy))

-- ---- sums: the size of a sum is at most the sum of the sizes
mag_le : (z : ℤ) → mag z ≤ nat_abs z
mag_le (pos n) = le_refl n
mag_le (negsuc n) = omega arith

pub sub_size : (a b : ℕ) → nat_abs (sub_ℕ a b) ≤ a + b
sub_size a b = go (ltb a b) refl
  where
    go : (t : Bool) → ltb a b ≡ t → nat_abs (cond t (negsuc (b - suc a)) (pos (a - b))) ≤ a + b
    go true e = omega (arith, ltb-true a b e)
    go false e = omega arith

pub abs_add : (a b : ℤ) → nat_abs (a +ℤ b) ≤ nat_abs a + nat_abs b
abs_add (pos a) (pos b) = le_refl (a + b)
abs_add (pos a) (negsuc b) = sub_size a (suc b)
abs_add (negsuc a) (pos b) = omega (arith, sub_size b (suc a))
abs_add (negsuc a) (negsuc b) = omega arith

pub abs_le : {z : ℤ} → SFits w64 z → nat_abs z ≤ 2 ^ 63
abs_le {z} h = nat_abs-le z h.sfits

pub abs_fits : (z : ℤ) → nat_abs z < 2 ^ 63 → SFits w64 z
abs_fits z h = record { sfits = omega (arith, mag_le z) }

-- one summand more: s is the bits of the sum, and x is small
module _ (s : ℕ) (x : ℤ) (h : nat_abs (to_z w64 s) + nat_abs x < 2 ^ 63) where
  kept : to_z w64 (of_z w64 x) ≡ x
  kept = to_z-of_z {w = w64} (abs_fits x (omega arith))

-- a sum of two signed numbers, as the code makes it
module _ (a x : ℤ) (h : nat_abs a + nat_abs x < 2 ^ 63) where
  here : to_z w64 (of_z w64 a) ≡ a
  here = to_z-of_z {w = w64} (abs_fits a (omega arith))

  there : to_z w64 (of_z w64 x) ≡ x
  there = to_z-of_z {w = w64} (abs_fits x (omega arith))

  pub sum_fits : SFits w64 (to_z w64 (of_z w64 a) +ℤ to_z w64 (of_z w64 x))
  sum_fits = rw (here, there) (abs_fits (a +ℤ x) (omega (arith, abs_add a x)))

  pub sum_kept : to_z w64 (of_z w64 (to_z w64 (of_z w64 a) +ℤ to_z w64 (of_z w64 x))) ≡ a +ℤ x
  sum_kept = to_z-of_z {w = w64} sum_fits ∙ rw (here, there)
