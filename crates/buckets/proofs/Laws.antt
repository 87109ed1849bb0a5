-- The first place that has a value, and buckets.
--     first_within                where the test holds at i, nothing from i on matters for the first place
--     same_place                  values with the same first place are the same
--     led_more                    the leaders, with one place more
--     bucket_fits, bucket_below   the numbers that a bucket is computed with
--     zeros                       an array of zeros holds no place
-- Assumes nothing.
use mathlib.Core.Path.{◌≡◌, refl, sym, ◌∙◌, ap, subst}
use mathlib.Core.List.{List}
use mathlib.Core.Bool.{Bool, true}
use Prim.Native.Nat.{ℕ, ◌+◌, ◌*◌, ◌/◌, ◌≤◌, ◌<◌}
use native.Mathlib.Nat.{mul_comm, mul-le-mul, mul-lt-mul_of_pos_right, div-lt_iff_lt-mul}
use native.Mathlib.Omega.{arith}
use native.Mathlib.Decide.{dec_lt}
use borrow.Author.Tests.{eqb-true, eq-eqb}
use lib.Dec.{eqb}
use lib.ListN.{length, get_or, set, replicate}
use lib.Seq.{get_or-set_same, get_or-set_other}
use Rattle.lists.specs.Below.{first_below}
use Rattle.lists.proofs.Column.{everywhere}
use Rattle.lists.proofs.Below.{first_at_most, first_holds, first_least, first_is, none_below}
use Rattle.buckets.specs.InsideBuckets.{first_place, Led}

-- ---- the first place
module _ (f : ℕ → Bool) (n : ℕ) where
  pub first_within : (i : ℕ) → i < n → f i ≡ true → first_below f n ≡ first_below f i
  first_within i h e = go (dec_lt (first_below f i) i)
    where
      go : Dec (first_below f i < i) → first_below f n ≡ first_below f i
      go (yes l) = first_is f n (first_below f i) (omega arith) (first_holds f i l) (first_least f i)
      go (no l) =
          let q : first_below f i ≡ i = omega (arith, l, first_at_most f i) in
          first_is f n i h e (none_below f i q) ∙ sym q

abbrev here : List ℕ → ℕ → ℕ → Bool
here values x j = eqb (get_or values j 0) x

module _ (values : List ℕ) (n : ℕ) where
  value_found : (k : ℕ) → k < n → first_place values n (get_or values k 0) < n
  value_found k h = let f = here values (get_or values k 0) in omega (arith, first_within f n k h (eq-eqb (get_or values k 0) (get_or values k 0) refl), first_at_most f k)

  pub same_place : (x k : ℕ) → k < n → first_place values n x ≡ first_place values n (get_or values k 0) → x ≡ get_or values k 0
  same_place x k h e =
      sym (eqb-true _ x (first_holds (here values x) n (omega (arith, e, value_found k h))))
      ∙ ap (λ (p : ℕ). get_or values p 0) e
      ∙ eqb-true _ (get_or values k 0) (first_holds (here values (get_or values k 0)) n (value_found k h))

module _ (values : List ℕ) where
  pub led_more : (n i : ℕ) → i < n → (leaders : List ℕ) (leader : ℕ) → i < length leaders → leader ≡ first_place values i (get_or values i 0)
      → Led values n leaders i → Led values n (set leaders i leader) (i + 1)
  led_more n i h leaders leader l d D q k = go (dec_lt q i)
    where
      go : Dec (q < i) → get_or (set leaders i leader) q 0 ≡ first_place values n (get_or values q 0)
      go (yes m) = get_or-set_other leaders i q leader 0 (λ r. omega arith) ∙ D q m
      go (no m) =
          let z : q ≡ i = omega (arith, m) in
          subst (λ (p : ℕ). get_or (set leaders i leader) p 0 ≡ first_place values n (get_or values p 0)) (sym z)
          (get_or-set_same leaders i leader 0 l ∙ d ∙ sym (first_within (here values (get_or values i 0)) n i h (eq-eqb (get_or values i 0) (get_or values i 0) refl)))

-- ---- a bucket is one of those there are
pub bucket_fits : (h size : ℕ) → h < 4294967296 → size ≤ 65536 → h * size ≤ 4294967296 * 65536
bucket_fits h size few small = mul-le-mul {n₂ = 4294967296} (omega arith) small

pub bucket_below : (h size : ℕ) → h < 4294967296 → 0 < size → h * size / 4294967296 < size
bucket_below h size few some = (div-lt_iff_lt-mul {k = 4294967296} (omega arith)).1 (subst (λ (k : ℕ). h * size < k) (mul_comm 4294967296 size) (mul-lt-mul_of_pos_right few some))

-- ---- an array of zeros has no place in any bucket
pub zeros : (n b : ℕ) → ◌≡◌ {A = ℕ} (get_or (replicate n 0) b 0) 0
zeros n b = everywhere 0 n b
