-- Laws of the tests and selections over a list (specs/Selections).
-- Assumes nothing.
use mathlib.Core.Path.{◌≡◌, refl, sym, ap, ◌∙◌, fun_ext, subst}
use mathlib.Core.Bool.{Bool, true, false, not, ◌&&◌, ◌||◌, cond, true≢false, false≢true}
use mathlib.Core.List.{List, [], ◌∷◌, ◌++◌, map}
use Prim.Native.Nat.{ℕ, suc, ◌+◌, ◌≤◌}
use native.Mathlib.Omega.{arith}
use lib.ListN.{length}
use lib.IntN.{ℤ, ◌+ℤ◌, +ℤ_idl, +ℤ_assoc, +ℤ_comm}
use lib.Dec.{T, eqb, eqb_refl}
use Rattle.lists.specs.Selections.{filter, any, count, sum}
use Rattle.lists.specs.InsideSelections.{all, distinct}

-- ---- tests

pub is_true : (b : Bool) → T b → b ≡ true
is_true true t = refl
is_true false t = elim t [ ]

pub from_true : {b : Bool} → b ≡ true → T b
from_true e = subst T (sym e) tt

pub both : (a b : Bool) → T (a && b) → T a × T b
both true b t = (tt, t)
both false b t = elim t [ ]

pub and_left : (a b : Bool) → (a && b) ≡ true → a ≡ true
and_left true b e = refl
and_left false b e = e

pub and_right : (a b : Bool) → (a && b) ≡ true → b ≡ true
and_right true b e = e
and_right false b e = absurd (false≢true e)

pub and_both : (a b : Bool) → a ≡ true → b ≡ true → (a && b) ≡ true
and_both true b e f = f
and_both false b e f = e

pub eq→eqb : {m n : ℕ} → m ≡ n → T (eqb m n)
eq→eqb {m} {n} e = subst (λ (k : ℕ). T (eqb m k)) e (eqb_refl m)

pub is_false : (b : Bool) → T (not b) → b ≡ false
is_false false t = refl
is_false true t = elim t [ ]

pub neither : (a b : Bool) → (a || b) ≡ false → (a ≡ false) × (b ≡ false)
neither true b e = (e, absurd (true≢false e))
neither false b e = (refl, e)

pub either : (a b : Bool) → b ≡ true → (a || b) ≡ true
either true b e = refl
either false b e = e

pub second_of_lem : (a b : Bool) → a ≡ false → (a || b) ≡ true → b ≡ true
second_of_lem true b e o = absurd (true≢false e)
second_of_lem false b e o = o

-- a test that goes both ways, with what each way says
pub cases {ℓ} : {P : Type ℓ} (b : Bool) → (b ≡ true → P) → (b ≡ false → P) → P
cases true f g = f refl
cases false f g = g refl

-- ---- lists

module _ {A B : Type 0} where
  pub map_append : (f : A → B) (xs ys : List A) → map f (xs ++ ys) ≡ map f xs ++ map f ys
  map_append f [] ys = refl
  map_append f (x ∷ xs) ys = ap (λ r. f x ∷ r) (map_append f xs ys)

  pub filter_map : (p : B → Bool) (f : A → B) (xs : List A) → filter p (map f xs) ≡ map f (filter (λ x. p (f x)) xs)
  filter_map p f [] = refl
  filter_map p f (x ∷ xs) = rw (filter_map p f xs) (pull (p (f x)))
    where
      pull : (b : Bool) → cond b (f x ∷ map f (filter (λ y. p (f y)) xs)) (map f (filter (λ y. p (f y)) xs)) ≡ map f (cond b (x ∷ filter (λ y. p (f y)) xs) (filter (λ y. p (f y)) xs))
      pull true = refl
      pull false = refl

  pub any_map : (p : B → Bool) (f : A → B) (xs : List A) → any p (map f xs) ≡ any (λ x. p (f x)) xs
  any_map p f [] = refl
  any_map p f (x ∷ xs) = ap (λ b. p (f x) || b) (any_map p f xs)

  pub count_map : (p : B → Bool) (f : A → B) (xs : List A) → count p (map f xs) ≡ count (λ x. p (f x)) xs
  count_map p f [] = refl
  count_map p f (x ∷ xs) = ap (λ (n : ℕ). cond (p (f x)) (suc n) n) (count_map p f xs)

  -- f and g agree where the test passes
  pub map_filter_ext : (p : A → Bool) (f g : A → B) (xs : List A) → ((x : A) → p x ≡ true → f x ≡ g x) → map f (filter p xs) ≡ map g (filter p xs)
  map_filter_ext p f g [] h = refl
  map_filter_ext p f g (x ∷ xs) h = cases (p x)
      (λ e. rw e (ap₂' (h x e) (map_filter_ext p f g xs h)))
      (λ e. rw e (map_filter_ext p f g xs h))
    where
      ap₂' : {y z : B} {ys zs : List B} → y ≡ z → ys ≡ zs → y ∷ ys ≡ z ∷ zs
      ap₂' p q = λ i. p i ∷ q i

module _ {A : Type 0} where
  pub filter_append : (p : A → Bool) (xs ys : List A) → filter p (xs ++ ys) ≡ filter p xs ++ filter p ys
  filter_append p [] ys = refl
  filter_append p (x ∷ xs) ys = rw (filter_append p xs ys) (pull (p x))
    where
      pull : (b : Bool) → cond b (x ∷ (filter p xs ++ filter p ys)) (filter p xs ++ filter p ys) ≡ cond b (x ∷ filter p xs) (filter p xs) ++ filter p ys
      pull true = refl
      pull false = refl

  pub filter_ext : (p q : A → Bool) (xs : List A) → ((x : A) → p x ≡ q x) → filter p xs ≡ filter q xs
  filter_ext p q xs h = ap (λ (k : A → Bool). filter k xs) (fun_ext h)

  pub any_ext : (p q : A → Bool) (xs : List A) → ((x : A) → p x ≡ q x) → any p xs ≡ any q xs
  any_ext p q xs h = ap (λ (k : A → Bool). any k xs) (fun_ext h)

  -- what passes p passes q: to select by q first changes nothing
  pub filter_under : (p q : A → Bool) (xs : List A) → ((x : A) → q x ≡ false → p x ≡ false) → filter p (filter q xs) ≡ filter p xs
  filter_under p q [] h = refl
  filter_under p q (x ∷ xs) h = cases (q x)
      (λ e. rw e (rw (filter_under p q xs h)))
      (λ e. rw (e, h x e) (filter_under p q xs h))

  pub any_under : (p q : A → Bool) (xs : List A) → ((x : A) → q x ≡ false → p x ≡ false) → any p (filter q xs) ≡ any p xs
  any_under p q [] h = refl
  any_under p q (x ∷ xs) h = cases (q x)
      (λ e. rw e (rw (any_under p q xs h)))
      (λ e. rw (e, h x e) (any_under p q xs h))

  pub all_filter : (p : A → Bool) (xs : List A) → T (all p (filter p xs))
  all_filter p [] = tt
  all_filter p (x ∷ xs) = cases (p x) (λ e. rw (e, e) (all_filter p xs)) (λ e. rw e (all_filter p xs))

  -- a test over a selection
  pub any_filter : (p q : A → Bool) (xs : List A) → any p (filter q xs) ≡ any (λ x. q x && p x) xs
  any_filter p q [] = refl
  any_filter p q (x ∷ xs) = cases (q x) (λ e. rw (e, any_filter p q xs)) (λ e. rw e (any_filter p q xs))

  pub any_append : (p : A → Bool) (xs ys : List A) → any p (xs ++ ys) ≡ (any p xs || any p ys)
  any_append p [] ys = refl
  any_append p (x ∷ xs) ys = rw (any_append p xs ys) (assoc (p x))
    where
      assoc : (b : Bool) → (b || (any p xs || any p ys)) ≡ (b || any p xs || any p ys)
      assoc true = refl
      assoc false = refl

  pub distinct_snoc : (same : A → A → Bool) (xs : List A) (y : A) → T (distinct same xs) → any (λ x. same x y) xs ≡ false → T (distinct same (xs ++ y ∷ []))
  distinct_snoc same [] y t h = tt
  distinct_snoc same (x ∷ xs) y t h =
      let d = both (not (any (same x) xs)) (distinct same xs) t in
      let n = neither (same x y) (any (λ z. same z y) xs) h in
      rw (any_append (same x) xs (y ∷ []), is_false (any (same x) xs) d.0, n.0) (distinct_snoc same xs y d.1 n.1)

  -- ---- counts

  pub count_append : (p : A → Bool) (xs ys : List A) → count p (xs ++ ys) ≡ count p xs + count p ys
  count_append p [] ys = omega arith
  count_append p (x ∷ xs) ys = cases (p x)
      (λ e. rw (e, count_append p xs ys) (omega arith))
      (λ e. rw e (count_append p xs ys))

  pub count_mono : (p q : A → Bool) (xs : List A) → ((x : A) → p x ≡ true → q x ≡ true) → count p xs ≤ count q xs
  count_mono p q [] h = omega arith
  count_mono p q (x ∷ xs) h =
      let ih = count_mono p q xs h in
      cases (p x)
      (λ e. rw (e, h x e) (omega arith))
      (λ e. rw e (cases (q x) (λ k. rw k (omega arith)) (λ k. rw k ih)))

  pub count_split : (p q : A → Bool) (xs : List A) → count p (filter q xs) + count p (filter (λ x. not (q x)) xs) ≡ count p xs
  count_split p q [] = refl
  count_split p q (x ∷ xs) =
      let ih = count_split p q xs in
      cases (q x)
      (λ e. rw e (cases (p x) (λ k. rw k (omega arith)) (λ k. rw k ih)))
      (λ e. rw e (cases (p x) (λ k. rw k (omega arith)) (λ k. rw k ih)))

  pub count_none : (p : A → Bool) (xs : List A) → any p xs ≡ false → count p xs ≡ 0
  count_none p [] h = refl
  count_none p (x ∷ xs) h =
      let n = neither (p x) (any p xs) h in
      rw n.0 (count_none p xs n.1)

  pub filter_none : (p : A → Bool) (xs : List A) → count p xs ≤ 0 → filter p xs ≡ []
  filter_none p [] h = refl
  filter_none p (x ∷ xs) h = cases (p x)
      (λ e. let h' : suc (count p xs) ≤ 0 = rw e at h in absurd (omega arith))
      (λ e. rw e (filter_none p xs (rw e at h)))

  -- of those that pass p there is one at most, and one of them passes q too: it is the one
  pub the_one : (p q : A → Bool) (xs : List A) → any (λ x. p x && q x) xs ≡ true → count p xs ≤ 1 → (x : A) × (filter p xs ≡ x ∷ []) × (p x ≡ true) × (q x ≡ true)
  the_one p q [] h k = absurd (false≢true h)
  the_one p q (x ∷ xs) h k = cases (p x)
      (λ e.
      let k' : suc (count p xs) ≤ 1 = rw e at k in
      let none : filter p xs ≡ [] = filter_none p xs (omega arith) in
      (x, rw (e, none), e, last (q x) (sym (any_filter q p xs) ∙ ap (any q) none) (rw e at h)))
      (λ e. rw e (the_one p q xs (rw e at h) (rw e at k)))
    where
      last : (b : Bool) → any (λ y. p y && q y) xs ≡ false → (b || any (λ y. p y && q y) xs) ≡ true → b ≡ true
      last true n e = refl
      last false n e = sym n ∙ e

  pub any_mono : (p q : A → Bool) (xs : List A) → ((x : A) → p x ≡ true → q x ≡ true) → any p xs ≡ true → any q xs ≡ true
  any_mono p q [] h e = e
  any_mono p q (x ∷ xs) h e = cases (p x)
      (λ k. rw (h x k))
      (λ k. cases (q x) (λ m. rw m) (λ m. rw m (any_mono p q xs h (rw k at e))))

  -- no two are the same, and any two that pass the test are: one at most passes
  pub distinct_count : (same : A → A → Bool) (p : A → Bool) (xs : List A) → ((x y : A) → p x ≡ true → p y ≡ true → same x y ≡ true) → T (distinct same xs) → count p xs ≤ 1
  distinct_count same p [] h t = omega arith
  distinct_count same p (x ∷ xs) h t =
      let d = both (not (any (same x) xs)) (distinct same xs) t in
      cases (p x)
      (λ e.
      let z = cases (any p xs)
      (λ a. absurd (true≢false (sym (any_mono p (same x) xs (λ y. h x y e) a) ∙ is_false (any (same x) xs) d.0)))
      (λ a. count_none p xs a) in
      rw (e, z) (omega arith))
      (λ e. rw e (distinct_count same p xs h d.1))

  -- ---- sums

  pub sum_append : (f : A → ℤ) (xs ys : List A) → sum f (xs ++ ys) ≡ sum f xs +ℤ sum f ys
  sum_append f [] ys = sym (+ℤ_idl (sum f ys))
  sum_append f (x ∷ xs) ys = ap (λ (z : ℤ). f x +ℤ z) (sum_append f xs ys) ∙ sym (+ℤ_assoc (f x) (sum f xs) (sum f ys))

  pub sum_split : (f : A → ℤ) (p : A → Bool) (xs : List A) → sum f (filter p xs) +ℤ sum f (filter (λ x. not (p x)) xs) ≡ sum f xs
  sum_split f p [] = refl
  sum_split f p (x ∷ xs) =
      let ih = sum_split f p xs in
      let a = sum f (filter p xs) in
      let b = sum f (filter (λ y. not (p y)) xs) in
      cases (p x)
      (λ e. rw e (+ℤ_assoc (f x) a b ∙ ap (λ (z : ℤ). f x +ℤ z) ih))
      (λ e. rw e (sym (+ℤ_assoc a (f x) b) ∙ ap (λ (z : ℤ). z +ℤ b) (+ℤ_comm a (f x)) ∙ +ℤ_assoc (f x) a b ∙ ap (λ (z : ℤ). f x +ℤ z) ih))

  -- ---- more on tests

  pub count_filter_le : (p q : A → Bool) (xs : List A) → count p (filter q xs) ≤ count p xs
  count_filter_le p q xs = omega (arith, count_split p q xs)

  pub all_append : (p : A → Bool) (xs ys : List A) → T (all p xs) → T (all p ys) → T (all p (xs ++ ys))
  all_append p [] ys s t = t
  all_append p (x ∷ xs) ys s t =
      let h = both (p x) (all p xs) s in
      rw (is_true (p x) h.0) (all_append p xs ys h.1 t)

  pub all_of_filter : (p q : A → Bool) (xs : List A) → T (all p xs) → T (all p (filter q xs))
  all_of_filter p q [] t = tt
  all_of_filter p q (x ∷ xs) t =
      let k = both (p x) (all p xs) t in
      cases (q x)
      (λ e. rw (e, is_true (p x) k.0) (all_of_filter p q xs k.1))
      (λ e. rw e (all_of_filter p q xs k.1))

  pub length_split : (q : A → Bool) (xs : List A) → length (filter q xs) + length (filter (λ x. not (q x)) xs) ≡ length xs
  length_split q [] = refl
  length_split q (x ∷ xs) =
      let ih = length_split q xs in
      cases (q x) (λ e. rw e (omega arith)) (λ e. rw e (omega arith))
