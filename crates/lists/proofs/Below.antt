-- Laws of a search for the first place at which a test finds something.
--     Searched                              the invariant of a loop that stands at place i
--     searched_none, -more, -here, -end     it holds at the start; one place more; the answer is here; the answer is the end
--     first_at_most, first_holds, first_least    what the first place is
--     first_is                              it is i, where the test holds at i and at no place before
--     none_below, none_is_end               it is the end exactly where the test finds nothing
--     some_holds, some_is, some_none        the same of `some_below`
--     first_same, some_same                 tests that agree below n have the same answer
--     nearest_at_most, nearest_holds, nearest_none    what the nearest place is
--     nearest_is, none_nearest                        and by what it is known
--     count_none, count_more, count_kept    the count of a loop that stands at place n: at the start; one more; the same
--     count_zero, zero_count                what the count is: 0 exactly where the test finds nothing
-- Assumes nothing.
use mathlib.Core.Path.{◌≡◌, refl, sym, ◌∙◌, ap, subst}
use mathlib.Core.Bool.{Bool, true, false, cond, true≢false}
use Prim.Native.Nat.{ℕ, zero, suc, ◌+◌, ◌-◌, ◌≤◌, ◌<◌}
use native.Mathlib.Nat.{add-zero, le_refl, sub-zero}
use native.Mathlib.Numerals.{add-one}
use native.Mathlib.Omega.{arith}
use native.Mathlib.Decide.{dec_lt}
use borrow.Author.Tests.{lt-ltb, le-ltb, ltb-true, ltb-false}
use Rattle.lists.specs.Below.{first_from, first_below, some_below, nearest_below, count_below}

split : (n i : ℕ) → i < n → n - i ≡ suc (n - suc i)
split n i h = omega arith

module _ (f : ℕ → Bool) where
  from_step : (i k : ℕ) → f i ≡ false → first_from f i (suc k) ≡ first_from f (suc i) k
  unfolding first_from
  from_step i k e = rw e

  from_here : (i k : ℕ) → f i ≡ true → first_from f i (suc k) ≡ i
  unfolding first_from
  from_here i k e = rw e

  from_none : (i : ℕ) → first_from f i 0 ≡ i
  unfolding first_from
  from_none i = refl

  module _ (n : ℕ) where
    abbrev pub Searched : ℕ → Type 0
    Searched i = first_below f n ≡ first_from f i (n - i)

    pub searched_none : Searched 0
    unfolding first_below
    searched_none = ap (λ (k : ℕ). first_from f 0 k) (sym (sub-zero n))

    module _ (i : ℕ) (h : i < n) (p : Searched i) where
      pub searched_more : f i ≡ false → Searched (i + 1)
      searched_more e = p ∙ ap (λ (k : ℕ). first_from f i k) (split n i h) ∙ from_step i (n - suc i) e ∙ ap (λ (j : ℕ). first_from f j (n - j)) (sym (add-one i))

      pub searched_here : f i ≡ true → first_below f n ≡ i
      searched_here e = p ∙ ap (λ (k : ℕ). first_from f i k) (split n i h) ∙ from_here i (n - suc i) e

    pub searched_end : (i : ℕ) → n ≤ i → Searched i → first_below f n ≡ i
    searched_end i h p = p ∙ ap (λ (k : ℕ). first_from f i k) none ∙ from_none i
      where
        none : n - i ≡ 0
        none = omega arith

  -- what the first of k places from i on is
  record FirstFrom (i k r : ℕ) : Type 0 where
    low : i ≤ r
    high : r ≤ i + k
    holds : r < i + k → f r ≡ true
    least : (j : ℕ) → i ≤ j → j < r → f j ≡ false

  from_is : (k i : ℕ) → FirstFrom i k (first_from f i k)
  unfolding first_from
  from_is zero i = record { low = le_refl i; high = omega arith; holds = λ h. absurd (omega arith); least = λ j a b. absurd (omega arith) }
  from_is (suc k) i = go (f i) refl (from_is k (suc i))
    where
      go : (b : Bool) → f i ≡ b → FirstFrom (suc i) k (first_from f (suc i) k) → FirstFrom i (suc k) (cond b i (first_from f (suc i) k))
      go true e r = record { low = le_refl i; high = omega arith; holds = λ h. e; least = λ j a b. absurd (omega arith) }
      go false e r =
          record {
            low = omega (arith, r.low);
            high = omega (arith, r.high);
            holds = λ h. r.holds (omega arith);
            least = λ j a b. later j a b (dec_lt i j);
          }
        where
          later : (j : ℕ) → i ≤ j → j < first_from f (suc i) k → Dec (i < j) → f j ≡ false
          later j a b (yes q) = r.least j q b
          later j a b (no q) = let same : i ≡ j = omega (arith, q) in subst (λ (m : ℕ). f m ≡ false) same e

  module _ (n : ℕ) where
    below : FirstFrom 0 n (first_below f n)
    unfolding first_below
    below = from_is n 0

    pub first_at_most : first_below f n ≤ n
    first_at_most = omega (arith, below.high)

    pub first_holds : first_below f n < n → f (first_below f n) ≡ true
    first_holds h = below.holds (omega arith)

    pub first_least : (j : ℕ) → j < first_below f n → f j ≡ false
    first_least j h = below.least j (omega arith) h

    pub first_is : (i : ℕ) → i < n → f i ≡ true → ((j : ℕ) → j < i → f j ≡ false) → first_below f n ≡ i
    first_is i h e before = go (dec_lt (first_below f n) i) (dec_lt i (first_below f n))
      where
        go : Dec (first_below f n < i) → Dec (i < first_below f n) → first_below f n ≡ i
        go (yes l) u = absurd (true≢false (sym (first_holds (omega arith)) ∙ before (first_below f n) l))
        go (no l) (yes u) = absurd (true≢false (sym e ∙ first_least i u))
        go (no l) (no u) = omega (arith, l, u)

    -- the end is the answer exactly where the test finds nothing
    pub none_below : first_below f n ≡ n → (j : ℕ) → j < n → f j ≡ false
    none_below e j h = first_least j (omega (arith, e))

    pub none_is_end : ((j : ℕ) → j < n → f j ≡ false) → first_below f n ≡ n
    none_is_end none = go (dec_lt (first_below f n) n)
      where
        go : Dec (first_below f n < n) → first_below f n ≡ n
        go (yes h) = let z : true ≡ false = sym (first_holds h) ∙ none (first_below f n) h in let q : ◌≡◌ {A = ℕ} 0 1 = cc in absurd (omega arith)
        go (no h) = omega (arith, h, first_at_most)

    -- ---- whether it finds something
    pub some_holds : some_below f n ≡ true → (j : ℕ) × (j < n) × (f j ≡ true)
    unfolding some_below
    some_holds e = let h = ltb-true (first_below f n) n e in (first_below f n, h, first_holds h)

    pub some_none : some_below f n ≡ false → (j : ℕ) → j < n → f j ≡ false
    unfolding some_below
    some_none e j h = first_least j (omega (arith, ltb-false (first_below f n) n e))

    pub some_is : (j : ℕ) → j < n → f j ≡ true → some_below f n ≡ true
    some_is j h e = go (some_below f n) refl
      where
        go : (b : Bool) → some_below f n ≡ b → some_below f n ≡ true
        go true q = q
        go false q = let z : true ≡ false = sym e ∙ some_none q j h in let w : ◌≡◌ {A = ℕ} 0 1 = cc in absurd (omega arith)

    pub none_some : ((j : ℕ) → j < n → f j ≡ false) → some_below f n ≡ false
    unfolding some_below
    none_some none = le-ltb (first_below f n) n (omega (arith, none_is_end none))

    -- a search that found the place i, and one that found none
    pub found_some : (i : ℕ) → i < n → first_below f n ≡ i → some_below f n ≡ true
    unfolding some_below
    found_some i h e = lt-ltb (first_below f n) n (omega (arith, e))

    pub found_none : (i : ℕ) → n ≤ i → first_below f n ≡ i → some_below f n ≡ false
    unfolding some_below
    found_none i h e = le-ltb (first_below f n) n (omega (arith, e))

-- ---- tests that agree below n
module _ (f g : ℕ → Bool) where
  from_same : (k i : ℕ) → ((j : ℕ) → j < i + k → f j ≡ g j) → first_from f i k ≡ first_from g i k
  unfolding first_from
  from_same zero i same = refl
  from_same (suc k) i same = rw (same i (omega arith), from_same k (suc i) (λ j h. same j (omega arith)))

  pub first_same : (n : ℕ) → ((j : ℕ) → j < n → f j ≡ g j) → first_below f n ≡ first_below g n
  unfolding first_below
  first_same n same = from_same n 0 (λ j h. same j (omega arith))

  pub some_same : (n : ℕ) → ((j : ℕ) → j < n → f j ≡ g j) → some_below f n ≡ some_below g n
  unfolding some_below
  some_same n same = rw (first_same n same)

-- ---- the nearest place
module _ (f : ℕ → Bool) where
  pub nearest_more : (n : ℕ) → f n ≡ true → nearest_below f (n + 1) ≡ n + 1
  unfolding nearest_below
  nearest_more n e = rw add-one (rw e)

  pub nearest_kept : (n : ℕ) → f n ≡ false → nearest_below f (n + 1) ≡ nearest_below f n
  unfolding nearest_below
  nearest_kept n e = rw add-one (rw e)

  pub nearest_at_most : (n : ℕ) → nearest_below f n ≤ n
  unfolding nearest_below
  nearest_at_most zero = le_refl 0
  nearest_at_most (suc n) = go (f n) (nearest_at_most n)
    where
      go : (b : Bool) → nearest_below f n ≤ n → cond b (suc n) (nearest_below f n) ≤ suc n
      go true h = le_refl (suc n)
      go false h = omega arith

  -- the record at the nearest place is one for which f holds, and there is none after it
  pub nearest_holds : (n j : ℕ) → nearest_below f n ≡ suc j → (f j ≡ true) × ((k : ℕ) → j < k → k < n → f k ≡ false)
  unfolding nearest_below
  nearest_holds zero j e = absurd (omega arith)
  nearest_holds (suc n) j e = go (f n) refl e (nearest_holds n j)
    where
      Nearest : Type 0
      Nearest = (f j ≡ true) × ((k : ℕ) → j < k → k < suc n → f k ≡ false)

      go : (b : Bool) → f n ≡ b → cond b (suc n) (nearest_below f n) ≡ suc j
          → (nearest_below f n ≡ suc j → (f j ≡ true) × ((k : ℕ) → j < k → k < n → f k ≡ false)) → (f j ≡ true) × ((k : ℕ) → j < k → k < suc n → f k ≡ false)
      go true q e rest = let same : n ≡ j = omega (arith, e) in (subst (λ (m : ℕ). f m ≡ true) same q, λ k a b. absurd (omega (arith, same)))
      go false q e rest = let r = rest e in (r.0, λ k a b. last k a b (dec_lt k n) r.1)
        where
          last : (k : ℕ) → j < k → k < suc n → Dec (k < n) → ((m : ℕ) → j < m → m < n → f m ≡ false) → f k ≡ false
          last k a b (yes h) all = all k a h
          last k a b (no h) all = let same : n ≡ k = omega (arith, h) in subst (λ (m : ℕ). f m ≡ false) same q

  pub nearest_none : (n : ℕ) → nearest_below f n ≡ 0 → (k : ℕ) → k < n → f k ≡ false
  unfolding nearest_below
  nearest_none zero e k h = absurd (omega arith)
  nearest_none (suc n) e k h = go (f n) refl e (nearest_none n)
    where
      go : (b : Bool) → f n ≡ b → cond b (suc n) (nearest_below f n) ≡ 0 → (nearest_below f n ≡ 0 → (m : ℕ) → m < n → f m ≡ false) → f k ≡ false
      go true q e rest = absurd (omega (arith, e))
      go false q e rest = last (dec_lt k n)
        where
          last : Dec (k < n) → f k ≡ false
          last (yes l) = rest e k l
          last (no l) = let same : n ≡ k = omega (arith, l) in subst (λ (m : ℕ). f m ≡ false) same q

  -- the place below n for which f holds, and none after it, is the nearest; where f holds nowhere there is none
  pub nearest_is : (n j : ℕ) → j < n → f j ≡ true → ((k : ℕ) → j < k → k < n → f k ≡ false) → nearest_below f n ≡ suc j
  nearest_is n j h is after = go (nearest_below f n) refl
    where
      same : (m : ℕ) → nearest_below f n ≡ suc m → Dec (j < m) → Dec (m < j) → suc m ≡ suc j
      same m e (yes l) second = absurd (true≢false (sym (nearest_holds n m e).0 ∙ after m l (omega (arith, nearest_at_most n, e))))
      same m e (no l) (yes k) = absurd (true≢false (sym is ∙ (nearest_holds n m e).1 j k h))
      same m e (no l) (no k) = omega (arith, l, k)

      go : (p : ℕ) → nearest_below f n ≡ p → p ≡ suc j
      go zero e = absurd (true≢false (sym is ∙ nearest_none n e j h))
      go (suc m) e = same m e (dec_lt j m) (dec_lt m j)

  pub none_nearest : (n : ℕ) → ((k : ℕ) → k < n → f k ≡ false) → nearest_below f n ≡ 0
  none_nearest n none = go (nearest_below f n) refl
    where
      go : (p : ℕ) → nearest_below f n ≡ p → p ≡ 0
      go zero e = refl
      go (suc m) e = absurd (true≢false (sym (nearest_holds n m e).0 ∙ none m (omega (arith, nearest_at_most n, e))))

-- ---- how many places
module _ (f : ℕ → Bool) where
  pub count_none : count_below f 0 ≡ 0
  unfolding count_below
  count_none = refl

  pub count_more : (n : ℕ) → f n ≡ true → count_below f (n + 1) ≡ count_below f n + 1
  unfolding count_below
  count_more n e = rw add-one (rw e)

  pub count_kept : (n : ℕ) → f n ≡ false → count_below f (n + 1) ≡ count_below f n
  unfolding count_below
  count_kept n e = rw add-one (rw (e, add-zero))

  -- the count is 0 exactly where the test finds nothing
  pub count_zero : (n : ℕ) → count_below f n ≡ 0 → (k : ℕ) → k < n → f k ≡ false
  unfolding count_below
  count_zero zero e k h = absurd (omega arith)
  count_zero (suc n) e k h = go (f n) refl e (count_zero n)
    where
      go : (b : Bool) → f n ≡ b → count_below f n + cond b 1 0 ≡ 0 → (count_below f n ≡ 0 → (m : ℕ) → m < n → f m ≡ false) → f k ≡ false
      go true q e rest = absurd (omega (arith, e))
      go false q e rest = last (dec_lt k n)
        where
          last : Dec (k < n) → f k ≡ false
          last (yes l) = rest (omega (arith, e)) k l
          last (no l) = let same : n ≡ k = omega (arith, l) in subst (λ (m : ℕ). f m ≡ false) same q

  pub zero_count : (n : ℕ) → ((k : ℕ) → k < n → f k ≡ false) → count_below f n ≡ 0
  unfolding count_below
  zero_count zero none = refl
  zero_count (suc n) none = rw (zero_count n (λ k h. none k (omega arith)), none n (omega arith))
