-- A tree of places.
--     indexed_none                  an empty one
--     search_found, search_ended    what a search that ends says: the first place that has the value, or that there is none
--     indexed_more, indexed_kept    one place more: it is put where its search ended, or an earlier one has its value
--     Walked                        the invariant of a search
--     walk_start, walk_more, walk_found, walk_end    it holds at the start; one slot more; the value is here; the slot is empty
--     put_place, keep_place         the place whose value was searched for is put, or need not be
--     first_no_later                the first place that has the value of m is m at most
--     Indexing, Unrepeated          the invariants of loops that put places: with their first places; where none repeats
--     indexing_none, -more; unrepeated_none, -more, -here, -end    at the start; one place more; the answer is here; at the end
-- Assumes nothing.
use mathlib.Core.Path.{◌≡◌, refl, sym, ◌∙◌, ap, subst}
use mathlib.Core.List.{List}
use mathlib.Core.Logic.{∥∥₁_elim}
use mathlib.Core.Bool.{Bool, true, false, cond}
use Prim.Native.Nat.{ℕ, zero, suc, ◌+◌, ◌-◌, ◌*◌, ◌/◌, ◌%◌, ◌≤◌, ◌<◌}
use native.Mathlib.Omega.{arith}
use native.Mathlib.Decide.{dec_lt}
use borrow.Author.Count.{below_more}
use denote.Struct.Props.{props}
use borrow.Author.Tests.{eq-eqb, ne_eqb, eqb-true, eqb-false, lt-ltb, le-ltb}
use lib.Dec.{eqb}
use lib.ListN.{length, length-set, get_or, set}
use lib.Seq.{get_or-set_same, get_or-set_other}
use Rattle.lists.specs.Below.{first_below}
use Rattle.lists.proofs.Below.{first_at_most, first_holds, first_least, first_is, none_below, none_is_end}
use Rattle.buckets.specs.InsideBuckets.{first_place, Leads, Led, bucket_of}
use Rattle.buckets.proofs.Laws.{led_more}
use Rattle.buckets.specs.declared.Spot.{Spot}
use Rattle.buckets.specs.InsideTrees.{rest_at, slot_at, Passed, Found, Indexed, Searched, repeats_at}

abbrev here : List ℕ → ℕ → ℕ → Bool
here values x j = eqb (get_or values j 0) x

module _ (size : ℕ) (values : List ℕ) where
  pub indexed_none : (tree : List ℕ) → ((s : ℕ) → get_or tree s 0 ≡ 0) → Indexed size values 0 tree
  indexed_none tree e = record {
    stored = λ s h. absurd (omega (arith, e s));
    rising = λ p b h l. absurd (omega (arith, e (size + 2 * p + b)));
    found = λ p h l. absurd (omega arith);
  }

  -- ---- what a search says that has passed n slots
  module _ (m : ℕ) (tree : List ℕ) (I : Indexed size values m tree) (x n : ℕ) (P : Passed size values tree x n) where
    pub search_found : 0 < get_or tree (slot_at size tree x n) 0 → get_or values (get_or tree (slot_at size tree x n) 0 - 1) 0 ≡ x → first_place values m x ≡ get_or tree (slot_at size tree x n) 0 - 1
    search_found some e =
        let k = get_or tree (slot_at size tree x n) 0 - 1 in
        let q = I.stored (slot_at size tree x n) some in
        first_is (here values x) m k (omega (arith, q.0, some)) (eq-eqb _ x e)
        (subst (λ (y : ℕ). (j : ℕ) → j < k → here values y j ≡ false) e (none_below (here values (get_or values k 0)) k q.1))

    -- two searches for one value end at one place
    same_end : (p : ℕ) → get_or values p 0 ≡ x → Found size values tree x p → get_or tree (slot_at size tree x n) 0 ≡ 0 → ⊥
    same_end p e f none = go (dec_lt n f.steps) (dec_lt f.steps n)
      where
        go : Dec (n < f.steps) → Dec (f.steps < n) → ⊥
        go (yes l) u = omega (arith, (f.passed n l).0, none)
        go (no l) (yes u) = (P f.steps u).1 (ap (λ (k : ℕ). get_or values (k - 1) 0) f.here ∙ ap (λ (k : ℕ). get_or values k 0) (let z : p + 1 - 1 ≡ p = omega arith in z) ∙ e)
        go (no l) (no u) =
            let same : n ≡ f.steps = omega (arith, l, u) in
            let z : get_or tree (slot_at size tree x n) 0 ≡ p + 1 = ap (λ (k : ℕ). get_or tree (slot_at size tree x k) 0) same ∙ f.here in
            omega (arith, z, none)

    pub search_ended : get_or tree (slot_at size tree x n) 0 ≡ 0 → first_place values m x ≡ m
    search_ended none = go (dec_lt (first_place values m x) m)
      where
        go : Dec (first_place values m x < m) → first_place values m x ≡ m
        go (no h) = omega (arith, h, first_at_most (here values x) m)
        go (yes h) =
            let p = first_place values m x in
            let q : get_or values p 0 ≡ x = eqb-true _ x (first_holds (here values x) m h) in
            let leads : Leads values p = subst (λ (y : ℕ). first_place values p y ≡ p) (sym q) (none_is_end (here values x) p (first_least (here values x) m)) in
            absurd (same_end p q (subst (λ (y : ℕ). Found size values tree y p) q (I.found p h leads)) none)

  -- ---- one place more, put into the slot s, which was empty
  module _ (tree : List ℕ) (s v : ℕ) (empty : get_or tree s 0 ≡ 0) where
    -- a search that passes n slots passes them still
    slot_kept : (x n : ℕ) → Passed size values tree x n → slot_at size (set tree s v) x n ≡ slot_at size tree x n
    unfolding slot_at
    slot_kept x zero P = refl
    slot_kept x (suc n) P =
        let before = slot_kept x n (λ j h. P j (omega arith)) in
        let other = get_or-set_other tree s (slot_at size tree x n) v 0 (λ z. omega (arith, (P n (omega arith)).0, empty, ap (λ (k : ℕ). get_or tree k 0) z)) in
        ap (λ (k : ℕ). size + 2 * (k - 1) + rest_at x n % 2) (ap (λ (k : ℕ). get_or (set tree s v) k 0) before ∙ other)

    content_kept : (x n : ℕ) → Passed size values tree x n → 0 < get_or tree (slot_at size tree x n) 0 → get_or (set tree s v) (slot_at size (set tree s v) x n) 0 ≡ get_or tree (slot_at size tree x n) 0
    content_kept x n P some =
        ap (λ (k : ℕ). get_or (set tree s v) k 0) (slot_kept x n P)
        ∙ get_or-set_other tree s (slot_at size tree x n) v 0 (λ z. omega (arith, some, empty, ap (λ (k : ℕ). get_or tree k 0) z))

    passed_kept : (x n : ℕ) → Passed size values tree x n → Passed size values (set tree s v) x n
    passed_kept x n P j h =
        let e = content_kept x j (λ i l. P i (omega arith)) (P j h).0 in
        (omega (arith, e, (P j h).0), λ z. (P j h).1 (ap (λ (k : ℕ). get_or values (k - 1) 0) (sym e) ∙ z))

    found_kept : (x p : ℕ) → Found size values tree x p → Found size values (set tree s v) x p
    found_kept x p f = record { steps = f.steps; passed = passed_kept x f.steps f.passed; here = content_kept x f.steps f.passed (omega (arith, f.here)) ∙ f.here }

  module _ (m : ℕ) (tree : List ℕ) (I : Indexed size values m tree) where
    -- an earlier place has the value of the place m
    pub indexed_kept : (Leads values m → ⊥) → Indexed size values (m + 1) tree
    indexed_kept follows = record {
      stored = λ s h. let q = I.stored s h in (omega (arith, q.0), q.1);
      rising = I.rising;
      found = λ p h l. go p h l (dec_lt p m);
    }
      where
        go : (p : ℕ) → p < m + 1 → Leads values p → Dec (p < m) → Found size values tree (get_or values p 0) p
        go p h l (yes r) = I.found p r l
        go p h l (no r) = let z : p ≡ m = omega (arith, r) in absurd (follows (subst (λ (q : ℕ). Leads values q) z l))

    -- none has, and its search ended at the slot s
    module _ (n : ℕ) (P : Passed size values tree (get_or values m 0) n) (none : get_or tree (slot_at size tree (get_or values m 0) n) 0 ≡ 0)
        (inside : slot_at size tree (get_or values m 0) n < length tree) (below : slot_at size tree (get_or values m 0) n < size + 2 * m) where
      abbrev s : ℕ
      s = slot_at size tree (get_or values m 0) n

      at_slot : get_or (set tree s (m + 1)) s 0 ≡ m + 1
      at_slot = get_or-set_same tree s (m + 1) 0 inside

      pub indexed_more : Indexed size values (m + 1) (set tree s (m + 1))
      indexed_more = record {
        stored = λ t h. stored t h (eqb t s) refl;
        rising = λ p b h l. rising p b h l (eqb (size + 2 * p + b) s) refl;
        found = λ p h l. found p h l (dec_lt p m);
      }
        where
          leads : Leads values m
          leads = search_ended m tree I (get_or values m 0) n P none

          stored : (t : ℕ) → 0 < get_or (set tree s (m + 1)) t 0 → (c : Bool) → eqb t s ≡ c → (get_or (set tree s (m + 1)) t 0 ≤ m + 1) × Leads values (get_or (set tree s (m + 1)) t 0 - 1)
          stored t h true e =
              let z : get_or (set tree s (m + 1)) t 0 ≡ m + 1 = ap (λ (k : ℕ). get_or (set tree s (m + 1)) k 0) (eqb-true t s e) ∙ at_slot in
              let less : get_or (set tree s (m + 1)) t 0 - 1 ≡ m = omega (arith, z) in
              (omega (arith, z), subst (λ (q : ℕ). Leads values q) (sym less) leads)
          stored t h false e =
              let z = get_or-set_other tree s t (m + 1) 0 (eqb-false t s e) in
              let q = I.stored t (omega (arith, z, h)) in
              (omega (arith, z, q.0), subst (λ (k : ℕ). Leads values (k - 1)) (sym z) q.1)

          rising : (p b : ℕ) → 0 < get_or (set tree s (m + 1)) (size + 2 * p + b) 0 → b < 2 → (c : Bool) → eqb (size + 2 * p + b) s ≡ c → p + 1 < get_or (set tree s (m + 1)) (size + 2 * p + b) 0
          rising p b h l true e =
              let same = eqb-true (size + 2 * p + b) s e in
              let z : get_or (set tree s (m + 1)) (size + 2 * p + b) 0 ≡ m + 1 = ap (λ (k : ℕ). get_or (set tree s (m + 1)) k 0) same ∙ at_slot in
              omega (arith, z, same, below)
          rising p b h l false e =
              let z = get_or-set_other tree s (size + 2 * p + b) (m + 1) 0 (eqb-false (size + 2 * p + b) s e) in
              let q = I.rising p b (omega (arith, z, h)) l in
              omega (arith, z, q)

          found : (p : ℕ) → p < m + 1 → Leads values p → Dec (p < m) → Found size values (set tree s (m + 1)) (get_or values p 0) p
          found p h l (yes r) = found_kept tree s (m + 1) none (get_or values p 0) p (I.found p r l)
          found p h l (no r) =
              let z : p ≡ m = omega (arith, r) in
              subst (λ (q : ℕ). Found size values (set tree s (m + 1)) (get_or values q 0) q) (sym z)
              (record {
                steps = n;
                passed = passed_kept tree s (m + 1) none (get_or values m 0) n P;
                here = ap (λ (k : ℕ). get_or (set tree s (m + 1)) k 0) (slot_kept tree s (m + 1) none (get_or values m 0) n P) ∙ at_slot;
              })

-- ---- a search for x that has come to a slot, which holds `content`
pub record Walked (size : ℕ) (values : List ℕ) (m : ℕ) (tree : List ℕ) (x slot content rest : ℕ) : Type 0 where
  pub steps : ℕ
  pub passed : Passed size values tree x steps
  pub at : slot ≡ slot_at size tree x steps
  pub left : rest ≡ rest_at x steps
  pub holds : content ≡ get_or tree slot 0
  pub below : slot < size + 2 * m
  pub few : content ≤ m

-- how far it is from its end at most
abbrev pub distance : ℕ → ℕ → ℕ
distance m content = cond (eqb content 0) 0 (m + 1 - content)

module _ (size : ℕ) (values : List ℕ) (m : ℕ) (tree : List ℕ) (I : ∥ Indexed size values m tree ∥₁) (x : ℕ) where
  pub content_few : (slot : ℕ) → get_or tree slot 0 ≤ m
  content_few slot = go (eqb (get_or tree slot 0) 0) refl
    where
      go : (b : Bool) → eqb (get_or tree slot 0) 0 ≡ b → get_or tree slot 0 ≤ m
      go true e = omega (arith, eqb-true (get_or tree slot 0) 0 e)
      go false e = ∥∥₁_elim I (Prim.hlevel props) (λ J. (J.stored slot (let n = eqb-false (get_or tree slot 0) 0 e in omega (arith, n))).0)

  pub walk_start : (slot : ℕ) → slot ≡ bucket_of size x → slot < size → Walked size values m tree x slot (get_or tree slot 0) x
  unfolding slot_at rest_at
  walk_start slot e h = record { steps = 0; passed = λ j l. absurd (omega arith); at = e; left = refl; holds = refl; below = omega arith; few = content_few slot }

  module _ {slot content rest : ℕ} (W : Walked size values m tree x slot content rest) where
    some_content : (content ≡ 0 → ⊥) → 0 < get_or tree (slot_at size tree x W.steps) 0
    some_content n = let z : content ≡ get_or tree (slot_at size tree x W.steps) 0 = W.holds ∙ ap (λ (k : ℕ). get_or tree k 0) W.at in omega (arith, n, z)

    content_is : content ≡ get_or tree (slot_at size tree x W.steps) 0
    content_is = W.holds ∙ ap (λ (k : ℕ). get_or tree k 0) W.at

    pub walk_more : (content ≡ 0 → ⊥) → (get_or values (content - 1) 0 ≡ x → ⊥) → (next : ℕ) → next ≡ size + 2 * (content - 1) + rest % 2 → Walked size values m tree x next (get_or tree next 0) (rest / 2)
    unfolding slot_at rest_at
    walk_more n other next e = record {
      steps = suc W.steps;
      passed = λ j l. passed j l (dec_lt j W.steps);
      at = e ∙ ap (λ (k : ℕ). size + 2 * (k - 1) + rest % 2) content_is ∙ ap (λ (k : ℕ). size + 2 * (get_or tree (slot_at size tree x W.steps) 0 - 1) + k % 2) W.left;
      left = ap (λ (k : ℕ). k / 2) W.left;
      holds = refl;
      below = omega (arith, e, W.few, n);
      few = content_few next;
    }
      where
        passed : (j : ℕ) → j < suc W.steps → Dec (j < W.steps) → (0 < get_or tree (slot_at size tree x j) 0) × (get_or values (get_or tree (slot_at size tree x j) 0 - 1) 0 ≡ x → ⊥)
        passed j l (yes h) = W.passed j h
        passed j l (no h) =
            let z : W.steps ≡ j = omega (arith, h) in
            subst (λ (k : ℕ). (0 < get_or tree (slot_at size tree x k) 0) × (get_or values (get_or tree (slot_at size tree x k) 0 - 1) 0 ≡ x → ⊥)) z
            (some_content n, λ q. other (ap (λ (k : ℕ). get_or values (k - 1) 0) content_is ∙ q))

    pub walk_closer : (content ≡ 0 → ⊥) → (next : ℕ) → next ≡ size + 2 * (content - 1) + rest % 2 → distance m (get_or tree next 0) < distance m content
    walk_closer n next e = rw (ne_eqb content 0 n) (go (eqb (get_or tree next 0) 0) refl)
      where
        go : (b : Bool) → eqb (get_or tree next 0) 0 ≡ b → cond b 0 (m + 1 - get_or tree next 0) < m + 1 - content
        go true q = omega (arith, W.few)
        go false q =
            let some = eqb-false (get_or tree next 0) 0 q in
            let more : 0 < get_or tree (size + 2 * (content - 1) + rest % 2) 0 = subst (λ (k : ℕ). 0 < get_or tree k 0) e (let z : 0 < get_or tree next 0 = omega (arith, some) in z) in
            let up : content - 1 + 1 < get_or tree (size + 2 * (content - 1) + rest % 2) 0 = ∥∥₁_elim I (Prim.hlevel props) (λ J. J.rising (content - 1) (rest % 2) more (omega arith)) in
            let same : get_or tree next 0 ≡ get_or tree (size + 2 * (content - 1) + rest % 2) 0 = ap (λ (k : ℕ). get_or tree k 0) e in
            omega (arith, up, same, n, content_few next)

    pub walk_found : (content ≡ 0 → ⊥) → get_or values (content - 1) 0 ≡ x → (r : Spot) → r.slot ≡ slot → r.content ≡ content → Searched size values m tree x r
    walk_found n e r p q = record {
      steps = W.steps;
      passed = W.passed;
      slot = p ∙ W.at;
      content = q ∙ W.holds ∙ ap (λ (k : ℕ). get_or tree k 0) (sym p);
      below = omega (arith, p, W.below);
      first = λ _. ∥∥₁_elim I (Prim.hlevel props) (λ J. search_found size values m tree J x W.steps W.passed (some_content n) (ap (λ (k : ℕ). get_or values (k - 1) 0) (sym content_is) ∙ e) ∙ ap (λ (k : ℕ). k - 1) (sym content_is ∙ sym q));
      none = λ z. absurd (n (sym q ∙ z));
    }

    pub walk_end : content ≡ 0 → (r : Spot) → r.slot ≡ slot → r.content ≡ content → Searched size values m tree x r
    walk_end e r p q = record {
      steps = W.steps;
      passed = W.passed;
      slot = p ∙ W.at;
      content = q ∙ W.holds ∙ ap (λ (k : ℕ). get_or tree k 0) (sym p);
      below = omega (arith, p, W.below);
      first = λ n. absurd (n (q ∙ e));
      none = λ _. ∥∥₁_elim I (Prim.hlevel props) (λ J. search_ended size values m tree J x W.steps W.passed (sym content_is ∙ e));
    }

-- ---- the place m, after its value was searched for
module _ (size : ℕ) (values : List ℕ) (m : ℕ) (tree : List ℕ) (I : Indexed size values m tree) (r : Spot) (S : Searched size values m tree (get_or values m 0) r) where
  pub keep_place : (r.content ≡ 0 → ⊥) → Indexed size values (m + 1) tree
  keep_place n = indexed_kept size values m tree I (λ leads. omega (arith, leads, S.first n, n, S.content, content_few size values m tree ∣ I ∣₁ 0 r.slot))

  pub put_place : r.content ≡ 0 → r.slot < length tree → Indexed size values (m + 1) (set tree r.slot (m + 1))
  put_place e inside =
      subst (λ (k : ℕ). Indexed size values (m + 1) (set tree k (m + 1))) (sym S.slot)
      (indexed_more size values m tree I S.steps S.passed (ap (λ (k : ℕ). get_or tree k 0) (sym S.slot) ∙ sym S.content ∙ e) (omega (arith, S.slot, inside)) (omega (arith, S.slot, S.below)))

-- ---- the place m, whose first place is known
module _ (values : List ℕ) (m : ℕ) {first : ℕ} (e : first ≡ first_place values m (get_or values m 0)) where
  pub first_no_later : first ≤ m
  first_no_later = omega (arith, e, first_at_most (here values (get_or values m 0)) m)

  place_repeats : (first ≡ m → ⊥) → repeats_at values m ≡ true
  unfolding repeats_at
  place_repeats n = lt-ltb _ m (omega (arith, e, n, first_no_later))

  place_new : first ≡ m → repeats_at values m ≡ false
  unfolding repeats_at
  place_new z = le-ltb _ m (omega (arith, e, z))

-- ---- the invariants of loops that put the first n places into an empty tree, and have come to the place i
-- what they share
pub record Growing (size : ℕ) (values : List ℕ) (n : ℕ) (empty tree : List ℕ) (i : ℕ) : Type 0 where
  pub long : length tree ≡ length empty
  pub indexed : Indexed size values i tree

-- the first places are kept
pub record Indexing (size : ℕ) (values : List ℕ) (n : ℕ) (empty leaders₀ tree leaders : List ℕ) (i : ℕ) : Type 0 where
  pub grown : Growing size values n empty tree i
  pub long : length leaders ≡ length leaders₀
  pub led : Led values n leaders i

-- no place has repeated an earlier value
pub record Unrepeated (size : ℕ) (values : List ℕ) (n : ℕ) (empty tree : List ℕ) (i : ℕ) : Type 0 where
  pub grown : Growing size values n empty tree i
  pub new : (j : ℕ) → j < i → repeats_at values j ≡ false

module _ (size : ℕ) (values : List ℕ) (n : ℕ) (empty : List ℕ) where
  growing_none : ((s : ℕ) → get_or empty s 0 ≡ 0) → Growing size values n empty empty 0
  growing_none e = record { long = refl; indexed = indexed_none size values empty e }

  pub indexing_none : ((s : ℕ) → get_or empty s 0 ≡ 0) → (leaders : List ℕ) → Indexing size values n empty leaders empty leaders 0
  indexing_none e leaders = record { grown = growing_none e; long = refl; led = λ j h. absurd (omega arith) }

  pub unrepeated_none : ((s : ℕ) → get_or empty s 0 ≡ 0) → Unrepeated size values n empty empty 0
  unrepeated_none e = record { grown = growing_none e; new = λ j h. absurd (omega arith) }

  -- the place i is put, and its first place is known
  module _ {tree : List ℕ} {i : ℕ} (less : i < n) (next : List ℕ) (long : length next ≡ length tree) {first : ℕ}
      (put : Indexed size values (i + 1) next × (first ≡ first_place values i (get_or values i 0))) where
    growing_more : Growing size values n empty tree i → Growing size values n empty next (i + 1)
    growing_more G = record { long = long ∙ G.long; indexed = put.0 }

    pub indexing_more : {leaders₀ leaders : List ℕ} → n ≤ length leaders₀ → Indexing size values n empty leaders₀ tree leaders i
        → Indexing size values n empty leaders₀ next (set leaders i first) (i + 1)
    indexing_more {leaders₀} {leaders} room I = record {
      grown = growing_more I.grown;
      long = length-set leaders i first ∙ I.long;
      led = led_more values n i less leaders first (omega (arith, I.long)) put.1 I.led;
    }

    pub unrepeated_more : first ≡ i → Unrepeated size values n empty tree i → Unrepeated size values n empty next (i + 1)
    unrepeated_more e U = record { grown = growing_more U.grown; new = below_more (λ (j : ℕ). repeats_at values j ≡ false) i U.new (place_new values i put.1 e) }

    pub unrepeated_here : (first ≡ i → ⊥) → Unrepeated size values n empty tree i → i ≡ first_below (repeats_at values) n
    unrepeated_here e U = sym (first_is (repeats_at values) n i less (place_repeats values i put.1 e) U.new)

  pub unrepeated_end : {tree : List ℕ} {i : ℕ} → i ≡ n → Unrepeated size values n empty tree i → n ≡ first_below (repeats_at values) n
  unrepeated_end end U = sym (none_is_end (repeats_at values) n (λ j h. U.new j (omega (arith, end))))
