-- Chains hold all places.
--     chained_none, chained_more         the chains at the start, and with one place more
--     chained_same                       the chains of values that are the same on the first n places
--     walk_start, walk_more, walk_end    for any test f that holds of places with the value x alone: a walk along the chain of x that keeps the last place
--                                        at which f holds ends with the first place at which f holds
-- Assumes nothing.
use mathlib.Core.Path.{◌≡◌, refl, sym, ◌∙◌, ap, subst}
use mathlib.Core.List.{List}
use mathlib.Core.Bool.{Bool, true, false, cond}
use Prim.Native.Nat.{ℕ, ◌+◌, ◌-◌, ◌≤◌, ◌<◌}
use native.Mathlib.Nat.{le_refl, not-suc-le-zero}
use native.Mathlib.Omega.{arith}
use native.Mathlib.Decide.{dec_lt}
use borrow.Author.Tests.{eqb-true, eqb-false}
use lib.Dec.{eqb}
use lib.ListN.{length, length-set, get_or, set}
use lib.Seq.{get_or-set_same, get_or-set_other}
use Rattle.lists.specs.Below.{first_below}
use Rattle.lists.proofs.Below.{first_is, none_is_end}
use Rattle.buckets.specs.InsideBuckets.{bucket_of}
use Rattle.buckets.specs.InsideChains.{bucket_at, Latest, Headed, Linked, ChainRoom, Chained, Only, Walked}

less_one : (i : ℕ) → i + 1 - 1 ≡ i
less_one i = omega arith

-- ---- one place more
module _ (size : ℕ) (value : ℕ → ℕ) where
  latest_kept : (b i k : ℕ) → Latest size value b i k → (bucket_at size value i ≡ b → ⊥) → Latest size value b (i + 1) k
  latest_kept b i k H none = record {
    within = omega (arith, H.within);
    same = H.same;
    after = λ p h s. after p h s (dec_lt p i);
  }
    where
      after : (p : ℕ) → p < i + 1 → bucket_at size value p ≡ b → Dec (p < i) → p < k
      after p h s (yes r) = H.after p r s
      after p h s (no r) = let z : p ≡ i = omega (arith, r) in absurd (none (subst (λ (q : ℕ). bucket_at size value q ≡ b) z s))

  latest_here : (b i : ℕ) → bucket_at size value i ≡ b → Latest size value b (i + 1) (i + 1)
  latest_here b i s = record {
    within = le_refl (i + 1);
    same = λ h. subst (λ (q : ℕ). bucket_at size value q ≡ b) (sym (less_one i)) s;
    after = λ p h t. h;
  }

  headed_none : (heads : List ℕ) → ((b : ℕ) → get_or heads b 0 ≡ 0) → Headed size value 0 heads
  headed_none heads e b = record {
    within = omega (arith, e b);
    same = λ h. absurd (omega (arith, e b));
    after = λ p h. absurd (not-suc-le-zero h);
  }

  linked_none : (links : List ℕ) → Linked size value 0 links
  linked_none links q h = absurd (not-suc-le-zero h)

  module _ (heads : List ℕ) (b i : ℕ) (e : b ≡ bucket_at size value i) (H : Headed size value i heads) where
    headed_more : b < length heads → Headed size value (i + 1) (set heads b (i + 1))
    headed_more l a = go (eqb a b) refl
      where
        go : (u : Bool) → eqb a b ≡ u → Latest size value a (i + 1) (get_or (set heads b (i + 1)) a 0)
        go true r =
            let s : a ≡ b = eqb-true a b r in
            subst (λ (k : ℕ). Latest size value a (i + 1) k) (sym (ap (λ (c : ℕ). get_or (set heads b (i + 1)) c 0) s ∙ get_or-set_same heads b (i + 1) 0 l))
            (latest_here a i (sym e ∙ sym s))
        go false r =
            subst (λ (k : ℕ). Latest size value a (i + 1) k) (sym (get_or-set_other heads b a (i + 1) 0 (eqb-false a b r)))
            (latest_kept a i (get_or heads a 0) (H a) (λ s. eqb-false a b r (sym s ∙ sym e)))

    linked_more : (links : List ℕ) → i < length links → Linked size value i links → Linked size value (i + 1) (set links i (get_or heads b 0))
    linked_more links l L q h = go (dec_lt q i)
      where
        go : Dec (q < i) → Latest size value (bucket_at size value q) q (get_or (set links i (get_or heads b 0)) q 0)
        go (yes m) =
            subst (λ (k : ℕ). Latest size value (bucket_at size value q) q k) (sym (get_or-set_other links i q (get_or heads b 0) 0 (λ r. omega arith))) (L q m)
        go (no m) =
            let z : q ≡ i = omega (arith, m) in
            subst (λ (p : ℕ). Latest size value (bucket_at size value p) p (get_or (set links i (get_or heads b 0)) p 0)) (sym z)
            (subst (λ (k : ℕ). Latest size value (bucket_at size value i) i k) (sym (get_or-set_same links i (get_or heads b 0) 0 l))
            (subst (λ (c : ℕ). Latest size value c i (get_or heads b 0)) e (H b)))

-- ---- the chains
module _ (value : ℕ → ℕ) (heads links : List ℕ) where
  pub chained_none : ChainRoom 0 heads links → ((b : ℕ) → get_or heads b 0 ≡ 0) → Chained value 0 heads links
  chained_none room empty = record { room = room; headed = headed_none (length heads) value heads empty; linked = linked_none (length heads) value links }

  module _ (i b : ℕ) (I : Chained value i heads links) (own : b ≡ bucket_at (length heads) value i) (below : b < length heads) (room : ChainRoom (i + 1) heads links) where
    pub chained_more : Chained value (i + 1) (set heads b (i + 1)) (set links i (get_or heads b 0))
    chained_more =
        let long : length (set heads b (i + 1)) ≡ length heads = length-set heads b (i + 1) in
        record {
          room = record {
            some = omega (arith, long, room.some);
            bounded = omega (arith, long, room.bounded);
            linkable = omega (arith, length-set links i (get_or heads b 0), room.linkable);
            few = room.few;
          };
          headed = subst (λ (size : ℕ). Headed size value (i + 1) (set heads b (i + 1))) (sym long) (headed_more (length heads) value heads b i own I.headed below);
          linked = subst (λ (size : ℕ). Linked size value (i + 1) (set links i (get_or heads b 0))) (sym long)
              (linked_more (length heads) value heads b i own I.headed links (omega (arith, room.linkable)) I.linked);
        }

-- the chains of values are those of any others that are the same on the first n places
pub chained_same : (value other : ℕ → ℕ) (n : ℕ) (heads links : List ℕ) → ((p : ℕ) → p < n → other p ≡ value p) → Chained value n heads links → Chained other n heads links
chained_same value other n heads links same C =
    record {
      room = C.room;
      headed = λ b. moved b n (get_or heads b 0) (le_refl n) (C.headed b);
      linked = λ q h. subst (λ (b : ℕ). Latest (length heads) other b q (get_or links q 0)) (sym (at q h)) (moved (bucket_at (length heads) value q) q (get_or links q 0) (omega arith) (C.linked q h));
    }
  where
    at : (p : ℕ) → p < n → bucket_at (length heads) other p ≡ bucket_at (length heads) value p
    at p h = ap (bucket_of (length heads)) (same p h)

    moved : (b m k : ℕ) → m ≤ n → Latest (length heads) value b m k → Latest (length heads) other b m k
    moved b m k few L = record {
      within = L.within;
      same = λ h. at (k - 1) (omega (arith, L.within)) ∙ L.same h;
      after = λ p h s. L.after p h (sym (at p (omega arith)) ∙ s);
    }

-- ---- a walk
module _ (f : ℕ → Bool) (size : ℕ) (value : ℕ → ℕ) (n x : ℕ) (only : Only f value n x) where
  -- f holds nowhere outside the bucket
  outside : (p : ℕ) → p < n → (bucket_at size value p ≡ bucket_of size x → ⊥) → f p ≡ false
  outside p h out = go (f p) refl
    where
      go : (t : Bool) → f p ≡ t → f p ≡ false
      go true e = absurd (out (ap (bucket_of size) (only p h e)))
      go false e = e

  pub walk_start : (heads : List ℕ) → Headed size value n heads → {at : ℕ} → at ≡ get_or heads (bucket_of size x) 0 → Walked f size value n x at n
  walk_start heads H {at} e =
      let L = subst (Latest size value (bucket_of size x) n) (sym e) (H (bucket_of size x)) in
      record {
        within = L.within;
        same = L.same;
        low = L.within;
        high = le_refl n;
        holds = λ h. absurd (omega arith);
        none = λ p l h. outside p h (λ s. let z : p < at = L.after p h s in omega arith);
      }

  module _ (here best : ℕ) (W : Walked f size value n x (here + 1) best) where
    passed_one : (links : List ℕ) → Linked size value n links → Walked f size value n x (get_or links here 0) (cond (f here) here best)
    passed_one links L = go (f here) refl
      where
        next : Latest size value (bucket_at size value here) here (get_or links here 0)
        next = L here (omega (arith, W.within))

        own : bucket_at size value here ≡ bucket_of size x
        own = ap (bucket_at size value) (sym (less_one here)) ∙ W.same (omega arith)

        skipped : (p : ℕ) → get_or links here 0 ≤ p → p < here → f p ≡ false
        skipped p l h = outside p (omega (arith, W.within)) (λ s. let z : p < get_or links here 0 = next.after p h (s ∙ sym own) in omega arith)

        passed : f here ≡ false → (p : ℕ) → get_or links here 0 ≤ p → p < best → Dec (p < here) → Dec (here < p) → f p ≡ false
        passed e p l h (yes r) s = skipped p l r
        passed e p l h (no r) (yes s) = W.none p (omega arith) h
        passed e p l h (no r) (no s) = let z : p ≡ here = omega (arith, r, s) in subst (λ (q : ℕ). f q ≡ false) (sym z) e

        go : (t : Bool) → f here ≡ t → Walked f size value n x (get_or links here 0) (cond t here best)
        go true e = record {
          within = omega (arith, next.within, W.within);
          same = λ l. next.same l ∙ own;
          low = next.within;
          high = omega (arith, W.within);
          holds = λ _. e;
          none = skipped;
        }
        go false e = record {
          within = omega (arith, next.within, W.within);
          same = λ l. next.same l ∙ own;
          low = omega (arith, next.within, W.low);
          high = W.high;
          holds = W.holds;
          none = λ p l h. passed e p l h (dec_lt p here) (dec_lt here p);
        }

  module _ {at best : ℕ} (W : Walked f size value n x at best) where
    pub walk_more : (here : ℕ) → at ≡ here + 1 → (links : List ℕ) → Linked size value n links → {next : ℕ} → next ≡ get_or links here 0
        → {best' : ℕ} → best' ≡ cond (f here) here best → Walked f size value n x next best'
    walk_more here e links L follows kept =
        subst (Walked f size value n x _) (sym kept)
        (subst (λ (k : ℕ). Walked f size value n x k (cond (f here) here best)) (sym follows)
        (passed_one here best (subst (λ (k : ℕ). Walked f size value n x k best) e W) links L))

    pub walk_end : at ≡ 0 → best ≡ first_below f n
    walk_end z = go (dec_lt best n)
      where
        go : Dec (best < n) → best ≡ first_below f n
        go (yes h) = sym (first_is f n best h (W.holds h) (λ p l. W.none p (omega arith) l))
        go (no h) =
            let q : best ≡ n = omega (arith, h, W.high) in
            q ∙ sym (none_is_end f n (λ p l. W.none p (omega arith) (omega arith)))
