-- Cancels and cancelled entries still pair off after an entry that is neither is appended, and after a cancel.
-- Assumes nothing.
use mathlib.Core.Path.{◌≡◌, refl, sym, ap, ◌∙◌, subst}
use mathlib.Core.List.{List, [], ◌∷◌, ◌++◌}
use Prim.Native.Nat.{ℕ, ◌+◌, ◌≤◌, ◌<◌}
use native.Mathlib.Omega.{arith}
use lib.ListN.{length, set, length-append, length-set, get_or-append}
use Rattle.entries.specs.declared.Entry.{Entry}
use Rattle.entries.specs.Entries.{blank, entry_of, in_state}
use Rattle.booking.specs.InsideKept.{Paired, EntriesSound}
use Rattle.booking.proofs.KeptPlaces.{longer_each, changed_each}
use Rattle.booking.proofs.KeptEntries.{separate, one_place}

-- the sentences of `EntriesSound` on cancels and cancelled entries
pub record PairedOff (es : List Entry) : Type 0 where
  pub cancel_paired : (i : ℕ) → i < length es → (entry_of es i).state ≡ 4 → (j : ℕ) × (j < i) × Paired (entry_of es i) (entry_of es j)
  pub cancelled_paired : (j : ℕ) → j < length es → (entry_of es j).state ≡ 3 → (i : ℕ) × (j < i) × (i < length es) × Paired (entry_of es i) (entry_of es j)
  pub one_cancel : (i k j : ℕ) → i < length es → k < length es → j < length es → Paired (entry_of es i) (entry_of es j) → Paired (entry_of es k) (entry_of es j) → i ≡ k

-- ---- an entry that is neither is appended
module _ (l : List Entry) (x : Entry) (s : EntriesSound l) (neither : x.state ≤ 2) where
  abbrev appended : List Entry
  appended = l ++ x ∷ []

  each : (P : ℕ → Entry → Type 0) → ((i : ℕ) → i < length l → P i (entry_of l i)) → P (length l) x → (i : ℕ) → i < length appended → P i (entry_of appended i)
  each P = longer_each blank P l x

  stays_at : (i : ℕ) → i < length l → entry_of l i ≡ entry_of appended i
  stays_at i h = sym (get_or-append l (x ∷ []) blank i h)

  appended_length : length appended ≡ length l + 1
  appended_length = length-append l (x ∷ [])

  -- a cancel that pairs with an entry of the ledger is in the ledger
  among_old : (j i : ℕ) → i < length appended → Paired (entry_of appended i) (entry_of l j) → (i < length l) × Paired (entry_of l i) (entry_of l j)
  among_old j = each (λ i a. Paired a (entry_of l j) → (i < length l) × Paired (entry_of l i) (entry_of l j)) (λ i h q. (h, q)) (λ q. absurd (omega (arith, q.cancel)))

  one_appended : (j : ℕ) → j < length appended → (i k : ℕ) → i < length appended → k < length appended
      → Paired (entry_of appended i) (entry_of appended j) → Paired (entry_of appended k) (entry_of appended j) → i ≡ k
  one_appended = each (λ j e. (i k : ℕ) → i < length appended → k < length appended → Paired (entry_of appended i) e → Paired (entry_of appended k) e → i ≡ k)
      (λ j h i k hi hk q r.
      let (inside, first) = among_old j i hi q in
      let (inside', second) = among_old j k hk r in
      s.one_cancel i k j inside inside' h first second)
      (λ i k hi hk q r. absurd (omega (arith, q.cancelled)))

  pub paired_appended : PairedOff (l ++ x ∷ [])
  paired_appended =
      record {
        cancel_paired = each (λ i e. e.state ≡ 4 → (j : ℕ) × (j < i) × Paired e (entry_of appended j))
            (λ i h t. let (j, k, r) = s.cancel_paired i h t in (j, k, subst (Paired (entry_of l i)) (stays_at j (omega arith)) r))
            (λ t. absurd (omega arith));
        cancelled_paired = each (λ j e. e.state ≡ 3 → (i : ℕ) × (j < i) × (i < length appended) × Paired (entry_of appended i) e)
            (λ j h t. let (i, k, m, r) = s.cancelled_paired j h t in (i, k, omega (arith, appended_length), subst (λ e. Paired e (entry_of l j)) (stays_at i m) r))
            (λ t. absurd (omega arith));
        one_cancel = λ i k j hi hk hj. one_appended j hj i k hi hk;
      }

-- ---- a cancel x of the live or held entry at p is appended
module _ (l : List Entry) (s : EntriesSound l) (p : ℕ) (inside : p < length l) (low : 1 ≤ (entry_of l p).state) (high : (entry_of l p).state ≤ 2)
    (x : Entry) (pair : Paired x (in_state (entry_of l p) 3)) where
  abbrev was : Entry
  was = entry_of l p

  abbrev now : List Entry
  now = set l p (in_state was 3) ++ x ∷ []

  by_cases : (P : ℕ → Entry → Type 0) → ((i : ℕ) → i < length l → (i ≡ p → ⊥) → P i (entry_of l i)) → P p (in_state was 3) → P (length l) x
      → (i : ℕ) → i < length now → P i (entry_of now i)
  by_cases P same changed new =
      longer_each blank P (set l p (in_state was 3)) x (changed_each blank P l p (in_state was 3) inside same changed)
      (subst (λ (n : ℕ). P n x) (sym (length-set l p (in_state was 3))) new)

  now_length : length now ≡ length l + 1
  now_length = length-append (set l p (in_state was 3)) (x ∷ []) ∙ ap (λ (n : ℕ). n + 1) (length-set l p (in_state was 3))

  stays : (i : ℕ) → i < length l → (i ≡ p → ⊥) → entry_of l i ≡ entry_of now i
  stays i h n = by_cases (λ i e. (i ≡ p → ⊥) → i < length l → entry_of l i ≡ e) (λ i h n m k. refl) (λ n k. absurd (n refl)) (λ n k. absurd (omega arith)) i (omega (arith, now_length)) n h

  turned : in_state was 3 ≡ entry_of now p
  turned = by_cases (λ i e. i ≡ p → in_state was 3 ≡ e) (λ i h n m. absurd (n m)) (λ m. refl) (λ m. absurd (omega arith)) p (omega (arith, now_length)) refl

  added : x ≡ entry_of now (length l)
  added = by_cases (λ i e. i ≡ length l → x ≡ e) (λ i h n m. absurd (omega arith)) (λ m. absurd (omega arith)) (λ m. refl) (length l) (omega (arith, now_length)) refl

  -- what is in a pair is elsewhere: it is a cancel or cancelled
  elsewhere : (i : ℕ) → 3 ≤ (entry_of l i).state → i ≡ p → ⊥
  elsewhere i t e = let k : 3 ≤ (entry_of l p).state = subst (λ (m : ℕ). 3 ≤ (entry_of l m).state) e t in omega arith

  place : (j : ℕ) → j < length l → (entry_of l j).sender ≡ was.sender → (entry_of l j).id ≡ was.id → j ≡ p
  place j h = one_place l (separate l s) j p h inside

  -- a cancel before x that pairs with it would have an entry of its own, with the same key
  only_new : (i : ℕ) → i < length l → Paired (entry_of l i) (in_state was 3) → ⊥
  only_new i h q =
      let (j, k, r) = s.cancel_paired i h q.cancel in
      elsewhere j (omega (arith, r.cancelled)) (place j (omega arith) (sym r.sender ∙ q.sender) (sym r.reference ∙ q.reference))

  -- x pairs with no other
  only_named : (j : ℕ) → j < length l → (j ≡ p → ⊥) → Paired x (entry_of l j) → ⊥
  only_named j h n q = n (place j h (sym q.sender ∙ pair.sender) (sym q.reference ∙ pair.reference))

  -- what pairs with it now is x; what pairs with another did so before
  by_new : (i : ℕ) → i < length now → Paired (entry_of now i) (in_state was 3) → i ≡ length l
  by_new = by_cases (λ i a. Paired a (in_state was 3) → i ≡ length l) (λ i h n q. absurd (only_new i h q)) (λ q. absurd (omega (arith, q.cancel))) (λ q. refl)

  by_old : (j : ℕ) → j < length l → (j ≡ p → ⊥) → (i : ℕ) → i < length now → Paired (entry_of now i) (entry_of l j) → (i < length l) × Paired (entry_of l i) (entry_of l j)
  by_old j h n = by_cases (λ i a. Paired a (entry_of l j) → (i < length l) × Paired (entry_of l i) (entry_of l j))
      (λ i k m q. (k, q))
      (λ q. absurd (omega (arith, q.cancel)))
      (λ q. absurd (only_named j h n q))

  one_now : (j : ℕ) → j < length now → (i k : ℕ) → i < length now → k < length now → Paired (entry_of now i) (entry_of now j) → Paired (entry_of now k) (entry_of now j) → i ≡ k
  one_now = by_cases (λ j e. (i k : ℕ) → i < length now → k < length now → Paired (entry_of now i) e → Paired (entry_of now k) e → i ≡ k)
      (λ j h n i k hi hk q r.
      let (before, first) = by_old j h n i hi q in
      let (before', second) = by_old j h n k hk r in
      s.one_cancel i k j before before' h first second)
      (λ i k hi hk q r. by_new i hi q ∙ sym (by_new k hk r))
      (λ i k hi hk q r. absurd (omega (arith, q.cancelled, pair.cancel)))

  pub paired_cancelled : PairedOff (set l p (in_state (entry_of l p) 3) ++ x ∷ [])
  paired_cancelled =
      record {
        cancel_paired = by_cases (λ i e. e.state ≡ 4 → (j : ℕ) × (j < i) × Paired e (entry_of now j))
            (λ i h n t.
            let (j, k, r) = s.cancel_paired i h t in
            (j, k, subst (Paired (entry_of l i)) (stays j (omega arith) (elsewhere j (omega (arith, r.cancelled)))) r))
            (λ t. absurd (omega arith))
            (λ t. (p, inside, subst (Paired x) turned pair));
        cancelled_paired = by_cases (λ j e. e.state ≡ 3 → (i : ℕ) × (j < i) × (i < length now) × Paired (entry_of now i) e)
            (λ j h n t.
            let (i, k, m, r) = s.cancelled_paired j h t in
            (i, k, omega (arith, now_length), subst (λ e. Paired e (entry_of l j)) (stays i m (elsewhere i (omega (arith, r.cancel)))) r))
            (λ t. (length l, inside, omega (arith, now_length), subst (λ e. Paired e (in_state was 3)) added pair))
            (λ t. absurd (omega (arith, pair.cancel)));
        one_cancel = λ i k j hi hk hj. one_now j hj i k hi hk;
      }
