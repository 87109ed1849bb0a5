-- A loop that asks of a list whether a test holds of an element, and goes on block by block. The block t is the m elements from q on.
--     block_some     it holds of one in the block, so of one in the list
--     block_none     it holds of none in the block
--     block_passed   it holds of none before the block, and of none in it
--     block_last     the block is the end of the list, and what stands before it is passed
-- Assumes nothing.
use mathlib.Core.Path.{◌≡◌, refl, sym, ◌∙◌, ap}
use mathlib.Core.Bool.{Bool, true, false}
use mathlib.Core.List.{List}
use Prim.Native.Nat.{ℕ, ◌+◌, ◌-◌, ◌≤◌, ◌<◌}
use native.Mathlib.Omega.{arith}
use native.Mathlib.Decide.{dec_lt}
use lib.ListN.{get_or}
use Rattle.lists.specs.Below.{some_below}
use Rattle.lists.proofs.Below.{some_holds, some_none, some_is, none_some}

-- whether the test holds of the element at a place
abbrev pub holds_at : (ℕ → Bool) → List ℕ → ℕ → Bool
holds_at g s i = g (get_or s i 0)

module _ (g : ℕ → Bool) (s t : List ℕ) (q m : ℕ) (same : (k : ℕ) → k < m → get_or t k 0 ≡ get_or s (q + k) 0) where
  pub block_some : (n : ℕ) → q + m ≤ n → some_below (holds_at g t) m ≡ true → some_below (holds_at g s) n ≡ true
  block_some n h e =
      let w = some_holds (holds_at g t) m e in
      some_is (holds_at g s) n (q + w.0) (omega (arith, w.1)) (ap g (sym (same w.0 w.1)) ∙ w.2)

  pub block_none : some_below (holds_at g t) m ≡ false → (k : ℕ) → q ≤ k → k < q + m → holds_at g s k ≡ false
  block_none e k a b =
      let here : k ≡ q + (k - q) = omega arith in
      let l : k - q < m = omega arith in
      ap (holds_at g s) here ∙ ap g (sym (same (k - q) l)) ∙ some_none (holds_at g t) m e (k - q) l

  pub block_passed : (i : ℕ) → q ≤ i → ((k : ℕ) → k < i → holds_at g s k ≡ false) → some_below (holds_at g t) m ≡ false → (k : ℕ) → k < q + m → holds_at g s k ≡ false
  block_passed i h none e k l = go (dec_lt k q)
    where
      go : Dec (k < q) → holds_at g s k ≡ false
      go (yes a) = none k (omega arith)
      go (no a) = block_none e k (omega (arith, a)) l

  pub block_last : (n i : ℕ) → q ≤ i → q + m ≡ n → ((k : ℕ) → k < i → holds_at g s k ≡ false) → some_below (holds_at g t) m ≡ some_below (holds_at g s) n
  block_last n i h whole none = go (some_below (holds_at g t) m) refl
    where
      go : (b : Bool) → some_below (holds_at g t) m ≡ b → some_below (holds_at g t) m ≡ some_below (holds_at g s) n
      go true e = e ∙ sym (block_some n (omega arith) e)
      go false e = e ∙ sym (none_some (holds_at g s) n (λ k l. block_passed i h none e k (omega arith)))
