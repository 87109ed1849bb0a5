-- What holds at each number below n, shown at one after the other.
-- Assumes nothing.
use mathlib.Core.Path.{◌≡◌, subst}
use Prim.Native.Nat.{ℕ, zero, suc, ◌<◌}
use native.Mathlib.Omega.{arith}
use native.Mathlib.Decide.{dec_lt}

abbrev pub AllBelow : (ℕ → Type 0) → ℕ → Type 0
AllBelow P zero = Unit {0}
AllBelow P (suc n) = AllBelow P n × P n

pub at_below : (P : ℕ → Type 0) (n : ℕ) → AllBelow P n → (k : ℕ) → k < n → P k
at_below P zero all k h = absurd (omega arith)
at_below P (suc n) all k h = go (at_below P n all.0 k) (dec_lt k n)
  where
    go : (k < n → P k) → Dec (k < n) → P k
    go before (yes l) = before l
    go before (no l) = let same : n ≡ k = omega (arith, l) in subst P same all.1
