-- Numbers that a match tells apart.
--     past          a number from k on that is not k is past it
--     past_those    a number that is none of the first k is past them
-- Assumes nothing.
use mathlib.Core.Path.{◌≡◌}
use Prim.Native.Nat.{ℕ, zero, suc, ◌≤◌, zero-le}
use native.Mathlib.Omega.{arith}

past : {k n : ℕ} → (n ≡ k → ⊥) → k ≤ n → suc k ≤ n
past other h = omega (arith, other)

-- n is none of the first k numbers, as the last arm of a match says it
abbrev pub NoneOf : ℕ → ℕ → Type 0
NoneOf zero n = Unit {0}
NoneOf (suc k) n = NoneOf k n × (n ≡ k → ⊥)

pub past_those : (k : ℕ) {n : ℕ} → NoneOf k n → k ≤ n
past_those zero others = zero-le
past_those (suc k) others = past others.1 (past_those k others.0)
