-- Columns of zeros have room for chains.
-- Assumes nothing.
use Prim.Native.Nat.{ℕ, ◌≤◌, ◌<◌}
use native.Mathlib.Omega.{arith}
use lib.ListN.{replicate, length-replicate}
use Rattle.buckets.specs.InsideChains.{ChainRoom}

pub chain_room : (size places : ℕ) → 0 < size → size ≤ 65535 → places ≤ size → ChainRoom places (replicate size 0) (replicate size 0)
chain_room size places some most fits =
    let long = length-replicate {A = ℕ} size 0 in
    record { some = omega (arith, long); bounded = omega (arith, long); linkable = omega (arith, long); few = omega arith }
