-- A number that was read.
-- Assumes nothing.
use Rattle.std.specs.Prelude.{is_some}
use Prim.Native.Nat.{ℕ}
use mathlib.Core.Path.{◌≡◌, refl, sym}
use mathlib.Core.Bool.{true, true≢false}
use Rattle.std.specs.Prelude.{Option, Some, None}

pub read_value : (x : Option ℕ) → is_some x ≡ true → (n : ℕ) × (x ≡ Some n)
read_value (Some n) e = (n, refl)
read_value None e = absurd (true≢false (sym e))
