-- What the code asks of a number.
--     one_more         a number kept as itself and one
--     value_equal      whether what was read is a number
-- Assumes nothing.
use mathlib.Core.Path.{◌≡◌, refl}
use Prim.Native.Nat.{ℕ, ◌+◌}
use native.Mathlib.Omega.{arith}
use borrow.Author.Tests.{eq-eqb, eqb-true}
use lib.Dec.{eqb}
use Rattle.lists.proofs.Reflected.{alike}
use Rattle.std.specs.Prelude.{Option, Some, None}
use Rattle.std.specs.Option.{option_eq}
use Rattle.headers.specs.Headers.{is_value}

pub one_more : (said m n : ℕ) → said ≡ m + 1 → eqb m n ≡ eqb said (n + 1)
one_more said m n e =
    alike (eqb m n) (eqb said (n + 1))
    (λ q. eq-eqb said (n + 1) (omega (arith, eqb-true m n q)))
    (λ q. eq-eqb m n (omega (arith, eqb-true said (n + 1) q)))

pub value_equal : (read : Option ℕ) (n : ℕ) → option_eq eqb read (Some n) ≡ is_value n read
value_equal (Some m) n = refl
value_equal None n = refl
