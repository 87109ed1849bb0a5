-- A digit is no point, and digits alone have none.
-- Assumes nothing.
use mathlib.Core.Path.{◌≡◌, refl, ap}
use mathlib.Core.Bool.{true, false, ◌&&◌}
use mathlib.Core.List.{List, [], ◌∷◌}
use Prim.Native.Nat.{ℕ, suc, ◌≤◌}
use native.Mathlib.Omega.{arith}
use borrow.Author.Tests.{ne_eqb, leb-true}
use lib.Dec.{eqb, leb}
use lib.ListN.{length}
use Rattle.lists.specs.First.{first_where}
use Rattle.digits.specs.Digits.{is_digit, all_digits}
use Rattle.digits.proofs.Laws.{both_true}
use Rattle.amounts.specs.Amounts.{point_of}

pub not_point : (b : ℕ) (s : List ℕ) → is_digit b && all_digits s ≡ true → (eqb b 46 ≡ false) × (all_digits s ≡ true)
not_point b s d =
    let q = both_true (is_digit b) (all_digits s) d in
    let low : 48 ≤ b = leb-true 48 b (both_true (leb 48 b) (leb b 57) q.0).0 in
    (ne_eqb b 46 (λ e. omega arith), q.1)

-- digits alone have none
pub no_point_lem : (t : List ℕ) → all_digits t ≡ true → point_of t ≡ length t
unfolding all_digits first_where
no_point_lem [] d = refl
no_point_lem (b ∷ t) d = let q = not_point b t d in rw q.0 (ap suc (no_point_lem t q.1))
