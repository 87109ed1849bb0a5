-- Tests 9, 10, 17 and 38 of Table 5-1, as document 01, "Tests", reads them.
-- Assumes nothing.
use Rattle.std.specs.Prelude.{ℕ, ◌-◌, List, Bool, false, cond, not, length, eqb}
use Rattle.lists.specs.Below.{first_below, some_below}
use Rattle.tables.specs.Groups.{at}

-- ---- 9: "no Record ID repeats in the file (the later line fails)"
unfoldable pub repeats : List ℕ → ℕ → Bool
repeats ids i = some_below (λ (j : ℕ). eqb (at ids j) (at ids i)) i

unfoldable pub first_repeated : List ℕ → ℕ
first_repeated ids = first_below (repeats ids) (length ids)

-- ---- 10, 17, 38: the record at i, where it has a place to compare with, has its own value unlike that of the record there
-- (a place stands as itself and one; 0 says none)
unfoldable pub unlike : List ℕ → List ℕ → List ℕ → ℕ → Bool
unlike places own theirs i = cond (eqb (at places i) 0) false (not (eqb (at own i) (at theirs (at places i - 1))))

unfoldable pub first_unlike : List ℕ → List ℕ → List ℕ → ℕ
first_unlike places own theirs = first_below (unlike places own theirs) (length places)
