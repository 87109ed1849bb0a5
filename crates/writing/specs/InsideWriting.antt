-- Bytes that are written into a run.
-- Assumes nothing.
use Rattle.std.specs.Prelude.{ℕ, ◌+◌, List, ◌++◌, length, take, drop}

-- out, with the bytes bs from place `at` on; everything else stays
unfoldable pub written_at : List ℕ → ℕ → List ℕ → List ℕ
written_at out at bs = take at out ++ (bs ++ drop (at + length bs) out)
