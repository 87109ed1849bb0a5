-- A part of a line, put into a run.
-- Assumes nothing.
use Rattle.std.specs.Prelude.{ℕ, ◌+◌, ◌≡◌, List, [], ◌∷◌, ◌++◌, length}
use Rattle.writing.specs.InsideWriting.{written_at}

-- a part and the byte that ends it, put at a place of a run: what that leaves, and the place after it
pub record Put (before : List ℕ) (at : ℕ) (part : List ℕ) (end : ℕ) (after : List ℕ) (to : ℕ) : Type 0 where
  pub same : after ≡ written_at before at (part ++ (end ∷ []))
  pub next : to ≡ at + length part + 1
