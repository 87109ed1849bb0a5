-- The bytes of a text, so that a definition can show what a file shows.
-- Assumes nothing.
use Rattle.std.specs.Prelude.{ℕ, List, [] as none, ◌∷◌ as ◌then◌}
use Prim.Native.Char.{code}
use Prim.Native.String.{String, [], ◌∷◌}

abbrev pub written : String → List ℕ
written [] = none
written (c ∷ s) = code c then written s
