-- A file's lines and a line's fields, as lists of bytes.
-- Assumes nothing.
use Rattle.std.specs.Prelude.{ℕ, ◌-◌, List, [], ◌∷◌, cond, length, get_or, take, eqb}

-- b in front of the first part
abbrev pub onto : ℕ → List (List ℕ) → List (List ℕ)
onto b [] = (b ∷ []) ∷ []
onto b (l ∷ ls) = (b ∷ l) ∷ ls

-- the parts between the bytes d, of which there is always one
unfoldable pub cut : ℕ → List ℕ → List (List ℕ)
cut d [] = [] ∷ []
cut d (b ∷ s) = cond (eqb b d) ([] ∷ cut d s) (onto b (cut d s))

-- a line that ends, without the byte 13 at its end
abbrev pub chomp : List ℕ → List ℕ
chomp l = cond (eqb (get_or l (length l - 1) 0) 13) (take (length l - 1) l) l

-- the parts that a byte 10 ends are lines; what is left after the last is one if it has bytes
unfoldable pub ended : List (List ℕ) → List (List ℕ)
ended [] = []
ended (l ∷ []) = cond (eqb (length l) 0) [] (l ∷ [])
ended (l ∷ m ∷ ls) = chomp l ∷ ended (m ∷ ls)

abbrev pub lines_of : List ℕ → List (List ℕ)
lines_of s = ended (cut 10 s)

-- commas part the fields
abbrev pub fields_of : List ℕ → List (List ℕ)
fields_of s = cut 44 s
