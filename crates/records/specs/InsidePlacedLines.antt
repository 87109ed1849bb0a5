-- The places of a file's lines and of a line's parts.
-- Assumes nothing.
use Rattle.std.specs.Prelude.{ℕ, ◌-◌, ◌≤◌, ◌<◌, ◌≡◌, ◌⊎◌, List, [], ◌∷◌, Bool, true, false, cond, ◌&&◌, length, take, drop, leb, ltb, T}
use Rattle.std.specs.Prelude.{Option, Some, None}
use Rattle.records.specs.Text.{chomp, lines_of}

-- the bytes from place a up to place e
abbrev pub part : List ℕ → ℕ → ℕ → List ℕ
part s a e = take (e - a) (drop a s)

-- r is the end of the line that starts at a and runs up to e: a byte 13 before a byte 10 is left out
pub record LineEnd (s : List ℕ) (a e r : ℕ) : Type 0 where
  pub same : part s a r ≡ cond (ltb e (length s)) (chomp (part s a e)) (part s a e)
  pub low : a ≤ r
  pub high : r ≤ e

-- the part l of s stands from a to e
pub record At (s : List ℕ) (a e : ℕ) (l : List ℕ) : Type 0 where
  pub low : a ≤ e
  pub high : e ≤ length s
  pub same : part s a e ≡ l

-- the parts of s at the given starts and ends
abbrev pub parts : List ℕ → List ℕ → List ℕ → List (List ℕ)
parts s [] es = []
parts s (a ∷ bs) [] = []
parts s (a ∷ bs) (e ∷ es) = part s a e ∷ parts s bs es

-- no start is after its end, and no end after n
abbrev pub within : ℕ → List ℕ → List ℕ → Bool
within n [] es = true
within n (a ∷ bs) [] = false
within n (a ∷ bs) (e ∷ es) = (leb a e && leb e n) && within n bs es

-- the first n places of `bs` and `es` are those of the parts ls of s
pub record Placed (s : List ℕ) (n : ℕ) (bs es : List ℕ) (ls : List (List ℕ)) : Type 0 where
  pub starts : n ≤ length bs
  pub ends : n ≤ length es
  pub count : n ≡ length ls
  pub same : parts s (take n bs) (take n es) ≡ ls
  pub inside : T (within (length s) (take n bs) (take n es))

-- lines by their places: those that stand in s at the first n places
abbrev pub placed_lines : List ℕ → ℕ → List ℕ → List ℕ → List (List ℕ)
placed_lines s n bs es = parts s (take n bs) (take n es)

abbrev pub LinesPlaced : List ℕ → ℕ → List ℕ → List ℕ → Type 0
LinesPlaced s n bs es = Placed s n bs es (placed_lines s n bs es)

-- what a search for the lines of s answers, and leaves in `bs` and `es`
abbrev pub LinesFound : List ℕ → List ℕ → List ℕ → Option ℕ → Type 0
LinesFound s bs es (Some n) = Placed s n bs es (lines_of s)
LinesFound s bs es None = (length bs < length (lines_of s)) ⊎ (length es < length (lines_of s))
