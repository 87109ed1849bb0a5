-- The nine record types: their names, what may follow what, and what hangs under what.
-- Document 01, "The file": "Record types are FH, SH, TH, DU, DD, DM, CH, OC, FT, in field 3."
-- Assumes nothing.
use Rattle.std.specs.Prelude.{ℕ, ◌+◌, ◌*◌, List, [], ◌∷◌, map, Bool, false, cond, ◌&&◌, ◌||◌, length, get_or, eqb, ltb}
use Prim.Native.String.{String}
use Rattle.lists.specs.First.{first_where, is_byte}
use Rattle.lists.specs.Written.{written}

-- ---- types are counted from 0, in this order
abbrev pub type_names : List String
type_names = "FH" ∷ "SH" ∷ "TH" ∷ "DU" ∷ "DD" ∷ "DM" ∷ "CH" ∷ "OC" ∷ "FT" ∷ []

abbrev pub FH : ℕ
FH = 0

abbrev pub SH : ℕ
SH = 1

abbrev pub TH : ℕ
TH = 2

abbrev pub DU : ℕ
DU = 3

abbrev pub DD : ℕ
DD = 4

abbrev pub DM : ℕ
DM = 5

abbrev pub CH : ℕ
CH = 6

abbrev pub OC : ℕ
OC = 7

abbrev pub FT : ℕ
FT = 8

-- two letters as one number
abbrev pub letters : List ℕ → ℕ
letters l = get_or l 0 0 * 256 + get_or l 1 0

abbrev pub type_letters : List ℕ
type_letters = map (λ (name : String). letters (written name)) type_names

-- the place of a name among the types, or 9 where it is none of them
unfoldable pub type_named : List ℕ → ℕ
type_named l = cond (eqb (length l) 2) (first_where (is_byte (letters l)) type_letters) 9

-- ---- document 01, "Tests", 4: "which type may follow which is a fixed table"
abbrev pub followers : List (List ℕ)
followers =
    (SH ∷ [])
    ∷ (TH ∷ OC ∷ [])
    ∷ (DU ∷ DD ∷ DM ∷ CH ∷ TH ∷ OC ∷ SH ∷ FT ∷ [])
    ∷ (DU ∷ DD ∷ DM ∷ CH ∷ TH ∷ OC ∷ SH ∷ FT ∷ [])
    ∷ (DD ∷ DM ∷ CH ∷ TH ∷ OC ∷ SH ∷ FT ∷ [])
    ∷ (DM ∷ CH ∷ TH ∷ OC ∷ SH ∷ FT ∷ [])
    ∷ (CH ∷ TH ∷ OC ∷ SH ∷ FT ∷ [])
    ∷ (OC ∷ SH ∷ FT ∷ [])
    ∷ []
    ∷ []

abbrev pub among : ℕ → List ℕ → Bool
among t [] = false
among t (x ∷ xs) = eqb x t || among t xs

-- the table of nine rows of nine: whether the type of a column is among the followers of the type of a row
abbrev pub follow_table : List (List Bool)
follow_table = map (λ (row : List ℕ). map (λ (t : ℕ). among t row) (FH ∷ SH ∷ TH ∷ DU ∷ DD ∷ DM ∷ CH ∷ OC ∷ FT ∷ [])) followers

unfoldable pub may_follow : ℕ → ℕ → Bool
may_follow previous present = cond (ltb previous 9 && ltb present 9) (get_or (get_or follow_table previous []) present false) false

-- ---- what hangs under what
-- document 01, "Tests", 10: "the nearest preceding FH (for SH, FT), SH (TH, OC) or TH (DU, DD, DM, CH)"; FH has none
abbrev pub parent_types : List ℕ
parent_types = 9 ∷ 0 ∷ 1 ∷ 2 ∷ 2 ∷ 2 ∷ 2 ∷ 1 ∷ 0 ∷ []

unfoldable pub parent_type : ℕ → ℕ
parent_type t = cond (ltb t 9) (get_or parent_types t 0) 9
