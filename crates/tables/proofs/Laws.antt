-- The field counts are those of document 01, and at most 19; rows one after the other; a mark of a type's row is that of the field.
--     row_length, joined_row, part_row, joined_at    a row of as many elements each, its part of the rows one after the other, and an element there
--     row_mark                                       a mark of a type's row
-- Assumes nothing.
use mathlib.Core.Path.{◌≡◌, refl, sym, ◌∙◌, ap}
use mathlib.Core.List.{List, [], ◌∷◌, ◌++◌}
use mathlib.Core.Bool.{false}
use Prim.Native.Nat.{ℕ, zero, suc, ◌+◌, ◌*◌, ◌-◌, ◌≤◌, ◌<◌}
use native.Mathlib.Nat.{zero-mul, suc-mul}
use native.Mathlib.Omega.{arith}
use borrow.Author.Tests.{lt-ltb}
use lib.Dec.{leb, leb→le}
use lib.ListN.{length, get_or, take, drop}
use lib.Seq.{take_at, drop_at, drop-drop, get_or-take, get_or-drop}
use Rattle.lists.proofs.Table.{every_at}
use Rattle.tables.specs.Tables.{field_counts, field_count, mark_rows, is_mandatory}
use Rattle.tables.specs.InsideRows.{joined}

-- document 01: "The 2007 field counts are 9, 18, 14, 17, 15, 10, 19, 11, 5"
pub field_counts_lem : field_counts ≡ 9 ∷ 18 ∷ 14 ∷ 17 ∷ 15 ∷ 10 ∷ 19 ∷ 11 ∷ 5 ∷ []
field_counts_lem = refl

-- as many as a row of a type's fields has
pub count_most : (type : ℕ) → type < 9 → field_count type ≤ 19
unfolding field_count
count_most type h = leb→le (get_or field_counts type 0) 19 (every_at (λ (k x : ℕ). leb x 19) field_counts 9 type h tt refl)

-- ---- rows of w elements each, one after the other
abbrev pub RowsOf {ℓ} : {A : Type ℓ} → ℕ → List (List A) → Type 0
RowsOf w [] = Unit {0}
RowsOf w (row ∷ rows) = (length row ≡ w) × RowsOf w rows

pub row_length {ℓ} : {A : Type ℓ} (w : ℕ) (rows : List (List A)) → RowsOf w rows → (t : ℕ) → t < length rows → length (get_or rows t []) ≡ w
row_length w [] long t h = absurd (omega arith)
row_length w (row ∷ rows) long zero h = long.0
row_length w (row ∷ rows) long (suc t) h = row_length w rows long.1 t (omega arith)

pub joined_row {ℓ} : {A : Type ℓ} (w : ℕ) (rows : List (List A)) → RowsOf w rows → (t : ℕ) → t < length rows → take w (drop (t * w) (joined rows)) ≡ get_or rows t []
joined_row w [] long t h = absurd (omega arith)
joined_row w (row ∷ rows) long zero h = rw zero-mul (take_at row (joined rows) w long.0)
joined_row w (row ∷ rows) long (suc t) h =
    let next : suc t * w ≡ w + t * w = omega (arith, suc-mul t w) in
    ap (take w) (ap (λ (n : ℕ). drop n (row ++ joined rows)) next ∙ sym (drop-drop (t * w) w (row ++ joined rows)) ∙ ap (drop (t * w)) (drop_at row (joined rows) w long.0))
    ∙ joined_row w rows long.1 t (omega arith)

-- the part of a list that a type's row is
pub part_row {ℓ} : {A : Type ℓ} (w : ℕ) (rows : List (List A)) → RowsOf w rows → (t : ℕ) → t < length rows → {all : List A} → all ≡ joined rows → take (t * w + w - t * w) (drop (t * w) all) ≡ get_or rows t []
part_row w rows long t h {all} e =
    let wide : t * w + w - t * w ≡ w = omega arith in
    ap (λ (n : ℕ). take n (drop (t * w) all)) wide ∙ ap (λ (l : List _). take w (drop (t * w) l)) e ∙ joined_row w rows long t h

pub joined_at {ℓ} : {A : Type ℓ} (w : ℕ) (rows : List (List A)) → RowsOf w rows → (t k : ℕ) (d : A) → t < length rows → k < w → get_or (joined rows) (t * w + k) d ≡ get_or (get_or rows t []) k d
joined_at w rows long t k d h l =
    sym (get_or-drop (t * w) (joined rows) k d) ∙ sym (get_or-take w (drop (t * w) (joined rows)) k d l) ∙ ap (λ (row : List _). get_or row k d) (joined_row w rows long t h)

pub marks_long : RowsOf 19 mark_rows
marks_long = (refl, (refl, (refl, (refl, (refl, (refl, (refl, (refl, (refl, tt)))))))))

-- a row of a type's marks
pub row_mark : (type k : ℕ) → type < 9 → k < 19 → get_or (get_or mark_rows type []) k false ≡ is_mandatory type k
unfolding is_mandatory
row_mark type k h l = rw (lt-ltb type 9 h, lt-ltb k 19 l)
