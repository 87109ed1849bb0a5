-- The codes of the tables stand for the types of the tables: one computation over all of them.
-- Assumes nothing.
use mathlib.Core.Path.{◌≡◌, refl, sym, ◌∙◌, ap}
use mathlib.Core.List.{List, [], map}
use Prim.Native.Nat.{ℕ, ◌<◌}
use borrow.Author.Tests.{lt-ltb}
use lib.ListN.{get_or, get_or-map}
use Rattle.fields.specs.declared.FieldType.{FieldType}
use Rattle.fields.specs.declared.FieldType.TheVariants.{RecordId}
use Rattle.tables.specs.Tables.{type_rows, field_type}
use Rattle.tables.proofs.Laws.{RowsOf}
use Rattle.tables.specs.InsideCodes.{code_rows, type_of_code}

types_of : List ℕ → List FieldType
types_of row = map type_of_code row

same : map types_of code_rows ≡ type_rows
unfolding types_of type_of_code
same = refl

code_read : (type k : ℕ) → type_of_code (get_or (get_or code_rows type []) k 0) ≡ get_or (get_or type_rows type []) k RecordId
unfolding types_of type_of_code
code_read type k =
    sym (get_or-map type_of_code (get_or code_rows type []) k 0)
    ∙ ap (λ (row : List FieldType). get_or row k RecordId) (sym (get_or-map types_of code_rows type []))
    ∙ ap (λ (rows : List (List FieldType)). get_or (get_or rows type []) k RecordId) same

-- a code of a type's row
pub row_type : (type k : ℕ) → type < 9 → k < 19 → type_of_code (get_or (get_or code_rows type []) k 0) ≡ field_type type k
unfolding field_type
row_type type k h l = code_read type k ∙ rw (lt-ltb type 9 h, lt-ltb k 19 l)

pub codes_long : RowsOf 19 code_rows
codes_long = (refl, (refl, (refl, (refl, (refl, (refl, (refl, (refl, (refl, tt)))))))))
