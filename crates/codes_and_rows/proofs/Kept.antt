-- The numbers that the columns hold of a record, one column after the other.
--     field_small                  a column's field is below 24
--     stored_after                 storing goes on in words in which some of it stands
--     stored_type, type_stored     the type is stored
--     stored_number, stored_flag   the numbers of the columns before the Cancel Indicator's, and that of this one
-- Assumes nothing.
use mathlib.Core.Path.{◌≡◌, refl, sym, ◌∙◌, ap, subst}
use mathlib.Core.List.{List, []}
use mathlib.Core.Bool.{Bool, true, false, cond, ◌&&◌}
use Prim.Native.Nat.{ℕ, ◌+◌, ◌*◌, ◌≤◌, ◌<◌}
use native.Mathlib.Nat.{zero-mul, zero-add}
use native.Mathlib.Omega.{arith}
use borrow.Author.Tests.{ne_eqb, ltb-true}
use lib.Dec.{eqb, T, ltb}
use lib.ListN.{length, get_or, set}
use Rattle.lists.proofs.AllBelow.{at_below}
use Rattle.lists.proofs.Table.{every, tabulate_at}
use Rattle.columns.specs.Columns.{field_table, field_of}
use Rattle.columns.specs.InsideRows.{RowStored}
use Rattle.columns.proofs.Rows.{row_none, row_more}
use Rattle.readings.specs.InsideLeadingBytes.{packed_after}
use Rattle.codes_and_rows.specs.InsideNumbers.{field_number, column_number, column_numbers}
use Rattle.codes_and_rows.proofs.CodeFields.{small_at}

-- ---- the columns' fields
RowSmall : ℕ → Type 0
RowSmall column = T (every (λ (type field : ℕ). ltb field 24) 0 (get_or field_table column []))

pub field_small : (column type : ℕ) → field_of column type < 24
unfolding field_of RowSmall
field_small column type = go (ltb column 10) (ltb type 9) refl
  where
    go : (b known : Bool) → ltb column 10 ≡ b → cond (b && known) (get_or (get_or field_table column []) type 0) 0 < 24
    go false known e = omega arith
    go true false e = omega arith
    go true true e =
        small_at 24 (get_or field_table column [])
        (at_below RowSmall 10 ((((((((((tt, tt), tt), tt), tt), tt), tt), tt), tt), tt), tt) column (ltb-true column 10 e))
        (omega arith) type

-- ---- what is stored of a record of a type
-- into words in which some of it stands already
pub stored_after : {room i m n : ℕ} {before between after numbers : List ℕ} → RowStored room before i numbers m between → RowStored room between i numbers n after → RowStored room before i numbers n after
stored_after first then =
    record { size = then.size ∙ first.size; here = then.here; other = λ column k h other. then.other column k h other ∙ first.other column k h other }

module _ (type : ℕ) (numbers : List ℕ) where
  stored_at : (column : ℕ) → column < 8 → get_or (column_numbers type numbers) column 0 ≡ column_number type numbers column
  stored_at column h = tabulate_at (column_number type numbers) 8 column h

  -- the type, whose column is the first
  module _ (room i : ℕ) (words : List ℕ) (small : i < room) (inside : i < length words) where
    pub stored_type : RowStored room words i (column_numbers type numbers) 1 (set words i type)
    unfolding column_number
    stored_type =
        let place : 0 * room + i ≡ i = ap (λ (k : ℕ). k + i) (zero-mul room) ∙ zero-add i in
        subst (λ (k : ℕ). RowStored room words i (column_numbers type numbers) 1 (set words k type)) place
        (row_more (row_none room words i (column_numbers type numbers)) small (omega (arith, place)) type (sym (stored_at 0 (omega arith))))

    pub type_stored : RowStored room (set words i type) i (column_numbers type numbers) 1 (set words i type)
    type_stored = record { size = refl; here = stored_type.here; other = λ column k h other. refl }

  pub stored_number : (column x : ℕ) → 1 ≤ column → column < 7 → x ≡ field_number type numbers column → x ≡ get_or (column_numbers type numbers) column 0
  unfolding column_number
  stored_number column x some few e =
      e ∙ sym (stored_at column (omega arith) ∙ rw (ne_eqb column 0 (λ q. omega (arith, q)), ne_eqb column 7 (λ q. omega (arith, q))))

  -- the Cancel Indicator's number is n
  module _ (n : ℕ) (e : n ≡ field_number type numbers 7) where
    pub stored_flag : cond (eqb n 89) 1 0 ≡ get_or (column_numbers type numbers) 7 0
    unfolding column_number packed_after
    stored_flag = sym (stored_at 7 (omega arith) ∙ ap (λ (k : ℕ). cond (eqb k 89) 1 0) (sym e))
