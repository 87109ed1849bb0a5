-- The columns by numbers are the columns of the line.
--     id_column, date_column, cancel_column, charge_column, usage_column    what field k of a kind says
--     numbers_same, charge_same, usage_same    so what the numbers put into the columns is what these hold of the line
-- Assumes nothing.
use mathlib.Core.Path.{◌≡◌, refl, sym, ◌∙◌, ap}
use mathlib.Core.List.{List}
use mathlib.Core.Bool.{Bool, cond}
use Prim.Native.Nat.{ℕ, zero, suc, ◌<◌}
use lib.Dec.{T, eqb, lit<}
use lib.ListN.{get_or}
use Rattle.lists.proofs.AllBelow.{AllBelow, at_below}
use Rattle.lists.proofs.Table.{tabulate_at}
use Rattle.lists.specs.Bytes.{same_bytes}
use Rattle.lists.specs.Written.{written}
use Rattle.digits.specs.Digits.{digits_of}
use Rattle.calendar.specs.Calendar.{day_of}
use Rattle.amounts.specs.Amounts.{amount_of}
use Rattle.records.specs.Records.{field, type_in}
use Rattle.tables.specs.Tables.{field_count, field_type}
use Rattle.columns.specs.Columns.{field_of, number_in_column, cancel_in_column, in_column, number_in, charge_in, usage_in, charge, usage}
use Rattle.readings.specs.InsideLeadingBytes.{packed, packed_after}
use Rattle.amounts.specs.InsideSaid.{said_by}
use Rattle.amounts.proofs.Sayings.{said_missing}
use Rattle.codes_and_rows.specs.InsideFields.{NumbersRead}
use Rattle.codes_and_rows.specs.InsideNumbers.{field_number, column_number, column_numbers}
use Rattle.codes_and_rows.proofs.Texts.{Printable, printable_text, packed_is}
use Rattle.codes_and_rows.proofs.FieldKinds.{has_kind, kind_at, is_id, is_date, is_short_text, is_charge, is_usage, says_id, says_date, says_charge, says_usage, column_kind}
use Rattle.codes_and_rows.proofs.Codes.{stands_at, field_printable, text_number}

module _ {type : ℕ} {line numbers : List ℕ} (read : NumbersRead type line numbers) (known : type < 9) where
  id_column : (k : ℕ) → T (has_kind is_id type k) → get_or numbers k 0 ≡ number_in_column (digits_of (field k line))
  unfolding field digits_of
  id_column zero t = read.none
  id_column (suc j) t = let here = kind_at is_id type j t in says_id (field (suc j) line) _ (field_type type j) here.1 (stands_at read known j here.0).says

  date_column : (k : ℕ) → T (has_kind is_date type k) → get_or numbers k 0 ≡ number_in_column (day_of (field k line))
  unfolding field day_of
  date_column zero t = read.none
  date_column (suc j) t = let here = kind_at is_date type j t in says_date (field (suc j) line) _ (field_type type j) here.1 (stands_at read known j here.0).says

  charge_column : (k : ℕ) → T (has_kind is_charge type k) → said_by (get_or numbers k 0) ≡ amount_of 11 2 (field k line)
  unfolding field amount_of
  charge_column zero t = said_missing _ read.none
  charge_column (suc j) t = let here = kind_at is_charge type j t in says_charge (field (suc j) line) _ (field_type type j) here.1 (stands_at read known j here.0).says

  usage_column : (k : ℕ) → T (has_kind is_usage type k) → said_by (get_or numbers k 0) ≡ amount_of 14 4 (field k line)
  unfolding field amount_of
  usage_column zero t = said_missing _ read.none
  usage_column (suc j) t =
      let here = kind_at is_usage type j t in
      let stands = stands_at read known j here.0 in
      says_usage (field (suc j) line) _ (field_type type j) here.1 stands.fits stands.says

  module _ (printable : Printable line) where
    cancel_column : (k : ℕ) → T (has_kind is_short_text type k) → cond (eqb (get_or numbers k 0) (packed (written "Y"))) 1 0 ≡ cancel_in_column (field k line)
    unfolding field packed_after same_bytes
    cancel_column zero t = ap (λ (n : ℕ). cond {A = ℕ} (eqb n (packed (written "Y"))) 1 0) read.none
    cancel_column (suc j) t =
        ap (λ (b : Bool). cond {A = ℕ} b 1 0)
        (ap (λ (n : ℕ). eqb n (packed (written "Y"))) (text_number read known printable j t)
        ∙ packed_is (field (suc j) line) (written "Y") (field_printable read known printable j) (printable_text (written "Y") tt))

    module _ (named : type_in line ≡ type) where
      SameColumn : ℕ → Type 0
      SameColumn column = column_number type numbers column ≡ number_in column line

      id_same : (column : ℕ) → T (has_kind is_id type (field_of column type)) → field_number type numbers column ≡ number_in_column (digits_of (field (field_of column (type_in line)) line))
      id_same column t = rw named (id_column (field_of column type) t)

      date_same : (column : ℕ) → T (has_kind is_date type (field_of column type)) → field_number type numbers column ≡ number_in_column (day_of (field (field_of column (type_in line)) line))
      date_same column t = rw named (date_column (field_of column type) t)

      columns_same : AllBelow SameColumn 8
      unfolding SameColumn column_number number_in in_column field_count field_type
      columns_same = (
        (
          (
            (
              (
                (
                  (
                    (tt, sym named),
                    id_same 1 (column_kind type known is_id 1 (lit< tt) tt refl),
                  ),
                  id_same 2 (column_kind type known is_id 2 (lit< tt) tt refl),
                ),
                id_same 3 (column_kind type known is_id 3 (lit< tt) tt refl),
              ),
              id_same 4 (column_kind type known is_id 4 (lit< tt) tt refl),
            ),
            date_same 5 (column_kind type known is_date 5 (lit< tt) tt refl),
          ),
          date_same 6 (column_kind type known is_date 6 (lit< tt) tt refl),
        ),
        rw named (cancel_column (field_of 7 type) (column_kind type known is_short_text 7 (lit< tt) tt refl)),
      )

      pub numbers_same : (column : ℕ) → column < 8 → get_or (column_numbers type numbers) column 0 ≡ number_in column line
      unfolding SameColumn
      numbers_same column h = tabulate_at (column_number type numbers) 8 column h ∙ at_below SameColumn 8 columns_same column h

      pub charge_same : said_by (field_number type numbers charge) ≡ charge_in line
      unfolding charge_in field_count field_type
      charge_same = rw named (charge_column (field_of charge type) (column_kind type known is_charge charge (lit< tt) tt refl))

      pub usage_same : said_by (field_number type numbers usage) ≡ usage_in line
      unfolding usage_in field_count field_type
      usage_same = rw named (usage_column (field_of usage type) (column_kind type known is_usage usage (lit< tt) tt refl))
