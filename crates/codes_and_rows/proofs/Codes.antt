-- Test 7 by numbers is test 7 by texts.
--     unit_printable                     the unit of a commodity is a printable text
--     same_fields, type_is, field_of, stands_at    a line whose fields are read: its record's fields, its type, and field k of it
--     field_printable, text_number       a field is printable, and a short text's number is that of its bytes
--     unit_is                            so the number of a commodity chooses the unit that its code does
--     either_is                          a test on the number of a field is a test on its text
--     codes_exact                        so the numbers of a line pass test 7 exactly where the line does
-- Assumes nothing.
use mathlib.Core.Path.{◌≡◌, refl, sym, ◌∙◌, ap, subst}
use mathlib.Core.List.{List, []}
use mathlib.Core.Bool.{Bool, true, false, cond, not, ◌&&◌, ◌||◌, not-not}
use Prim.Native.Nat.{ℕ, zero, suc, ◌<◌}
use native.Mathlib.Numerals.{add-one}
use native.Mathlib.Omega.{arith}
use lib.Dec.{T, eqb}
use lib.ListN.{get_or}
use Rattle.lists.specs.Bytes.{same_bytes}
use Rattle.lists.specs.Written.{written}
use Rattle.records.specs.Text.{fields_of}
use Rattle.tables.specs.Types.{type_named}
use Rattle.records.specs.Records.{record_fields, field, type_in}
use Rattle.records.proofs.Laws.{fields_few, field_at}
use Rattle.tables.specs.Tables.{field_count, field_type}
use Rattle.tables.proofs.Laws.{count_most}
use Rattle.format.specs.Format.{commodity_fields, unit_fields, cancel_fields, exemption_fields, neither, unit_of, miscoded}
use Rattle.readings.specs.InsideLeadingBytes.{packed}
use Rattle.codes_and_rows.specs.InsideFields.{FieldFits, field_after, NumbersRead}
use Rattle.codes_and_rows.specs.InsideNumbers.{is_either, codes_stand, unit_of_number}
use Rattle.codes_and_rows.proofs.Texts.{Printable, printable_text, printable_field, packed_is}
use Rattle.codes_and_rows.proofs.FieldKinds.{has_kind, kind_at, is_short_text, says_text, commodity_kind, unit_kind, cancel_kind, exemption_kind}

pub unit_printable : (commodity : ℕ) → Printable (unit_of_number commodity)
unfolding unit_of_number
unit_printable commodity = go (eqb commodity (packed (written "EL")))
  where
    go : (electricity : Bool) → Printable (cond electricity (written "KWH") (written "GJ"))
    go true = printable_text (written "KWH") tt
    go false = printable_text (written "GJ") tt

-- neither of two, and none of four
not_neither : (none same : Bool) → none || same ≡ not (not none && not same)
not_neither true same = refl
not_neither false same = sym (not-not same)

not_any : (a b c d : Bool) → not a && (not b && (not c && not d)) ≡ not (a || (b || (c || d)))
not_any true b c d = refl
not_any false true c d = refl
not_any false false true d = refl
not_any false false false d = refl

module _ {type : ℕ} {line numbers : List ℕ} (read : NumbersRead type line numbers) (known : type < 9) where
  pub same_fields : record_fields line ≡ fields_of line
  same_fields = fields_few line (omega (arith, read.counted, count_most type known))

  pub type_is : type ≡ type_named (field_after line 2) → type_in line ≡ type
  unfolding type_in
  type_is e = ap type_named (field_at line 2 ∙ ap (λ (fields : List (List ℕ)). get_or fields 2 []) same_fields) ∙ sym e

  pub field_of : (j : ℕ) → field (suc j) line ≡ field_after line j
  unfolding field
  field_of j = ap (λ (fields : List (List ℕ)). get_or fields j []) same_fields

  pub stands_at : (j : ℕ) → j < field_count type → FieldFits type j (field (suc j) line) (get_or numbers (suc j) 0)
  stands_at j h = rw (field_of j) (subst (λ (k : ℕ). FieldFits type j (field_after line j) (get_or numbers k 0)) (add-one j) (read.stands j h))

  module _ (printable : Printable line) where
    pub field_printable : (j : ℕ) → Printable (field (suc j) line)
    field_printable j = rw (field_of j) (printable_field line printable j)

    -- the number of a short text
    pub text_number : (j : ℕ) → T (has_kind is_short_text type (suc j)) → get_or numbers (suc j) 0 ≡ packed (field (suc j) line)
    text_number j t = let here = kind_at is_short_text type j t in says_text _ _ (field_type type j) here.1 (stands_at j here.0).says

    -- the unit of the commodity that the sixth field names
    pub unit_is : T (has_kind is_short_text type 6) → unit_of_number (get_or numbers 6 0) ≡ unit_of line
    unfolding unit_of_number unit_of
    unit_is kind = rw (text_number 5 kind, packed_is (field 6 line) (written "EL") (field_printable 5) (printable_text (written "EL") tt))

    pub either_is : (one two : List ℕ) → Printable one → Printable two → (k : ℕ) → T (has_kind is_short_text type k)
        → is_either k numbers one two ≡ (eqb k 0 || (same_bytes (field k line) one || same_bytes (field k line) two))
    unfolding is_either
    either_is one two p q zero t = refl
    either_is one two p q (suc j) t =
        rw (text_number j t, packed_is (field (suc j) line) one (field_printable j) p, packed_is (field (suc j) line) two (field_printable j) q)

    module _ (named : type_in line ≡ type) where
      code_exact : (table one two : List ℕ) → Printable one → Printable two → T (has_kind is_short_text type (get_or table type 0))
          → is_either (get_or table type 0) numbers one two ≡ not (neither table one two line)
      unfolding neither
      code_exact table one two p q kind =
          rw named
          (either_is one two p q (get_or table type 0) kind
          ∙ not_neither (eqb (get_or table type 0) 0) (same_bytes (field (get_or table type 0) line) one || same_bytes (field (get_or table type 0) line) two))

      pub codes_exact : (commodity : ℕ) → codes_stand (unit_of_number commodity) type numbers ≡ not (miscoded (unit_of_number commodity) line)
      unfolding codes_stand miscoded
      codes_exact commodity =
          rw (
            code_exact commodity_fields (written "EL") (written "NG") (printable_text (written "EL") tt) (printable_text (written "NG") tt) (commodity_kind type known),
            code_exact unit_fields (unit_of_number commodity) (unit_of_number commodity) (unit_printable commodity) (unit_printable commodity) (unit_kind type known),
            code_exact cancel_fields (written "Y") (written "N") (printable_text (written "Y") tt) (printable_text (written "N") tt) (cancel_kind type known),
            code_exact exemption_fields (written "Y") (written "N") (printable_text (written "Y") tt) (printable_text (written "N") tt) (exemption_kind type known),
          )
          (not_any (neither commodity_fields (written "EL") (written "NG") line) (neither unit_fields (unit_of_number commodity) (unit_of_number commodity) line) (neither cancel_fields (written "Y") (written "N") line) (neither exemption_fields (written "Y") (written "N") line))
