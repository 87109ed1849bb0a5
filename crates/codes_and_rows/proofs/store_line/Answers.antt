-- `store_line` meets its contract. The loop's invariant: the numbers of the columns before c are stored, and no other line's word is changed.
-- Assumes nothing.
use Rattle.std.proofs.Common.{◌≡◌, ◌<◌, ℕ, Bool, true, false, cond, refl, List, [], length, get_or, set, ap, ◌∙◌, subst, arith, lit<}
use lib.ListN.{length-set}
use mir.Val.{bool_byte}
use Rattle.columns.specs.InsideRows.{RowStored, column_fields}
use Rattle.columns.specs.Columns.{field_of}
use Rattle.columns.proofs.Rows.{field_lent, column_inside, row_more}
use Rattle.codes_and_rows.specs.InsideNumbers.{column_numbers}
use Rattle.codes_and_rows.proofs.Kept.{field_small, stored_after, stored_type, type_stored, stored_number, stored_flag}
use Rattle.codes_and_rows.proofs.store_line.Goals as goal

-- the fields that a type's columns read, by the table that is lent, and what they say
module _ (fields : List (List ℕ)) (numbers : List ℕ) (type : ℕ) (lent : (fields ≡ column_fields) × ((length numbers ≡ 24) × (type < 9))) where
  read : (column : ℕ) → column < 10 → get_or (get_or fields type []) column 0 ≡ field_of column type
  read column h = field_lent lent.0 type column lent.1.1 h

  small : (column : ℕ) → column < 10 → get_or (get_or fields type []) column 0 < length numbers
  small column h = omega (arith, read column h, field_small column type, lent.1.0)

  said : (column : ℕ) → column < 10 → get_or numbers (get_or (get_or fields type []) column 0) 0 ≡ get_or numbers (field_of column type) 0
  said column h = ap (λ (k : ℕ). get_or numbers k 0) (read column h)

-- a flag as a number
byte_is : (b : Bool) → bool_byte b ≡ cond b 1 0
byte_is true = refl
byte_is false = refl

pub loop-c-init : goal.loop-c-init
loop-c-init c = type_stored c.args.record_type c.args.numbers.now (length c.args.charges.now) c.args.i c.args.words.now (omega arith) (omega arith)

pub offset_bounds-numbers-k : goal.offset_bounds-numbers-k
offset_bounds-numbers-k c = omega (arith, small c.column_fields-fields.result.now c.args.numbers.now c.args.record_type (c.column_fields-fields.ensures, c.requires.numbers_len) c.loop-c.c (omega arith))

pub bounds-numbers-k : goal.bounds-numbers-k
bounds-numbers-k c = small c.column_fields-fields.result.now c.args.numbers.now c.args.record_type (c.column_fields-fields.ensures, c.requires.numbers_len) c.loop-c.c (omega arith)

pub loop-c-preserved : goal.loop-c-preserved
loop-c-preserved c =
    row_more c.loop-c.invariant (omega arith)
    (omega (arith, column_inside (length c.args.charges.now) c.loop-c.c (omega arith), length-set c.args.words.now c.args.i c.args.record_type ∙ c.requires.room.0.words_length)) _
    (stored_number _ _ c.loop-c.c _ (omega arith) c.loop-c-test.true (said c.column_fields-fields.result.now c.args.numbers.now c.args.record_type (c.column_fields-fields.ensures, c.requires.numbers_len) c.loop-c.c (omega arith)))

pub offset_bounds-numbers-cancel : goal.offset_bounds-numbers-cancel
offset_bounds-numbers-cancel c = omega (arith, small c.column_fields-fields.result.now c.args.numbers.now c.args.record_type (c.column_fields-fields.ensures, c.requires.numbers_len) 7 (lit< tt))

pub bounds-numbers-cancel : goal.bounds-numbers-cancel
bounds-numbers-cancel c = small c.column_fields-fields.result.now c.args.numbers.now c.args.record_type (c.column_fields-fields.ensures, c.requires.numbers_len) 7 (lit< tt)

pub offset_bounds-numbers-charge : goal.offset_bounds-numbers-charge
offset_bounds-numbers-charge c = omega (arith, small c.column_fields-fields.result.now c.args.numbers.now c.args.record_type (c.column_fields-fields.ensures, c.requires.numbers_len) 8 (lit< tt))

pub bounds-numbers-charge : goal.bounds-numbers-charge
bounds-numbers-charge c = small c.column_fields-fields.result.now c.args.numbers.now c.args.record_type (c.column_fields-fields.ensures, c.requires.numbers_len) 8 (lit< tt)

pub offset_bounds-numbers-usage : goal.offset_bounds-numbers-usage
offset_bounds-numbers-usage c = omega (arith, small c.column_fields-fields.result.now c.args.numbers.now c.args.record_type (c.column_fields-fields.ensures, c.requires.numbers_len) 9 (lit< tt))

pub bounds-numbers-usage : goal.bounds-numbers-usage
bounds-numbers-usage c = small c.column_fields-fields.result.now c.args.numbers.now c.args.record_type (c.column_fields-fields.ensures, c.requires.numbers_len) 9 (lit< tt)

pub returns : goal.returns
returns c =
    let told = said c.column_fields-fields.result.now c.args.numbers.now c.args.record_type (c.column_fields-fields.ensures, c.requires.numbers_len) in
    let long = length-set c.args.words.now c.args.i c.args.record_type ∙ c.requires.room.0.words_length in
    let all : c.loop-c.c ≡ 7 = omega arith in
    let kept : RowStored (length c.args.charges.now) (set c.args.words.now c.args.i c.args.record_type) c.args.i (column_numbers c.args.record_type c.args.numbers.now) 7 c.loop-c.words =
    subst (λ (n : ℕ). RowStored (length c.args.charges.now) (set c.args.words.now c.args.i c.args.record_type) c.args.i (column_numbers c.args.record_type c.args.numbers.now) n c.loop-c.words) all c.loop-c.invariant in
    record {
      row_stored =
          stored_after (stored_type c.args.record_type c.args.numbers.now (length c.args.charges.now) c.args.i c.args.words.now (omega arith) (omega arith))
          (row_more kept (omega arith) (omega (arith, column_inside (length c.args.charges.now) 7 (lit< tt), long)) c.from.result (c.from.ensures ∙ byte_is _ ∙ stored_flag _ _ _ (told 7 (lit< tt))));
      charges_after = ap (λ (x : ℕ). set c.args.charges.now c.args.i x) (told 8 (lit< tt));
      usages_after = ap (λ (x : ℕ). set c.args.usages.now c.args.i x) (told 9 (lit< tt));
    }
