-- Kinds of fields: which fields of a type hold an ID, a date, a short text or an amount, and what the number of such a field says.
--     has_kind, kind_at         the field k of a type, counted from 1, is of a kind
--     is_id, is_date, is_short_text, is_charge, is_usage    the kinds
--     says_id, says_date, says_text, says_charge, says_usage    what a number says of a field of the kind
--     commodity_kind, unit_kind, cancel_kind, exemption_kind    the fields of test 7 are short texts
--     column_kind              the fields of a column are of a kind, by one computation
-- Assumes nothing.
use mathlib.Core.Path.{◌≡◌, refl, ◌∙◌, ap, subst}
use mathlib.Core.List.{List, []}
use mathlib.Core.Bool.{Bool, true, false, cond, ◌&&◌, ◌||◌, false≢true}
use Prim.Native.Nat.{ℕ, zero, suc, ◌-◌, ◌≤◌, ◌<◌}
use native.Mathlib.Omega.{arith}
use borrow.Author.Tests.{lt-ltb, le-leb}
use lib.Dec.{T, eqb, ltb, leb, eqb→eq, ltb→lt, leb→le}
use lib.ListN.{length, get_or}
use Rattle.lists.proofs.Table.{every, every_at, and_left, and_right}
use Rattle.digits.specs.Digits.{digits_of}
use Rattle.calendar.specs.Calendar.{day_of}
use Rattle.amounts.specs.Amounts.{point_of, is_unsigned, has_minus, unsigned, is_number, units_of, signed, amount_of}
use Rattle.amounts.specs.declared.Amount.TheVariants.{Missing, Value as Units, Misses}
use Rattle.amounts.proofs.Shape.{unsigned_say}
use Rattle.fields.specs.declared.FieldType.{FieldType}
use Rattle.fields.specs.declared.FieldType.TheVariants.{RecordId, Digits, Number, Date, DateTime, Char, Varchar}
use Rattle.fields.specs.Fields.{fits_type}
use Rattle.tables.specs.Tables.{field_count, field_type}
use Rattle.format.specs.Format.{commodity_fields, unit_fields, cancel_fields, exemption_fields}
use Rattle.columns.specs.Columns.{field_table, field_of, number_in_column}
use Rattle.readings.specs.InsideLeadingBytes.{packed}
use Rattle.amounts.specs.InsideSaid.{said_by}
use Rattle.readings.specs.InsideReadings.{Says}

-- ---- the field k of a type, counted from 1, is of a kind; there is no field 0
abbrev pub has_kind : (FieldType → Bool) → ℕ → ℕ → Bool
has_kind kind type zero = true
has_kind kind type (suc j) = ltb j (field_count type) && kind (field_type type j)

pub kind_at : (kind : FieldType → Bool) (type j : ℕ) → T (has_kind kind type (suc j)) → (j < field_count type) × T (kind (field_type type j))
kind_at kind type j t =
    (ltb→lt j (field_count type) (and_left (ltb j (field_count type)) (kind (field_type type j)) t), and_right (ltb j (field_count type)) (kind (field_type type j)) t)

-- ---- the kinds
abbrev pub is_id : FieldType → Bool
is_id RecordId = true
is_id (Digits n) = true
is_id (Number p s) = false
is_id Date = false
is_id DateTime = false
is_id (Char n) = false
is_id (Varchar n) = false

abbrev pub is_date : FieldType → Bool
is_date RecordId = false
is_date (Digits n) = false
is_date (Number p s) = false
is_date Date = true
is_date DateTime = false
is_date (Char n) = false
is_date (Varchar n) = false

abbrev pub is_short_text : FieldType → Bool
is_short_text RecordId = false
is_short_text (Digits n) = false
is_short_text (Number p s) = false
is_short_text Date = false
is_short_text DateTime = false
is_short_text (Char n) = leb n 4
is_short_text (Varchar n) = leb n 4

abbrev pub is_charge : FieldType → Bool
is_charge RecordId = false
is_charge (Digits n) = false
is_charge (Number p s) = eqb p 11 && eqb s 2
is_charge Date = false
is_charge DateTime = false
is_charge (Char n) = false
is_charge (Varchar n) = false

abbrev pub is_usage : FieldType → Bool
is_usage RecordId = false
is_usage (Digits n) = false
is_usage (Number p s) = (leb 13 p && leb p 14) && eqb s 4
is_usage Date = false
is_usage DateTime = false
is_usage (Char n) = false
is_usage (Varchar n) = false

-- ---- what a number says of a field of the kind
module _ (f : List ℕ) (n : ℕ) where
  pub says_id : (t : FieldType) → T (is_id t) → Says t f n → n ≡ number_in_column (digits_of f)
  unfolding Says
  says_id RecordId h s = s
  says_id (Digits w) h s = s
  says_id (Number p q) h s = absurd h
  says_id Date h s = absurd h
  says_id DateTime h s = absurd h
  says_id (Char w) h s = absurd h
  says_id (Varchar w) h s = absurd h

  pub says_date : (t : FieldType) → T (is_date t) → Says t f n → n ≡ number_in_column (day_of f)
  unfolding Says
  says_date RecordId h s = absurd h
  says_date (Digits w) h s = absurd h
  says_date (Number p q) h s = absurd h
  says_date Date h s = s
  says_date DateTime h s = absurd h
  says_date (Char w) h s = absurd h
  says_date (Varchar w) h s = absurd h

  pub says_text : (t : FieldType) → T (is_short_text t) → Says t f n → n ≡ packed f
  unfolding Says
  says_text RecordId h s = absurd h
  says_text (Digits w) h s = absurd h
  says_text (Number p q) h s = absurd h
  says_text Date h s = absurd h
  says_text DateTime h s = absurd h
  says_text (Char w) h s = s (leb→le w 4 h)
  says_text (Varchar w) h s = s (leb→le w 4 h)

  pub says_charge : (t : FieldType) → T (is_charge t) → Says t f n → said_by n ≡ amount_of 11 2 f
  unfolding Says
  says_charge RecordId h s = absurd h
  says_charge (Digits w) h s = absurd h
  says_charge (Number p q) h s =
      let e : p ≡ 11 = eqb→eq p 11 (and_left (eqb p 11) (eqb q 2) h) in
      let g : q ≡ 2 = eqb→eq q 2 (and_right (eqb p 11) (eqb q 2) h) in
      s ∙ rw (e, g)
  says_charge Date h s = absurd h
  says_charge DateTime h s = absurd h
  says_charge (Char w) h s = absurd h
  says_charge (Varchar w) h s = absurd h

-- an amount of 13 digits, 4 of them places, has the shape and the value of one of 14
wider : (whole more places : ℕ) (t : List ℕ) → whole ≤ more → is_unsigned whole places t ≡ true → is_unsigned more places t ≡ true
unfolding is_unsigned
wider whole more places t l e =
    let u = unsigned_say whole places t e in
    simp (le-leb 1 (point_of t) u.some, le-leb (point_of t) more (omega (arith, l, u.few)), u.digits, u.rest)

same_amount : (p : ℕ) (f : List ℕ) → 13 ≤ p → p ≤ 14 → fits_type (Number p 4) f ≡ true → amount_of p 4 f ≡ amount_of 14 4 f
unfolding fits_type amount_of is_number
same_amount p f low high e = go (eqb (length f) 0) (is_unsigned (p - 4) 4 (unsigned f)) refl e
  where
    go : (empty fit : Bool) → is_unsigned (p - 4) 4 (unsigned f) ≡ fit → empty || fit ≡ true
        → cond empty Missing (cond (leb p 15 && fit) (Units (signed (has_minus f) (units_of 4 (unsigned f)))) Misses)
        ≡ cond empty Missing (cond (leb 14 15 && is_unsigned (14 - 4) 4 (unsigned f)) (Units (signed (has_minus f) (units_of 4 (unsigned f)))) Misses)
    go true fit q r = refl
    go false true q r = rw (le-leb p 15 (omega arith), wider (p - 4) 10 4 (unsigned f) (omega arith) q)
    go false false q r = absurd (false≢true r)

module _ (f : List ℕ) (n : ℕ) where
  pub says_usage : (t : FieldType) → T (is_usage t) → fits_type t f ≡ true → Says t f n → said_by n ≡ amount_of 14 4 f
  unfolding Says
  says_usage RecordId h e s = absurd h
  says_usage (Digits w) h e s = absurd h
  says_usage (Number p q) h e s =
      let low : 13 ≤ p = leb→le 13 p (and_left (leb 13 p) (leb p 14) (and_left (leb 13 p && leb p 14) (eqb q 4) h)) in
      let high : p ≤ 14 = leb→le p 14 (and_right (leb 13 p) (leb p 14) (and_left (leb 13 p && leb p 14) (eqb q 4) h)) in
      let g : q ≡ 4 = eqb→eq q 4 (and_right (leb 13 p && leb p 14) (eqb q 4) h) in
      s ∙ ap (λ (k : ℕ). amount_of p k f) g ∙ same_amount p f low high (subst (λ (k : ℕ). fits_type (Number p k) f ≡ true) g e)
  says_usage Date h e s = absurd h
  says_usage DateTime h e s = absurd h
  says_usage (Char w) h e s = absurd h
  says_usage (Varchar w) h e s = absurd h

-- ---- the fields of test 7
module _ (type : ℕ) (known : type < 9) where
  pub commodity_kind : T (has_kind is_short_text type (get_or commodity_fields type 0))
  unfolding field_count field_type
  commodity_kind = every_at (has_kind is_short_text) commodity_fields 9 type known tt refl

  pub unit_kind : T (has_kind is_short_text type (get_or unit_fields type 0))
  unfolding field_count field_type
  unit_kind = every_at (has_kind is_short_text) unit_fields 9 type known tt refl

  pub cancel_kind : T (has_kind is_short_text type (get_or cancel_fields type 0))
  unfolding field_count field_type
  cancel_kind = every_at (has_kind is_short_text) cancel_fields 9 type known tt refl

  pub exemption_kind : T (has_kind is_short_text type (get_or exemption_fields type 0))
  unfolding field_count field_type
  exemption_kind = every_at (has_kind is_short_text) exemption_fields 9 type known tt refl

  -- ---- the fields of a column
  pub column_kind : (kind : FieldType → Bool) (column : ℕ) → column < 10 → T (every (has_kind kind) 0 (get_or field_table column [])) → length (get_or field_table column []) ≡ 9
      → T (has_kind kind type (field_of column type))
  unfolding field_of
  column_kind kind column inside all size = rw (lt-ltb column 10 inside, lt-ltb type 9 known) (every_at (has_kind kind) (get_or field_table column []) 9 type known all size)
