-- Laws of IDs that were read, and of what is read as an ID first: IDs of fixed length, and dates.
--     filled_fits                          what fits a type and isn't empty
--     id_bound, id_read                    the digits of a field are its ID
--     id_empty                             what an ID tells: that the field is empty
--     fixed_read                           so it tells an ID of fixed length
--     date_not, -empty, -read, -missed     what an ID of eight digits tells of a date: none, an empty field, the day, no day
-- Assumes nothing.
use Rattle.std.specs.Prelude.{is_some}
use Rattle.std.proofs.Common.{◌≡◌, ℕ, ◌+◌, ◌-◌, ◌^◌, ◌<◌, ◌≤◌, Bool, true, false, cond, ◌||◌, eqb, List, length, take, sym, refl, ap, ◌∙◌, ⊎_elim, arith, length-take-le, eq-eqb, ne_eqb, eqb-true}
use borrow.Author.Tests.{eqb-false}
use Rattle.std.specs.Prelude.{Option, Some, None}
use Rattle.digits.specs.Digits.{number_of, digits_of, fixed_digits_of}
use Rattle.digits.proofs.Laws.{ten_room, digits_are}
use Rattle.calendar.specs.Calendar.{date_day, number_day, day_of}
use Rattle.fields.specs.declared.FieldType.{FieldType}
use Rattle.fields.specs.declared.FieldType.TheVariants.{RecordId, Digits, Date}
use Rattle.fields.specs.Fields.{fits_filled, fits_type}
use Rattle.fields.proofs.Fits.{fits_empty, fits_filled_lem}
use Rattle.columns.specs.Columns.{number_in_column}
use Rattle.readings.specs.declared.Run.{Run}
use Rattle.readings.specs.declared.Reading.{Reading}
use Rattle.readings.specs.InsideLeadingBytes.{field_end, leading_field, Ends, DigitsRead}
use Rattle.readings.proofs.Ends.{field_length, ends_there, digits_before}
use Rattle.readings.proofs.Runs.{run_bound}
use Rattle.readings.specs.InsideReadings.{Says, FieldRead}
use Rattle.readings.proofs.Fields.{empty_says, field_read}
use Rattle.readings.proofs.Missed.{filled_not, fixed_id, fixed_length}
use Rattle.lists.proofs.Selections.{second_of_lem}

pub filled_fits : (t : FieldType) (f : List ℕ) → 1 ≤ length f → fits_type t f ≡ true → fits_filled t f ≡ true
unfolding fits_type
filled_fits t f h e = second_of_lem (eqb (length f) 0) (fits_filled t f) (ne_eqb (length f) 0 (λ z. omega (arith, h, z))) e

-- ---- the digits of a field
module _ (s : List ℕ) (t : Run) (run : DigitsRead s t) where
  pub id_bound : t.value < 10 ^ 15
  id_bound = ten_room t.len (rw run.value (run_bound s t.len run.inside run.digits)) run.few

  pub id_read : (r : Reading) → Ends s t.len → 1 ≤ t.len → r.len ≡ t.len → r.number ≡ t.value + 1 → FieldRead RecordId s r
  unfolding Says
  id_read r end some l n =
      let size : length (take t.len s) ≡ t.len = length-take-le t.len s run.inside in
      let are : digits_of (take t.len s) ≡ Some (number_of (take t.len s))
      = digits_are (take t.len s) (omega (arith, size, some)) (omega (arith, size, run.few)) run.digits in
      field_read RecordId s r t.len (t.value + 1) (ends_there s t.len end (digits_before s t.len run.inside run.digits))
      (fits_filled_lem RecordId (take t.len s) (ap is_some are)) (ap (λ (v : ℕ). v + 1) run.value ∙ sym (ap number_in_column are)) l n

-- ---- what an ID tells
module _ (s : List ℕ) (id : Reading) (read : FieldRead RecordId s id) where
  -- that the field is empty
  none : id.len ≡ 0 → id.number ≡ 0
  unfolding Says
  none e = read.says ∙ ap (λ (k : ℕ). number_in_column (digits_of (take k s))) (sym read.ends ∙ e) ∙ sym (empty_says RecordId)

  pub id_empty : (t : FieldType) → id.len ≡ 0 → FieldRead t s id
  id_empty t e = field_read t s id 0 0 (sym e ∙ read.ends) (fits_empty t) (empty_says t) e (none e)

  module _ (some : 1 ≤ id.len) where
    is_read_lem : is_some (digits_of (leading_field s)) ≡ true
    is_read_lem = filled_fits RecordId (leading_field s) (omega (arith, field_length s, read.ends, some)) read.fits

    -- its number
    id_number : (n : ℕ) × (digits_of (leading_field s) ≡ Some n) × (id.number ≡ n + 1)
    unfolding Says
    id_number = go (digits_of (leading_field s)) refl is_read_lem
      where
        go : (x : Option ℕ) → digits_of (leading_field s) ≡ x → is_some x ≡ true → (n : ℕ) × (digits_of (leading_field s) ≡ Some n) × (id.number ≡ n + 1)
        go (Some n) e q = (n, e, read.says ∙ ap number_in_column e)
        go None e q = let z : ◌≡◌ {A = ℕ} 0 1 = cc in absurd (omega arith)

    pub fixed_read : (width : ℕ) → id.len ≡ width → FieldRead (Digits width) s id
    unfolding Says fixed_digits_of
    fixed_read width e =
        field_read (Digits width) s id (field_end s) id.number refl
        (fits_filled_lem (Digits width) (leading_field s) (rw (eq-eqb (length (leading_field s)) width (field_length s ∙ sym read.ends ∙ e)) is_read_lem))
        read.says read.ends refl

  -- the number 0 tells it too
  number_none : id.number ≡ 0 → id.len ≡ 0
  number_none e = go (eqb id.len 0) refl
    where
      go : (b : Bool) → eqb id.len 0 ≡ b → id.len ≡ 0
      go true q = eqb-true id.len 0 q
      go false q = let other = eqb-false id.len 0 q in absurd (omega (arith, (id_number (omega arith)).2))

  number_some : (id.number ≡ 0 → ⊥) → 1 ≤ id.len
  number_some some = let other : id.len ≡ 0 → ⊥ = λ e. some (none e) in omega arith

-- ---- a date is an ID of eight digits whose number writes one
module _ (s : List ℕ) where
  pub date_not : fits_type (Digits 8) (leading_field s) ≡ false → fits_type Date (leading_field s) ≡ false
  unfolding fits_type fixed_digits_of day_of
  date_not = go (eqb (length (leading_field s)) 0) (eqb (length (leading_field s)) 8) (digits_of (leading_field s))
    where
      go : (a b : Bool) (x : Option ℕ) → a || is_some (cond b x None) ≡ false → a || is_some (cond b (number_day x) None) ≡ false
      go true b x e = e
      go false true (Some n) e = let z : ◌≡◌ {A = ℕ} 0 1 = cc in absurd (omega arith)
      go false true None e = e
      go false false x e = e

  module _ (id : Reading) (read : FieldRead (Digits 8) s id) where
    as_id : FieldRead RecordId s id
    unfolding Says
    as_id = record { ends = read.ends; fits = fixed_id (leading_field s) 8 read.fits; says = read.says }

    pub date_empty : id.number ≡ 0 → FieldRead Date s id
    date_empty e = id_empty s id as_id Date (number_none s id as_id e)

    module _ (other : id.number ≡ 0 → ⊥) where
      some : 1 ≤ length (leading_field s)
      some = omega (arith, number_some s id as_id other, read.ends, field_length s)

      eight : length (leading_field s) ≡ 8
      eight = ⊎_elim (λ none. absurd (omega (arith, none, some))) (λ all. all) (fixed_length (leading_field s) 8 read.fits)

      day : day_of (leading_field s) ≡ date_day (id.number - 1)
      unfolding day_of
      day =
          let id_says = id_number s id as_id (number_some s id as_id other) in
          let less : id.number - 1 ≡ id_says.0 = omega (arith, id_says.2) in
          rw (eq-eqb (length (leading_field s)) 8 eight) (ap number_day id_says.1 ∙ sym (ap date_day less))

      pub date_read : (r : Reading) (d : ℕ) → date_day (id.number - 1) ≡ Some d → r.len ≡ 8 → r.number ≡ d + 1 → FieldRead Date s r
      unfolding Says
      date_read r d e l n =
          field_read Date s r (field_end s) (d + 1) refl (fits_filled_lem Date (leading_field s) (ap is_some (day ∙ e))) (sym (ap number_in_column (day ∙ e)))
          (l ∙ sym eight ∙ field_length s) n

      pub date_missed : date_day (id.number - 1) ≡ None → fits_type Date (leading_field s) ≡ false
      date_missed e = filled_not Date (leading_field s) some (ap is_some (day ∙ e))
