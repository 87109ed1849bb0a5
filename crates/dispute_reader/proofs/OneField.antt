-- What is read of one field.
--     read_same, code_same          what is read of the same bytes
--     field_empty, field_number     an empty field fits every type, and says 0; digits that fit say their number
--     fits_short, fits_read         which bytes fit an ID
--     told_moment, fits_no_moment   a date time is 14 digits, and says what they do
--     code_empty, code_number_lem, code_missed    the same of the Dispute Code
-- Assumes nothing.
use Rattle.std.specs.Prelude.{is_some, Option, Some, None}
use mathlib.Core.Path.{◌≡◌, refl, sym, ◌∙◌, ap, subst}
use mathlib.Core.List.{List}
use mathlib.Core.Logic.{◌⊎◌, ⊎_elim}
use mathlib.Core.Bool.{Bool, true, false, cond, true≢false}
use Prim.Native.Nat.{ℕ}
use native.Mathlib.Omega.{arith}
use borrow.Author.Tests.{eq-eqb, ne_eqb}
use lib.Dec.{eqb}
use lib.IntN.{ℤ, pos}
use lib.ListN.{length}
use Rattle.calendar.specs.declared.Moment.{Moment}
use Rattle.digits.specs.Digits.{number_of, digits_of, fixed_digits_of}
use Rattle.digits.proofs.Laws.{digits_say, digits_are}
use Rattle.calendar.specs.Calendar.{date_time_of}
use Rattle.calendar.proofs.Dates.{date_time_digits}
use Rattle.amounts.specs.declared.Amount.TheVariants.{Missing, Value as Units, Misses}
use Rattle.amounts.specs.Amounts.{is_number, amount_of}
use Rattle.amounts.proofs.Laws.{amount_fits, amount_read, amount_missing}
use Rattle.fields.specs.declared.FieldType.{FieldType}
use Rattle.fields.specs.declared.FieldType.TheVariants.{RecordId, Digits, Number as Num, DateTime}
use Rattle.fields.specs.Fields.{fits_filled, fits_type}
use Rattle.dispute_lines.specs.declared.DisputeField.{DisputeField}
use Rattle.dispute_lines.specs.declared.CodeField.{CodeField}
use Rattle.dispute_lines.specs.Reading.{field_said, code_said}
use Rattle.dispute_reader.specs.InsideSaid.{digits_type, FieldRead, Told, CodeRead}

-- of the same bytes
pub read_same : {t : FieldType} {s u : List ℕ} {r : DisputeField} → s ≡ u → FieldRead t s r → FieldRead t u r
read_same {t} {s} {u} {r} e h = subst (λ (l : List ℕ). FieldRead t l r) e h

pub code_same : {s u : List ℕ} {r : CodeField} → s ≡ u → CodeRead s r → CodeRead u r
code_same {s} {u} {r} e h = subst (λ (l : List ℕ). CodeRead l r) e h

abbrev field : ℕ → ℕ → DisputeField
field filled value = record { filled = filled; value = value }

pub field_empty : (t : FieldType) (s : List ℕ) → eqb (length s) 0 ≡ true → FieldRead t s (field 0 0)
unfolding fits_type field_said
field_empty t s e = record { fits = rw e; says = rw e }

pub field_number : (t : FieldType) (s : List ℕ) (n : ℕ) → eqb (length s) 0 ≡ false → fits_type t s ≡ true → digits_of s ≡ Some n → FieldRead t s (field 1 n)
unfolding field_said
field_number t s n some e d = record { fits = e; says = rw some (ap (field 1) (sym (digits_say s n d).value)) }

-- ---- digits
module _ (width : ℕ) (s : List ℕ) (some : eqb (length s) 0 ≡ false) where
  pub fits_short : (width ≡ 0 → ⊥) → (length s ≡ width → ⊥) → fits_type (digits_type width) s ≡ false
  unfolding fits_type fixed_digits_of
  fits_short w h = rw (some, ne_eqb _ _ w, ne_eqb _ _ h)

  pub fits_read : (width ≡ 0) ⊎ (length s ≡ width) → fits_type (digits_type width) s ≡ is_some (digits_of s)
  unfolding fits_type fixed_digits_of
  fits_read h = rw some (go (eqb width 0) refl h)
    where
      go : (b : Bool) → eqb width 0 ≡ b → (width ≡ 0) ⊎ (length s ≡ width) → fits_filled (cond b RecordId (Digits width)) s ≡ is_some (digits_of s)
      go true e h = refl
      go false e h = ⊎_elim (λ z. absurd (true≢false (sym (eq-eqb width 0 z) ∙ e))) (λ l. rw (eq-eqb (length s) width l)) h

-- ---- a date time
fits_moment : (s : List ℕ) (m : Moment) → date_time_of s ≡ Some m → (fits_type (Digits 14) s ≡ true) × (fits_type DateTime s ≡ true)
unfolding fits_type fixed_digits_of
fits_moment s m e =
    let p = date_time_digits s m.day m.second e in
    let some : eqb (length s) 0 ≡ false = ne_eqb (length s) 0 (λ z. omega (arith, z, p.0)) in
    let read : digits_of s ≡ Some (number_of s) = digits_are s (omega (arith, p.0)) (omega (arith, p.0)) p.1 in
    (rw (some, eq-eqb (length s) 14 p.0, read), rw (some, e))

pub told_moment : (s : List ℕ) (m : Moment) (r : Option DisputeField) → date_time_of s ≡ Some m → Told (Digits 14) s r → Told DateTime s r
told_moment s m (Some r) e h = record { fits = (fits_moment s m e).1; says = h.says }
told_moment s m None e h = absurd (true≢false (sym (fits_moment s m e).0 ∙ h))

pub fits_no_moment : (s : List ℕ) → eqb (length s) 0 ≡ false → date_time_of s ≡ None → fits_type DateTime s ≡ false
unfolding fits_type
fits_no_moment s some e = rw (some, e)

-- ---- the Dispute Code
abbrev code_field : ℕ → ℤ → CodeField
code_field filled value = record { filled = filled; value = value }

pub code_empty : (s : List ℕ) → amount_of 4 0 s ≡ Missing → CodeRead s (code_field 0 (pos 0))
unfolding fits_type code_said
code_empty s e = let none = (amount_missing 4 0 s).1 e in record { fits = rw (eq-eqb _ _ none); says = rw (eq-eqb _ _ none) }

code_filled : (s : List ℕ) → (amount_of 4 0 s ≡ Missing → ⊥) → length s ≡ 0 → ⊥
code_filled s other z = other ((amount_missing 4 0 s).0 z)

pub code_number_lem : (s : List ℕ) (x v : ℤ) → amount_of 4 0 s ≡ Units x → v ≡ x → CodeRead s (code_field 1 v)
unfolding fits_type code_said
code_number_lem s x v e same =
    let some = code_filled s (λ m. let z : ◌≡◌ {A = ℕ} 0 1 = cc in omega arith) in
    let read = amount_read 4 0 s x (omega (arith, some)) e in
    record { fits = rw (ne_eqb (length s) 0 some, read.number); says = rw (ne_eqb (length s) 0 some, e) (ap (code_field 1) same) }

pub code_missed : (s : List ℕ) → amount_of 4 0 s ≡ Misses → fits_type (Num 4 0) s ≡ false
unfolding fits_type
code_missed s e = go (is_number 4 0 s) refl
  where
    some : length s ≡ 0 → ⊥
    some = code_filled s (λ m. let z : ◌≡◌ {A = ℕ} 0 1 = cc in omega arith)

    go : (b : Bool) → is_number 4 0 s ≡ b → fits_type (Num 4 0) s ≡ false
    go true q = let z : ◌≡◌ {A = ℕ} 0 1 = cc (amount_fits 4 0 s (omega (arith, some)) (omega arith) q) in absurd (omega arith)
    go false q = rw (ne_eqb (length s) 0 some, q)
