-- A dispute's fields, one by one: what is written fits its type and is read as its number, and what fits its type is written again as it was.
--     id_fits, fixed_fits, shown_fits    IDs as they are written
--     code_says, code_fits               a code
--     moment_digits                      a date time is 14 digits
--     id_again_lem, fixed_again_lem, moment_again    what is written of a field that was read
-- Assumes nothing.
use Rattle.std.specs.Prelude.{is_some}
use mathlib.Core.Path.{◌≡◌, refl, sym, ◌∙◌, ap}
use mathlib.Core.List.{List, [], ◌∷◌}
use mathlib.Core.Bool.{Bool, true, false, true≢false, cond, ◌||◌}
use Prim.Native.Nat.{ℕ, ◌^◌, ◌≤◌, ◌<◌}
use native.Mathlib.Nat.{sub-zero}
use native.Mathlib.Omega.{arith}
use borrow.Author.Tests.{eqb-true, eqb-false, leb-true, lt-leb, not-true}
use lib.Dec.{eqb, leb}
use lib.IntN.{pos}
use lib.ListN.{length, get_or, take}
use lib.Seq.{take-length}
use Rattle.lists.proofs.Reflected.{empty_is}
use Rattle.digits.specs.Digits.{is_digit, all_digits, number_of, digits_of, fixed_digits_of}
use Rattle.std.specs.Prelude.{Option, Some, None}
use Rattle.calendar.specs.declared.Moment.{Moment}
use Rattle.digits.proofs.Laws.{both_true, digits_are, digits_say, fixed_say}
use Rattle.calendar.specs.Calendar.{date_time_of}
use Rattle.calendar.proofs.Dates.{date_time_digits}
use Rattle.amounts.specs.declared.Amount.TheVariants.{Value as Units}
use Rattle.amounts.specs.Amounts.{whole_part, amount_of}
use Rattle.amounts.proofs.Laws.{amount_read}
use Rattle.amounts.proofs.Shape.{magnitude_whole}
use Rattle.amounts.proofs.Signs.{amount_plain}
use Rattle.fields.specs.declared.FieldType.{FieldType}
use Rattle.fields.specs.declared.FieldType.TheVariants.{RecordId, Digits, Number as Num, DateTime}
use Rattle.fields.specs.Fields.{fits_filled, fits_type}
use Rattle.fields.proofs.Read.{read_value}
use Rattle.fields.proofs.Fits.{fits_empty, fits_filled_lem}
use Rattle.writing.specs.Decimals.{digits_in, plain_digits}
use Rattle.writing.proofs.Numbers.{digits_in_length}
use Rattle.writing.proofs.ReadBack.{digits_in_all, digits_in_number, read_fixed, read_plain, digits_again, plain_again}
use Rattle.dispute_lines.specs.Again.{id_again, fixed_again, lacks_leading_zeros}
use Rattle.dispute_lines.specs.Line.{shown_id}
use Rattle.amounts.proofs.Points.{no_point_lem}

-- ---- what is written fits its type
pub id_fits : (n : ℕ) → n < 10 ^ 15 → fits_type RecordId (plain_digits n) ≡ true
id_fits n h = fits_filled_lem RecordId (plain_digits n) (rw (read_plain n h))

pub fixed_fits : (w n : ℕ) → 1 ≤ w → w ≤ 15 → n < 10 ^ w → fits_type (Digits w) (digits_in w n) ≡ true
fixed_fits w n l u h = fits_filled_lem (Digits w) (digits_in w n) (rw (read_fixed w n l u h))

pub shown_fits : (b : Bool) (n : ℕ) → n < 10 ^ 15 → fits_type RecordId (shown_id b n) ≡ true
unfolding shown_id
shown_fits true n h = id_fits n h
shown_fits false n h = fits_empty RecordId

-- ---- a code: digits without a point or a minus
digits_bare : (s : List ℕ) → all_digits s ≡ true → get_or s 0 0 ≡ 45 → ⊥
unfolding all_digits
digits_bare [] d q = omega arith
digits_bare (b ∷ s) d q =
    let r = both_true (leb 48 b) (leb b 57) (both_true (is_digit b) (all_digits s) d).0 in
    omega (arith, leb-true 48 b r.0)

module _ (w n : ℕ) (l : 1 ≤ w) (u : w ≤ 15) (h : n < 10 ^ w) where
  pub code_says : amount_of w 0 (digits_in w n) ≡ Units (pos n)
  code_says =
      let t = digits_in w n in
      let d = digits_in_all w n in
      let size = digits_in_length w n in
      let point = no_point_lem t d in
      let whole : whole_part t ≡ t = ap (λ (k : ℕ). take k t) point ∙ take-length t in
      let says : digits_of (whole_part t) ≡ Some n = ap digits_of whole ∙ digits_are t (omega arith) (omega arith) d ∙ ap Some (digits_in_number w n h) in
      amount_plain w 0 t (omega arith) u (Some n) (digits_bare t d)
      (rw sub-zero (magnitude_whole w 0 t (omega arith) (omega arith) n says (omega arith) ∙ ap Some (omega arith)))

  pub code_fits : fits_type (Num w 0) (digits_in w n) ≡ true
  code_fits = fits_filled_lem (Num w 0) (digits_in w n) (amount_read w 0 (digits_in w n) (pos n) (omega (arith, digits_in_length w n)) code_says).number

-- ---- a date time
pub moment_digits : (s : List ℕ) → is_some (date_time_of s) ≡ true → (length s ≡ 14) × (all_digits s ≡ true)
moment_digits s e = go (date_time_of s) refl e
  where
    go : (m : Option Moment) → date_time_of s ≡ m → is_some m ≡ true → (length s ≡ 14) × (all_digits s ≡ true)
    go (Some m) q e = date_time_digits s m.day m.second q
    go None q e = absurd (true≢false (sym e))

-- ---- what is written of a field that was read: an empty field stays empty
kept : (t : FieldType) (again : List ℕ) (s : List ℕ) → fits_type t s ≡ true → (fits_filled t s ≡ true → again ≡ s) → cond (eqb (length s) 0) [] again ≡ s
unfolding fits_type
kept t again s f filled = go (eqb (length s) 0) refl f
  where
    go : (b : Bool) → eqb (length s) 0 ≡ b → b || fits_filled t s ≡ true → cond b [] again ≡ s
    go true q f = sym ((empty_is s).0 (eqb-true (length s) 0 q))
    go false q f = filled f

leading : (s : List ℕ) → lacks_leading_zeros s ≡ true → 1 < length s → get_or s 0 0 ≡ 48 → ⊥
unfolding lacks_leading_zeros
leading s e h = eqb-false (get_or s 0 0) 48 (not-true (eqb (get_or s 0 0) 48) (rw (lt-leb (length s) 1 h) at e))

pub id_again_lem : (s : List ℕ) → fits_type RecordId s ≡ true → lacks_leading_zeros s ≡ true → id_again s ≡ s
unfolding id_again
id_again_lem s f z =
    kept RecordId (plain_digits (number_of s)) s f
    (λ e.
    (let v = read_value (digits_of s) e in
    let d = digits_say s v.0 v.1 in
    plain_again s d.digits d.some d.few (leading s z)))

width_again : (w : ℕ) (s : List ℕ) → length s ≡ w → all_digits s ≡ true → digits_in w (number_of s) ≡ s
width_again w s l d = ap (λ (k : ℕ). digits_in k (number_of s)) (sym l) ∙ digits_again s d

pub fixed_again_lem : (w : ℕ) (s : List ℕ) → fits_type (Digits w) s ≡ true → fixed_again w s ≡ s
unfolding fixed_again
fixed_again_lem w s f =
    kept (Digits w) (digits_in w (number_of s)) s f
    (λ e.
    (let v = read_value (fixed_digits_of w s) e in
    let q = fixed_say w s v.0 v.1 in
    width_again w s q.0 (digits_say s v.0 q.1).digits))

pub moment_again : (s : List ℕ) → fits_type DateTime s ≡ true → fixed_again 14 s ≡ s
unfolding fixed_again
moment_again s f = kept DateTime (digits_in 14 (number_of s)) s f (λ e. (let q = moment_digits s e in width_again 14 s q.0 q.1))
