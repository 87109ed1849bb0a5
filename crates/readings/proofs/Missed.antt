-- What a field that fits its type shows of what was read at its start: so, where that shows anything else, it does not fit.
--     fits_or, filled_not                a field that fits is empty, or filled and fits
--     id_ends                            the digits that were read are the whole field, where it is an ID
--     fixed_id, fixed_length             IDs of fixed length are IDs, of just so many digits
--     text_ends, char_length, varchar_length    texts
-- Assumes nothing.
use Rattle.std.specs.Prelude.{is_some}
use Rattle.std.proofs.Common.{◌≡◌, ℕ, ◌<◌, ◌≤◌, Bool, true, false, cond, ◌||◌, eqb, leb, ◌⊎◌, List, length, refl, subst, inl, inr, ⊎_elim, arith, ne_eqb, eqb-true, leb-false, leb-true}
use Rattle.lists.specs.First.{is_byte}
use Rattle.lists.proofs.First.{first_le}
use Rattle.fields.proofs.Read.{read_value}
use Rattle.std.specs.Prelude.{None}
use Rattle.digits.specs.Digits.{digits_of, fixed_digits_of}
use Rattle.digits.proofs.Laws.{digits_say}
use Rattle.fields.specs.declared.FieldType.{FieldType}
use Rattle.fields.specs.declared.FieldType.TheVariants.{RecordId, Digits, Char, Varchar}
use Rattle.fields.specs.Fields.{fits_filled, fits_type}
use Rattle.fields.proofs.Fits.{fits_filled_lem}
use Rattle.readings.specs.declared.Run.{Run}
use Rattle.readings.specs.InsideLeadingBytes.{field_end, leading_field, Ends, AllRead, TextRead}
use Rattle.readings.proofs.Ends.{field_length, end_ends, digits_before}
use Rattle.readings.proofs.Runs.{run_longest}

pub fits_or : (t : FieldType) (f : List ℕ) → fits_type t f ≡ true → (length f ≡ 0) ⊎ (fits_filled t f ≡ true)
unfolding fits_type
fits_or t f e = go (eqb (length f) 0) refl e
  where
    go : (b : Bool) → eqb (length f) 0 ≡ b → b || fits_filled t f ≡ true → (length f ≡ 0) ⊎ (fits_filled t f ≡ true)
    go true q o = inl (eqb-true (length f) 0 q)
    go false q o = inr o

-- a filled field that does not fit as such does not fit
pub filled_not : (t : FieldType) (f : List ℕ) → 0 < length f → fits_filled t f ≡ false → fits_type t f ≡ false
unfolding fits_type
filled_not t f h e = rw (ne_eqb (length f) 0 (λ z. omega arith), e)

-- ---- IDs
pub id_ends : (s : List ℕ) (r : Run) → AllRead s r → fits_type RecordId (leading_field s) ≡ true → r.len ≡ field_end s
id_ends s r a f =
    let least = digits_before s r.len a.read.inside a.read.digits in
    ⊎_elim (λ none. omega (arith, field_length s, none, least))
    (λ some.
    let v = read_value (digits_of (leading_field s)) some in
    let d = digits_say (leading_field s) v.0 v.1 in
    let most = run_longest s r a (field_end s) (first_le (is_byte 44) s) (omega (arith, d.few, field_length s)) d.digits in
    omega (arith, least, most))
    (fits_or RecordId (leading_field s) f)

module _ (f : List ℕ) where
  empty_fits : (t : FieldType) → length f ≡ 0 → fits_type t f ≡ true
  unfolding fits_type
  empty_fits t e = rw e

  -- ---- of fixed length
  fixed_told : (width : ℕ) → fits_filled (Digits width) f ≡ true → (length f ≡ width) × (is_some (digits_of f) ≡ true)
  unfolding fixed_digits_of
  fixed_told width e = go (eqb (length f) width) refl e
    where
      go : (b : Bool) → eqb (length f) width ≡ b → is_some (cond b (digits_of f) None) ≡ true → (length f ≡ width) × (is_some (digits_of f) ≡ true)
      go true q o = (eqb-true (length f) width q, o)
      go false q o = absurd (let z : ◌≡◌ {A = ℕ} 0 1 = cc in omega arith)

  pub fixed_id : (width : ℕ) → fits_type (Digits width) f ≡ true → fits_type RecordId f ≡ true
  fixed_id width e = ⊎_elim (empty_fits RecordId) (λ some. fits_filled_lem RecordId f (fixed_told width some).1) (fits_or (Digits width) f e)

  pub fixed_length : (width : ℕ) → fits_type (Digits width) f ≡ true → (length f ≡ 0) ⊎ (length f ≡ width)
  fixed_length width e = ⊎_elim inl (λ some. inr (fixed_told width some).0) (fits_or (Digits width) f e)

  -- ---- texts
  pub char_length : (width : ℕ) → fits_type (Char width) f ≡ true → (length f ≡ 0) ⊎ (length f ≡ width)
  char_length width e = ⊎_elim inl (λ some. inr (eqb-true (length f) width some)) (fits_or (Char width) f e)

  pub varchar_length : (width : ℕ) → fits_type (Varchar width) f ≡ true → length f ≤ width
  varchar_length width e = ⊎_elim (λ none. omega (arith, none)) (λ some. leb-true (length f) width some) (fits_or (Varchar width) f e)

-- the text that was read is the whole field, where that is short
pub text_ends : (s : List ℕ) (t : Run) → TextRead s t → field_end s ≤ 4 → Ends s t.len
text_ends s t text few = go (leb 4 t.len) refl
  where
    go : (b : Bool) → leb 4 t.len ≡ b → Ends s t.len
    go true e = subst (λ (k : ℕ). Ends s k) (let k : field_end s ≡ t.len = omega (arith, leb-true 4 t.len e, text.before, text.few, few) in k) (end_ends s)
    go false e = text.stops (leb-false 4 t.len e)
