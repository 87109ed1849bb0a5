-- Laws of the field of a number, from the amount without its sign that was read after the minus, where there is one.
--     after_minus                    what the first byte says of the field
--     number_narrow                  no digit before the point is allowed
--     number_read, number_missed     such an amount stands there, and none does
-- Assumes nothing.
use Rattle.std.proofs.Common.{◌≡◌, ℕ, suc, ◌+◌, ◌-◌, ◌<◌, ◌≤◌, Bool, true, false, cond, ◌&&◌, eqb, leb, List, [], ◌∷◌, length, get_or, drop, sym, refl, ap, ◌∙◌, arith, leb-true}
use Rattle.amounts.specs.declared.Amount.TheVariants.{Value as Units, Misses}
use Rattle.amounts.specs.Amounts.{is_unsigned, is_number, has_minus, unsigned, units_of, signed}
use Rattle.amounts.specs.InsideSaid.{said_by}
use Rattle.amounts.proofs.Signs.{number_narrow as no_room, amount_filled}
use Rattle.fields.specs.declared.FieldType.TheVariants.{Number}
use Rattle.fields.specs.Fields.{fits_type}
use Rattle.fields.proofs.Fits.{fits_filled_lem}
use Rattle.readings.specs.declared.Reading.{Reading}
use Rattle.readings.specs.InsideLeadingBytes.{field_end, leading_field}
use Rattle.readings.specs.InsideAmountReadings.{MagnitudeRead}
use Rattle.readings.specs.InsideReadings.{Says, FieldRead}
use Rattle.readings.proofs.Ends.{end_first}
use Rattle.readings.proofs.Missed.{filled_not}

-- the byte b begins the field at the start of s, and the minus there has k bytes, one or none
record AfterMinus (s : List ℕ) (b k : ℕ) : Type 0 where
  sign : has_minus (leading_field s) ≡ eqb b 45
  rest : unsigned (leading_field s) ≡ leading_field (drop k s)
  ends : field_end s ≡ field_end (drop k s) + k
  some : 0 < length (leading_field s)

after_minus : (s : List ℕ) → (get_or s 0 44 ≡ 44 → ⊥) → AfterMinus s (get_or s 0 44) (cond (eqb (get_or s 0 44) 45) 1 0)
after_minus [] other = absurd (other refl)
after_minus (b ∷ s) other = go (eqb b 45) refl
  where
    end : field_end (b ∷ s) ≡ suc (field_end s)
    end = end_first b s other

    go : (minus : Bool) → eqb b 45 ≡ minus → AfterMinus (b ∷ s) b (cond minus 1 0)
    go true e = record { sign = rw end refl; rest = rw (end, e) refl; ends = rw end (omega arith); some = rw end (omega arith) }
    go false e = record { sign = rw end refl; rest = rw (end, e) refl; ends = omega arith; some = rw end (omega arith) }

module _ (precision scale : ℕ) (s : List ℕ) (other : get_or s 0 44 ≡ 44 → ⊥) where
  pub number_narrow : precision ≤ scale → fits_type (Number precision scale) (leading_field s) ≡ false
  number_narrow h = filled_not (Number precision scale) (leading_field s) (after_minus s other).some (no_room precision scale (leading_field s) h)

  module _ (k : ℕ) (minus : k ≡ cond (eqb (get_or s 0 44) 45) 1 0) where
    field : AfterMinus s (get_or s 0 44) k
    field = rw minus (after_minus s other)

    shape : is_number precision scale (leading_field s) ≡ is_unsigned (precision - scale) scale (leading_field (drop k s))
    unfolding is_number
    shape = rw field.rest

    pub number_missed : is_unsigned (precision - scale) scale (leading_field (drop k s)) ≡ false → fits_type (Number precision scale) (leading_field s) ≡ false
    number_missed none = filled_not (Number precision scale) (leading_field s) field.some (shape ∙ none)

    -- the magnitude stands behind the minus
    pub number_read : (size r : Reading) → MagnitudeRead (precision - scale) scale (drop k s) size → r.len ≡ size.len + k → scale < precision
        → said_by r.number ≡ cond (leb precision 15) (Units (signed (eqb (get_or s 0 44) 45) size.number)) Misses → FieldRead (Number precision scale) s r
    unfolding Says
    number_read size r a l room says =
        record {
          ends = l ∙ ap (λ (j : ℕ). j + k) a.ends ∙ sym field.ends;
          fits = fits_filled_lem (Number precision scale) (leading_field s) (shape ∙ a.fits);
          says = says ∙ sym (amount_filled precision scale (leading_field s) field.some ∙ rw (field.sign, field.rest, a.fits) (go (leb precision 15) refl));
        }
      where
        negative : Bool
        negative = eqb (get_or s 0 44) 45

        -- a value is read up to 15 digits
        go : (b : Bool) → leb precision 15 ≡ b → cond (b && true) (Units (signed negative (units_of scale (leading_field (drop k s))))) Misses ≡ cond b (Units (signed negative size.number)) Misses
        go true e = ap (λ (m : ℕ). Units (signed negative m)) (sym (a.says (omega (arith, room, leb-true precision 15 e))))
        go false e = refl
