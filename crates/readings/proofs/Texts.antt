-- Laws of texts that were read.
--     char_read, varchar_read            a text of at most four bytes
--     long_read                          a text that can be longer, of which only the end is read
-- Assumes nothing.
use Rattle.std.proofs.Common.{◌≡◌, ℕ, ◌<◌, ◌≤◌, List, length, take, refl, ◌∙◌, arith, length-take-le, eq-eqb, le-leb}
use Rattle.lists.specs.First.{is_byte}
use Rattle.lists.proofs.First.{first_le}
use Rattle.fields.specs.declared.FieldType.TheVariants.{Char, Varchar}
use Rattle.fields.proofs.Fits.{fits_filled_lem}
use Rattle.readings.specs.declared.Run.{Run}
use Rattle.readings.specs.declared.Reading.{Reading}
use Rattle.readings.specs.InsideLeadingBytes.{field_end, Ends, TextRead}
use Rattle.readings.proofs.Ends.{ends_there}
use Rattle.readings.specs.InsideReadings.{Says, FieldRead}
use Rattle.readings.proofs.Fields.{field_read}

module _ (s : List ℕ) (t : Run) (text : TextRead s t) (end : Ends s t.len) (width : ℕ) (r : Reading) (l : r.len ≡ t.len) (n : r.number ≡ t.value) where
  pub char_read : t.len ≡ width → FieldRead (Char width) s r
  unfolding Says
  char_read e =
      field_read (Char width) s r t.len t.value (ends_there s t.len end text.before)
      (fits_filled_lem (Char width) (take t.len s) (eq-eqb _ _ (length-take-le t.len s text.inside ∙ e))) (λ h. text.value) l n

  pub varchar_read : t.len ≤ width → FieldRead (Varchar width) s r
  unfolding Says
  varchar_read h =
      field_read (Varchar width) s r t.len t.value (ends_there s t.len end text.before)
      (fits_filled_lem (Varchar width) (take t.len s) (le-leb (length (take t.len s)) width (rw (length-take-le t.len s text.inside) h))) (λ few. text.value) l n

-- a text that can be longer than four bytes says no number
pub long_read : (s : List ℕ) (k width : ℕ) (r : Reading) → k ≡ field_end s → k ≤ width → 4 < width → r.len ≡ k → FieldRead (Varchar width) s r
unfolding Says
long_read s k width r e h many l =
    field_read (Varchar width) s r k r.number e
    (fits_filled_lem (Varchar width) (take k s) (le-leb (length (take k s)) width (rw (length-take-le k s (rw e (first_le (is_byte 44) s))) h))) (λ few. absurd (omega arith)) l refl
