-- Laws of a field that was read.
--     empty_says                             what an empty field says
--     field_read, empty_read                 a field that was read, and an empty one
-- Assumes nothing.
use Rattle.std.proofs.Common.{◌≡◌, ℕ, true, List, [], take, sym, refl, ◌∙◌, subst, zero-le}
use Rattle.digits.specs.Digits.{digits_of}
use Rattle.calendar.specs.Calendar.{day_of}
use Rattle.amounts.specs.Amounts.{amount_of}
use Rattle.amounts.proofs.Sayings.{said_missing}
use Rattle.fields.specs.declared.FieldType.{FieldType}
use Rattle.fields.specs.declared.FieldType.TheVariants.{RecordId, Digits, Number, Date, DateTime, Char, Varchar}
use Rattle.fields.specs.Fields.{fits_type}
use Rattle.fields.proofs.Fits.{fits_empty}
use Rattle.readings.specs.declared.Reading.{Reading}
use Rattle.readings.specs.InsideLeadingBytes.{field_end, Ends}
use Rattle.readings.proofs.Ends.{ends_there}
use Rattle.readings.proofs.LeadingTexts.{packed_none}
use Rattle.readings.specs.InsideReadings.{Says, FieldRead}

pub empty_says : (t : FieldType) → Says t [] 0
unfolding Says digits_of day_of amount_of
empty_says RecordId = refl
empty_says (Digits width) = refl
empty_says (Number precision scale) = said_missing 0 refl
empty_says Date = refl
empty_says DateTime = tt
empty_says (Char width) = λ h. sym packed_none
empty_says (Varchar width) = λ h. sym packed_none

-- ---- a field that was read
pub field_read : (t : FieldType) (s : List ℕ) (r : Reading) (k n : ℕ)
    → k ≡ field_end s → fits_type t (take k s) ≡ true → Says t (take k s) n → r.len ≡ k → r.number ≡ n → FieldRead t s r
field_read t s r k n e f y l m =
    record {
      ends = l ∙ e;
      fits = subst (λ (j : ℕ). fits_type t (take j s) ≡ true) e f;
      says = subst (λ (j : ℕ). Says t (take j s) r.number) e (subst (λ (j : ℕ). Says t (take k s) j) (sym m) y);
    }

pub empty_read : (t : FieldType) (s : List ℕ) (r : Reading) → Ends s 0 → r.len ≡ 0 → r.number ≡ 0 → FieldRead t s r
empty_read t s r e l m = field_read t s r 0 0 (ends_there s 0 e zero-le) (fits_empty t) (empty_says t) l m
