-- What is read of a field of a dispute that fits its type, and of all its fields; none where one misses its type.
-- Assumes nothing.
use Rattle.std.specs.Prelude.{ℕ, ◌≡◌, Bool, true, false, cond, ◌&&◌, List, [], eqb, Option, Some, None, Result, Ok, Err}
use Rattle.fields.specs.declared.FieldType.{FieldType}
use Rattle.fields.specs.declared.FieldType.TheVariants.{RecordId, Digits, Number as Num, DateTime}
use Rattle.fields.specs.Fields.{fits_type}
use Rattle.dispute_lines.specs.declared.DisputeField.{DisputeField}
use Rattle.dispute_lines.specs.declared.CodeField.{CodeField}
use Rattle.dispute_lines.specs.declared.DisputeReply.{DisputeReply}
use Rattle.dispute_lines.specs.Reading.{reading, field_in, field_said, code_said, fits_dispute, dispute_reply}
use Rattle.dispute_reader.specs.declared.Refusal.{Refusal}
use Rattle.dispute_reader.specs.declared.Refusal.TheVariants as refusal
use Rattle.dispute_reader.specs.declared.Sender.{Sender}
use Rattle.dispute_reader.specs.declared.Subject.{Subject}

-- an ID of just so many digits; of 1 to 15 where `width` is 0
abbrev pub digits_type : ℕ → FieldType
digits_type width = cond (eqb width 0) RecordId (Digits width)

pub record FieldRead (t : FieldType) (s : List ℕ) (r : DisputeField) : Type 0 where
  pub fits : fits_type t s ≡ true
  pub says : r ≡ field_said s

abbrev pub Told : FieldType → List ℕ → Option DisputeField → Type 0
Told t s (Some r) = FieldRead t s r
Told t s None = fits_type t s ≡ false

pub record CodeRead (s : List ℕ) (r : CodeField) : Type 0 where
  pub fits : fits_type (Num 4 0) s ≡ true
  pub says : r ≡ code_said s

abbrev pub CodeTold : List ℕ → Option CodeField → Type 0
CodeTold s (Some r) = CodeRead s r
CodeTold s None = fits_type (Num 4 0) s ≡ false

-- fields 2 to 5 of Table 4-14
abbrev pub sender_fits : List (List ℕ) → Bool
sender_fits fields =
    fits_type RecordId (field_in fields 2)
    && (fits_type (Digits 9) (field_in fields 3) && (fits_type (Digits 4) (field_in fields 4) && fits_type DateTime (field_in fields 5)))

pub record SenderRead (fields : List (List ℕ)) (r : Sender) : Type 0 where
  pub fits : sender_fits fields ≡ true
  pub transaction : r.transaction ≡ field_said (field_in fields 2)
  pub retailer : r.retailer ≡ field_said (field_in fields 3)
  pub distributor : r.distributor ≡ field_said (field_in fields 4)
  pub created : r.created ≡ field_said (field_in fields 5)

abbrev pub SenderTold : List (List ℕ) → Option Sender → Type 0
SenderTold fields (Some r) = SenderRead fields r
SenderTold fields None = sender_fits fields ≡ false

-- fields 6 to 10
abbrev pub subject_fits : List (List ℕ) → Bool
subject_fits fields =
    fits_type RecordId (field_in fields 6)
    && (fits_type (Digits 13) (field_in fields 7)
    && (fits_type RecordId (field_in fields 8) && (fits_type RecordId (field_in fields 9) && fits_type RecordId (field_in fields 10))))

pub record SubjectRead (fields : List (List ℕ)) (r : Subject) : Type 0 where
  pub fits : subject_fits fields ≡ true
  pub file : r.file ≡ field_said (field_in fields 6)
  pub site : r.site ≡ field_said (field_in fields 7)
  pub period : r.period ≡ field_said (field_in fields 8)
  pub child : r.child ≡ field_said (field_in fields 9)
  pub charge : r.charge ≡ field_said (field_in fields 10)

abbrev pub SubjectTold : List (List ℕ) → Option Subject → Type 0
SubjectTold fields (Some r) = SubjectRead fields r
SubjectTold fields None = subject_fits fields ≡ false

-- all of them
abbrev pub FieldsTold : List (List ℕ) → Option DisputeReply → Type 0
FieldsTold fields (Some r) = (fits_dispute fields ≡ true) × (r ≡ dispute_reply (reading 0 fields))
FieldsTold fields None = fits_dispute fields ≡ false

-- the number of each refusal
abbrev pub number_of : Refusal → ℕ
number_of refusal.NoDispute = 2
number_of refusal.Misfit = 3

-- of each case of the answer: a refusal has no fields
abbrev pub reply_of : Result DisputeReply Refusal → DisputeReply
reply_of (Ok r) = r
reply_of (Err e) = dispute_reply (reading (number_of e) [])
