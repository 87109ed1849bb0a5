-- What is read of all fields.
--     sender_read, subject_read      fields 2 to 5, and 6 to 10
--     no_transaction ..              a field that doesn't fit
--     no_sender, no_subject, no_code, fields_read    where one of all fields doesn't fit, and where all do
-- Assumes nothing.
use mathlib.Core.Path.{◌≡◌, ◌∙◌}
use mathlib.Core.List.{List}
use mathlib.Core.Bool.{true, false, ◌&&◌, and_assoc, and-false}
use Prim.Native.Nat.{ℕ}
use Rattle.fields.specs.declared.FieldType.TheVariants.{RecordId, Digits, DateTime}
use Rattle.fields.specs.Fields.{fits_type}
use Rattle.fields.specs.declared.FieldType.TheVariants.{Number as Num}
use Rattle.records.specs.InsidePlacedFields.{field_among}
use Rattle.dispute_lines.specs.declared.DisputeField.{DisputeField}
use Rattle.dispute_lines.specs.declared.CodeField.{CodeField}
use Rattle.dispute_lines.specs.Reading.{reading, field_in, fits_dispute, dispute_reply}
use Rattle.dispute_reader.specs.InsideSaid.{FieldRead, CodeRead, sender_fits, SenderRead, subject_fits, SubjectRead}
use Rattle.dispute_reader.specs.declared.Sender.{Sender}
use Rattle.dispute_reader.specs.declared.Subject.{Subject}

module _ (fields : List (List ℕ)) where
  pub sender_read : (transaction retailer distributor created : DisputeField) → FieldRead RecordId (field_among fields 2) transaction → FieldRead (Digits 9) (field_among fields 3) retailer → FieldRead (Digits 4) (field_among fields 4) distributor → FieldRead DateTime (field_among fields 5) created
      → SenderRead fields (record { transaction = transaction; retailer = retailer; distributor = distributor; created = created })
  unfolding field_among
  sender_read transaction retailer distributor created a b c d =
      record { fits = rw (a.fits, b.fits, c.fits, d.fits); transaction = a.says; retailer = b.says; distributor = c.says; created = d.says }

  pub subject_read : (file site period child charge : DisputeField) → FieldRead RecordId (field_among fields 6) file → FieldRead (Digits 13) (field_among fields 7) site → FieldRead RecordId (field_among fields 8) period → FieldRead RecordId (field_among fields 9) child → FieldRead RecordId (field_among fields 10) charge
      → SubjectRead fields (record { file = file; site = site; period = period; child = child; charge = charge })
  unfolding field_among
  subject_read file site period child charge a b c d e =
      record { fits = rw (a.fits, b.fits, c.fits, d.fits, e.fits); file = a.says; site = b.says; period = c.says; child = d.says; charge = e.says }

  -- the first field that doesn't fit
  pub no_transaction : fits_type RecordId (field_among fields 2) ≡ false → sender_fits fields ≡ false
  unfolding field_among
  no_transaction e = rw e

  pub no_retailer : fits_type (Digits 9) (field_among fields 3) ≡ false → sender_fits fields ≡ false
  unfolding field_among
  no_retailer e = simp (e, and-false)

  pub no_distributor : fits_type (Digits 4) (field_among fields 4) ≡ false → sender_fits fields ≡ false
  unfolding field_among
  no_distributor e = simp (e, and-false)

  pub no_created : fits_type DateTime (field_among fields 5) ≡ false → sender_fits fields ≡ false
  unfolding field_among
  no_created e = simp (e, and-false)

  pub no_file : fits_type RecordId (field_among fields 6) ≡ false → subject_fits fields ≡ false
  unfolding field_among
  no_file e = rw e

  pub no_site : fits_type (Digits 13) (field_among fields 7) ≡ false → subject_fits fields ≡ false
  unfolding field_among
  no_site e = simp (e, and-false)

  pub no_period : fits_type RecordId (field_among fields 8) ≡ false → subject_fits fields ≡ false
  unfolding field_among
  no_period e = simp (e, and-false)

  pub no_child : fits_type RecordId (field_among fields 9) ≡ false → subject_fits fields ≡ false
  unfolding field_among
  no_child e = simp (e, and-false)

  pub no_charge : fits_type RecordId (field_among fields 10) ≡ false → subject_fits fields ≡ false
  unfolding field_among
  no_charge e = simp (e, and-false)

  all_fit : fits_dispute fields ≡ sender_fits fields && (subject_fits fields && fits_type (Num 4 0) (field_in fields 11))
  unfolding fits_dispute
  all_fit = simp and_assoc

  pub no_sender : sender_fits fields ≡ false → fits_dispute fields ≡ false
  no_sender e = rw (all_fit, e)

  pub no_subject : subject_fits fields ≡ false → fits_dispute fields ≡ false
  no_subject e = rw (all_fit, e) (and-false (sender_fits fields))

  pub no_code : fits_type (Num 4 0) (field_among fields 11) ≡ false → fits_dispute fields ≡ false
  unfolding field_among
  no_code e = rw (all_fit, e, and-false (subject_fits fields)) (and-false (sender_fits fields))

  module _ (sender : Sender) (subject : Subject) (code : CodeField) (a : SenderRead fields sender) (b : SubjectRead fields subject) (c : CodeRead (field_among fields 11) code) where
    pub fields_read : (fits_dispute fields ≡ true)
        × (record {
          number = 0;
          transaction = sender.transaction;
          retailer = sender.retailer;
          distributor = sender.distributor;
          created = sender.created;
          file = subject.file;
          site = subject.site;
          period = subject.period;
          child = subject.child;
          charge = subject.charge;
          code = code;
        } ≡ dispute_reply (reading 0 fields))
    unfolding field_among
    fields_read = (
      all_fit ∙ rw (a.fits, b.fits, c.fits),
      rw (a.transaction, a.retailer, a.distributor, a.created, b.file, b.site, b.period, b.child, b.charge, c.says),
    )
