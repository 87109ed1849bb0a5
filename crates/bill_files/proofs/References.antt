-- What test 6 says of the cancels of a file that passes.
--     cancel_refers    a TH or OC with Cancel Indicator Y has a Reference ID, and a Cancel Reason Code after it
--     refers           so each cancel among the file's TH and OC names a Record ID: test 39's "an empty one names none" is met by none of them
-- Assumes nothing.
use Rattle.std.specs.Prelude.{is_some}
use mathlib.Core.Path.{◌≡◌, refl, sym, subst}
use mathlib.Core.Bool.{Bool, true, false, ◌||◌}
use Rattle.std.specs.Prelude.{Some}
use mathlib.Core.List.{List, []}
use Prim.Native.Nat.{ℕ, ◌+◌, ◌<◌}
use native.Mathlib.Omega.{arith}
use borrow.Author.Tests.{eqb-true, ne_eqb}
use lib.Dec.{eqb}
use lib.ListN.{length, get_or}
use Rattle.lists.specs.Bytes.{same_bytes}
use Rattle.lists.specs.Written.{written}
use Rattle.lists.proofs.Reflected.{same_bytes_is, empty_is}
use Rattle.digits.specs.Digits.{digits_of}
use Rattle.fields.specs.Fields.{fits_type}
use Rattle.fields.proofs.Read.{read_value}
use Rattle.tables.specs.Types.{TH, OC}
use Rattle.tables.specs.Tables.{field_count, field_type}
use Rattle.records.specs.Records.{field, type_in}
use Rattle.records.proofs.Laws.{fields_known}
use Rattle.columns.specs.Columns.{field_of, field_in, cancel, reference}
use Rattle.format.specs.Format.{line_at}
use Rattle.format.specs.Meaning.{AllFilled}
use Rattle.bill_files.specs.Accepted.{Bill, is_period, is_bill, bill_in, bills_in}
use Rattle.bill_files.specs.Passing.{is_cancel_at, Passing}
use Rattle.bill_files.proofs.Accepted.{every_bill}

-- a cancel refers to a Record ID
abbrev pub Refers : Bill → Type 0
Refers b = b.cancel ≡ true → (n : ℕ) × (b.reference ≡ Some n)

-- a TH or an OC
bill_type : (line : List ℕ) (P : ℕ → Type 0) → is_bill line ≡ true → (type_in line ≡ TH → P TH) → (type_in line ≡ OC → P OC) → P (type_in line)
bill_type line P e th oc = go (is_period line) refl e
  where
    go : (b : Bool) → is_period line ≡ b → (b || eqb (type_in line) OC) ≡ true → P (type_in line)
    go true q e = let type = eqb-true (type_in line) TH q in subst P (sym type) (th type)
    go false q e = let type = eqb-true (type_in line) OC e in subst P (sym type) (oc type)

module _ {retailer : ℕ} {distributors : List ℕ} {lines : List (List ℕ)} (p : Passing retailer distributors lines) (i : ℕ) (h : i < length lines) where
  abbrev line : List ℕ
  line = line_at lines i

  pub cancel_refers : is_bill line ≡ true → is_cancel_at lines i ≡ true → AllFilled (field_of reference (type_in line)) (field_of reference (type_in line) + 1) line
  unfolding field_of
  cancel_refers e =
      bill_type line (λ (t : ℕ). same_bytes (field (field_of cancel t) line) (written "Y") ≡ true → AllFilled (field_of reference t) (field_of reference t + 1) line) e
      (λ type y. (p.populated i h).cancelled_period type ((same_bytes_is (field 7 line) (written "Y")).0 y))
      (λ type y. (p.populated i h).cancelled_charge type ((same_bytes_is (field 6 line) (written "Y")).0 y))

  -- a Reference ID that is filled is read
  reference_read : is_bill line ≡ true → (field_in reference line ≡ [] → ⊥) → is_some (digits_of (field_in reference line)) ≡ true
  unfolding field_of fits_type field_count field_type
  reference_read e =
      bill_type line (λ (t : ℕ). (field (field_of reference t) line ≡ [] → ⊥) → is_some (digits_of (field (field_of reference t) line)) ≡ true) e
      (λ type given. filled (field 8 line) given (rw type at (p.fitting i h 7 (rw (fields_known line (p.formatted i h).known, (p.formatted i h).count, type) (omega arith)))))
      (λ type given. filled (field 7 line) given (rw type at (p.fitting i h 6 (rw (fields_known line (p.formatted i h).known, (p.formatted i h).count, type) (omega arith)))))
    where
      filled : (s : List ℕ) → (s ≡ [] → ⊥) → (eqb (length s) 0 || is_some (digits_of s)) ≡ true → is_some (digits_of s) ≡ true
      filled s given fits = rw (ne_eqb (length s) 0 (λ z. given ((empty_is s).0 z))) at fits

  line_refers : is_bill line ≡ true → Refers (bill_in (line_at lines 0) line)
  unfolding bill_in
  line_refers e y =
      let v = read_value (digits_of (field_in reference line)) (reference_read e (λ z. cancel_refers e y (field_of reference (type_in line)) (omega arith) (omega arith) z)) in
      v

pub refers : {retailer : ℕ} {distributors : List ℕ} {lines : List (List ℕ)} → Passing retailer distributors lines → (other : Bill) (k : ℕ) → k < length (bills_in lines) → Refers (get_or (bills_in lines) k other)
refers {lines = lines} p = every_bill Refers lines (line_refers p)
