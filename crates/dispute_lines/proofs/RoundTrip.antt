-- A dispute's line that is written is read as its own fields, and a line that was read is written again as it was.
--     written_read    what is read of a written line
--     written_plain   its IDs have no leading zeros
--     read_written    what is written of the fields of a line that was read
-- Assumes nothing.
use Rattle.std.specs.Prelude.{is_some}
use mathlib.Core.Path.{◌≡◌, refl, ◌∙◌, ap, subst}
use mathlib.Core.List.{List, [], ◌∷◌, ◌++◌}
use mathlib.Core.Bool.{Bool, true, false, cond, not, ◌||◌}
use Prim.Native.Nat.{ℕ, zero, suc, ◌^◌, ◌<◌}
use native.Mathlib.Omega.{arith}
use borrow.Author.Tests.{le-leb, leb-true, leb-false, eqb-true, ne_eqb, not-false}
use lib.Dec.{eqb, leb}
use lib.ListN.{length, get_or, drop}
use Rattle.lists.specs.Below.{some_below}
use Rattle.lists.specs.InsideSelections.{all}
use Rattle.lists.specs.Written.{written}
use Rattle.lists.proofs.Below.{none_some}
use Rattle.lists.proofs.Bytes.{is_same}
use Rattle.lists.proofs.Reflected.{neither_of}
use Rattle.digits.specs.Digits.{is_digit, all_digits}
use Rattle.digits.proofs.Laws.{both_true}
use Rattle.calendar.specs.Calendar.{date_time_of}
use Rattle.fields.specs.declared.FieldType.TheVariants.{RecordId, DateTime}
use Rattle.fields.proofs.Fits.{fits_empty, fits_filled_lem}
use Rattle.records.specs.Text.{lines_of, fields_of}
use Rattle.records.specs.Records.{record_fields}
use Rattle.format.specs.Format.{is_printable, line_at}
use Rattle.writing.specs.Decimals.{plain_digits}
use Rattle.writing.proofs.ReadBack.{digits_in_all, plain_all, plain_first}
use Rattle.written_lines.specs.InsideBytes.{past_comma}
use Rattle.written_lines.specs.Lines.{line_of}
use Rattle.written_lines.proofs.ReadBack.{body, all_past, digits_past, one_line, its_fields, line_again}
use Rattle.dispute_lines.specs.declared.Dispute.{Dispute}
use Rattle.dispute_lines.specs.Again.{fields_again, lacks_leading_zeros, ids_lack_leading_zeros}
use Rattle.dispute_lines.specs.Line.{shown_id, dispute_fields, dispute_line}
use Rattle.dispute_lines.specs.Reading.{Reading, reading, field_in, is_no_dispute, is_one_line, fits_dispute, read_fields, read_line, read_dispute}
use Rattle.dispute_lines.proofs.Fields.{id_fits, fixed_fits, shown_fits, code_fits, moment_digits, id_again_lem, fixed_again_lem, moment_again}

-- ---- bytes that test 2 allows in a line
printable : List ℕ → Bool
printable s = all is_printable s

printable_append : (xs ys : List ℕ) → printable xs ≡ true → printable ys ≡ true → printable (xs ++ ys) ≡ true
unfolding printable
printable_append [] ys p q = q
printable_append (x ∷ xs) ys p q = let e = both_true (is_printable x) (printable xs) p in simp (e.0, printable_append xs ys e.1 q)

printable_at : (s : List ℕ) (j : ℕ) → printable s ≡ true → j < length s → not (is_printable (get_or s j 0)) ≡ false
unfolding printable
printable_at [] j p h = absurd (omega arith)
printable_at (b ∷ s) zero p h = ap not (both_true (is_printable b) (printable s) p).0
printable_at (b ∷ s) (suc j) p h = printable_at s j (both_true (is_printable b) (printable s) p).1 (omega arith)

digits_printable : (s : List ℕ) → all_digits s ≡ true → printable s ≡ true
unfolding printable all_digits
digits_printable [] d = refl
digits_printable (b ∷ s) d =
    let e = both_true (is_digit b) (all_digits s) d in
    let r = both_true (leb 48 b) (leb b 57) e.0 in
    simp (le-leb 32 b (omega (arith, leb-true 48 b r.0)), le-leb b 126 (omega (arith, leb-true b 57 r.1)), digits_printable s e.1)

body_printable : (ls : List (List ℕ)) → all printable ls ≡ true → printable (body ls) ≡ true
unfolding printable body
body_printable [] p = refl
body_printable (l ∷ []) p = (both_true (printable l) true p).0
body_printable (l ∷ m ∷ ls) p =
    let e = both_true (printable l) (all printable (m ∷ ls)) p in
    printable_append l (44 ∷ body (m ∷ ls)) e.0 (body_printable (m ∷ ls) e.1)

shown_digits : (b : Bool) (n : ℕ) → all_digits (shown_id b n) ≡ true
unfolding shown_id all_digits
shown_digits true n = plain_all n
shown_digits false n = refl

none_digits : all_digits [] ≡ true
unfolding all_digits
none_digits = refl

-- what holds of digits holds of each part that is digits
each_part : (P : List ℕ → Bool) → ((s : List ℕ) → all_digits s ≡ true → P s ≡ true) → (ls : List (List ℕ)) → all all_digits ls ≡ true → all P ls ≡ true
each_part P f [] d = refl
each_part P f (l ∷ ls) d = let e = both_true (all_digits l) (all all_digits ls) d in simp (f l e.0, each_part P f ls e.1)

-- ---- a written line
module _ (d : Dispute) (created : List ℕ) (digits : all_digits created ≡ true) where
  abbrev others : List (List ℕ)
  others = drop 1 (dispute_fields d created)

  -- all fields but the first are digits, or empty
  others_digits : all all_digits others ≡ true
  others_digits =
      simp (
        plain_all d.transaction,
        digits_in_all 9 d.retailer,
        digits_in_all 4 d.distributor,
        digits,
        plain_all d.file,
        digits_in_all 13 d.site,
        shown_digits (not d.once) d.id,
        none_digits,
        shown_digits d.once d.id,
        digits_in_all 4 d.code,
      )

  fields_past : all_past (dispute_fields d created) ≡ true
  unfolding past_comma
  fields_past = each_part past_comma digits_past others others_digits

  fields_printable : all printable (dispute_fields d created) ≡ true
  unfolding printable
  fields_printable = each_part printable digits_printable others others_digits

  abbrev line : List ℕ
  line = body (dispute_fields d created)

  line_is : lines_of (dispute_line d created) ≡ line ∷ []
  line_is = one_line (written "TBD") others fields_past

  fields_are : record_fields line ≡ dispute_fields d created
  unfolding record_fields
  fields_are = let f = its_fields (written "TBD") others fields_past in simp f

  is_dispute : is_no_dispute line ≡ false
  unfolding is_no_dispute
  is_dispute =
      let bytes = none_some (λ (i : ℕ). not (is_printable (get_or line i 0))) (length line) (λ j h. printable_at line j (body_printable (dispute_fields d created) fields_printable) h) in
      rw (bytes, fields_are) (ap not (is_same (written "TBD")))

-- what a dispute's numbers and its Date Created have to be: as many digits as their fields have, and a date time
module _ (d : Dispute) (created : List ℕ) (transaction : d.transaction < 10 ^ 15) (retailer : d.retailer < 10 ^ 9) (distributor : d.distributor < 10 ^ 4)
    (file : d.file < 10 ^ 15) (site : d.site < 10 ^ 13) (id : d.id < 10 ^ 15) (code : d.code < 10 ^ 4) (moment : is_some (date_time_of created) ≡ true) where
  fields_fit : fits_dispute (dispute_fields d created) ≡ true
  unfolding fits_dispute
  fields_fit =
      simp (
        id_fits d.transaction transaction,
        fixed_fits 9 d.retailer (omega arith) (omega arith) retailer,
        fixed_fits 4 d.distributor (omega arith) (omega arith) distributor,
        fits_filled_lem DateTime created moment,
        id_fits d.file file,
        fixed_fits 13 d.site (omega arith) (omega arith) site,
        shown_fits (not d.once) d.id id,
        fits_empty RecordId,
        shown_fits d.once d.id id,
        code_fits 4 d.code (omega arith) (omega arith) code,
      )

  pub written_read : read_dispute (dispute_line d created) ≡ reading 0 (dispute_fields d created)
  unfolding read_dispute is_one_line read_line read_fields
  written_read =
      let digits = (moment_digits created moment).1 in
      rw (line_is d created digits, is_dispute d created digits, fields_are d created digits, fields_fit)

  plain : (n : ℕ) → n < 10 ^ 15 → lacks_leading_zeros (plain_digits n) ≡ true
  unfolding lacks_leading_zeros
  plain n h = go (leb (length (plain_digits n)) 1) refl
    where
      go : (b : Bool) → leb (length (plain_digits n)) 1 ≡ b → b || not (eqb (get_or (plain_digits n) 0 0) 48) ≡ true
      go true e = refl
      go false e = ap not (ne_eqb (get_or (plain_digits n) 0 0) 48 (plain_first n (omega arith) (leb-false (length (plain_digits n)) 1 e)))

  shown_plain : (b : Bool) → lacks_leading_zeros (shown_id b d.id) ≡ true
  unfolding shown_id lacks_leading_zeros
  shown_plain true = plain d.id id
  shown_plain false = refl

  -- "written without leading zeros"
  pub written_plain : ids_lack_leading_zeros (dispute_fields d created) ≡ true
  unfolding lacks_leading_zeros
  written_plain = simp (plain d.transaction transaction, plain d.file file, shown_plain (not d.once), shown_plain d.once)

-- ---- a line that was read
-- a list of fields is that of its fields, one by one
gathered : ℕ → (ℕ → List ℕ) → List (List ℕ)
gathered zero f = []
gathered (suc n) f = f 0 ∷ gathered n (λ k. f (suc k))

gather : (fs : List (List ℕ)) → gathered (length fs) (λ k. get_or fs k []) ≡ fs
unfolding gathered
gather [] = refl
gather (f ∷ fs) = ap (λ (r : List (List ℕ)). f ∷ r) (gather fs)

module _ (fs : List (List ℕ)) (eleven : length fs ≡ 11) (fits : fits_dispute fs ≡ true) (zeros : ids_lack_leading_zeros fs ≡ true) where
  fields_same : fields_again fs ≡ fs
  unfolding fits_dispute gathered
  fields_same =
      let f2 = both_true _ _ fits in
      let f3 = both_true _ _ f2.1 in
      let f4 = both_true _ _ f3.1 in
      let f5 = both_true _ _ f4.1 in
      let f6 = both_true _ _ f5.1 in
      let f7 = both_true _ _ f6.1 in
      let f8 = both_true _ _ f7.1 in
      let f9 = both_true _ _ f8.1 in
      let f10 = both_true _ _ f9.1 in
      let z2 = both_true _ _ zeros in
      let z6 = both_true _ _ z2.1 in
      let z8 = both_true _ _ z6.1 in
      let z9 = both_true _ _ z8.1 in
      let e2 = id_again_lem (field_in fs 2) f2.0 z2.0 in
      let e3 = fixed_again_lem 9 (field_in fs 3) f3.0 in
      let e4 = fixed_again_lem 4 (field_in fs 4) f4.0 in
      let e5 = moment_again (field_in fs 5) f5.0 in
      let e6 = id_again_lem (field_in fs 6) f6.0 z6.0 in
      let e7 = fixed_again_lem 13 (field_in fs 7) f7.0 in
      let e8 = id_again_lem (field_in fs 8) f8.0 z8.0 in
      let e9 = id_again_lem (field_in fs 9) f9.0 z9.0 in
      let e10 = id_again_lem (field_in fs 10) f10.0 z9.1 in
      (λ i. field_in fs 1 ∷ e2 i ∷ e3 i ∷ e4 i ∷ e5 i ∷ e6 i ∷ e7 i ∷ e8 i ∷ e9 i ∷ e10 i ∷ field_in fs 11 ∷ [])
      ∙ subst (λ (n : ℕ). gathered n (λ k. get_or fs k []) ≡ fs) eleven (gather fs)

-- a reading whose number is 0 is of the one line, which has eleven fields that fit
record Accepted (bytes : List ℕ) : Type 0 where
  fields : (read_dispute bytes).fields ≡ fields_of (line_at (lines_of bytes) 0)
  eleven : length (fields_of (line_at (lines_of bytes) 0)) ≡ 11
  fits : fits_dispute (fields_of (line_at (lines_of bytes) 0)) ≡ true

-- a line of eleven fields has its fields
record_is : (line : List ℕ) → length (record_fields line) ≡ 11 → record_fields line ≡ fields_of line
unfolding record_fields
record_is line e = go (leb (length (fields_of line)) 24) e
  where
    go : (b : Bool) → length (cond b (fields_of line) []) ≡ 11 → cond b (fields_of line) [] ≡ fields_of line
    go true e = refl
    go false e = absurd (omega arith)

accepted : (bytes : List ℕ) → (read_dispute bytes).number ≡ 0 → Accepted bytes
unfolding read_dispute read_line read_fields is_no_dispute
accepted bytes e = go (is_one_line bytes) (is_no_dispute line) (fits_dispute (record_fields line)) refl refl e refl
  where
    line : List ℕ
    line = line_at (lines_of bytes) 0

    go : (one other fit : Bool) → is_no_dispute line ≡ other → fits_dispute (record_fields line) ≡ fit
        → (cond one (cond other (reading 2 []) (cond fit (reading 0 (record_fields line)) (reading 3 []))) (reading 2 [])).number ≡ 0
        → read_dispute bytes ≡ cond one (cond other (reading 2 []) (cond fit (reading 0 (record_fields line)) (reading 3 []))) (reading 2 [])
        → Accepted bytes
    go true false true n f e r =
        let bytes = (neither_of (some_below (λ (i : ℕ). not (is_printable (get_or line i 0))) (length line)) _).0 n in
        let count = (neither_of (not (eqb (length (record_fields line)) 11)) _).0 bytes.1 in
        let eleven = eqb-true (length (record_fields line)) 11 (not-false _ count.0) in
        let same = record_is line eleven in
        record { fields = ap (λ (q : Reading). q.fields) r ∙ same; eleven = rw same at eleven; fits = rw same at f }
    go true false false n f e r = absurd (omega arith)
    go true true fit n f e r = absurd (omega arith)
    go false other fit n f e r = absurd (omega arith)

pub read_written : (bytes : List ℕ) → (read_dispute bytes).number ≡ 0 → ids_lack_leading_zeros (read_dispute bytes).fields ≡ true
    → line_of 44 (fields_again (read_dispute bytes).fields) ≡ line_at (lines_of bytes) 0 ++ (10 ∷ [])
read_written bytes e z =
    let a = accepted bytes e in
    let line = line_at (lines_of bytes) 0 in
    let zeros = subst (λ (fs : List (List ℕ)). ids_lack_leading_zeros fs ≡ true) a.fields z in
    ap (λ (fs : List (List ℕ)). line_of 44 (fields_again fs)) a.fields
    ∙ ap (λ (fs : List (List ℕ)). line_of 44 fs) (fields_same (fields_of line) a.eleven a.fits zeros)
    ∙ line_again line
