-- Laws of a line whose fields are read one after the other.
--     rest_none, rest_some, rest_more    the rest of a line: none past its end; its leading field and the rest after it
--     rest_end, field_there, field_is    after k fields: there is no other, or there is, and it is the leading one of the rest
--     read_none, read_more               nothing is read; one field more is
--     read_at                            where a field stands that is read
--     code_narrow, code_type             the types of the tables are read as `readings` reads them
-- Assumes nothing.
use mathlib.Core.Path.{◌≡◌, refl, sym, ◌∙◌, ap}
use mathlib.Core.List.{List, [], ◌∷◌}
use mathlib.Core.Bool.{true}
use Prim.Native.Nat.{ℕ, ◌+◌, ◌-◌, ◌*◌, ◌≤◌, ◌<◌, zero-le}
use native.Mathlib.Nat.{add-zero}
use native.Mathlib.Omega.{arith}
use native.Mathlib.Decide.{dec_lt}
use borrow.Author.Count.{below_more}
use borrow.Author.Tests.{le-leb, lt-leb}
use lib.ListN.{length, get_or, take, drop, set, length-drop}
use lib.Seq.{drop-drop, take-take, get_or-drop, get_or-set_same, get_or-set_other}
use Rattle.lists.specs.First.{is_byte}
use Rattle.lists.proofs.First.{first_le}
use Rattle.lists.proofs.Parts.{part_length}
use Rattle.lists.proofs.Table.{every_at}
use Rattle.records.specs.Text.{cut, fields_of}
use Rattle.records.specs.InsidePlacedLines.{part, At}
use Rattle.records.proofs.Cut.{fields_more, fields_last}
use Rattle.tables.specs.Tables.{field_type}
use Rattle.tables.specs.InsideRows.{joined}
use Rattle.tables.proofs.Laws.{joined_at}
use Rattle.tables.specs.InsideCodes.{code_rows, type_of_code}
use Rattle.tables.proofs.FieldCodes.{row_type, codes_long}
use Rattle.readings.specs.declared.Reading.{Reading}
use Rattle.readings.specs.InsideLeadingBytes.{field_end, leading_field}
use Rattle.readings.specs.InsideReadings.{is_narrow, FieldRead}
use Rattle.codes_and_rows.specs.InsideFields.{FieldFits, field_after}
use Rattle.line_reader.specs.InsideLineReader.{rest_at, ReadTo}
use Rattle.lists.proofs.Selections.{is_true}

pub rest_none : (file : List ℕ) (a e : ℕ) → e < a → rest_at file a e ≡ []
unfolding rest_at
rest_none file a e h = rw (lt-leb a e h)

pub rest_some : (file : List ℕ) (a e : ℕ) → a ≤ e → rest_at file a e ≡ cut 44 (part file a e)
unfolding rest_at
rest_some file a e h = rw (le-leb a e h)

-- the field that begins at a, of a line that ends at e
module _ (file : List ℕ) (a e : ℕ) (low : a ≤ e) (high : e ≤ length file) where
  pub end_inside : a + field_end (part file a e) ≤ e
  end_inside = omega (arith, first_le (is_byte 44) (part file a e), part_length file a e high)

  pub field_part : leading_field (part file a e) ≡ part file a (a + field_end (part file a e))
  field_part =
      take-take (field_end (part file a e)) (e - a) (drop a file) (omega (arith, end_inside))
      ∙ ap (λ (k : ℕ). take k (drop a file)) (let size : field_end (part file a e) ≡ a + field_end (part file a e) - a = omega arith in size)

  pub rest_more : rest_at file a e ≡ leading_field (part file a e) ∷ rest_at file (a + field_end (part file a e) + 1) e
  rest_more = rest_some file a e low ∙ go (dec_lt (a + field_end (part file a e)) e)
    where
      go : Dec (a + field_end (part file a e) < e) → cut 44 (part file a e) ≡ leading_field (part file a e) ∷ rest_at file (a + field_end (part file a e) + 1) e
      go (yes l) =
          fields_more file a (a + field_end (part file a e)) e low high refl l
          ∙ rw (sym field_part, rest_some file (a + field_end (part file a e) + 1) e (omega (arith, l)))
      go (no l) =
          fields_last file a (a + field_end (part file a e)) e low high refl (omega (arith, l, end_inside))
          ∙ rw (sym field_part, rest_none file (a + field_end (part file a e) + 1) e (omega (arith, l, end_inside)))

-- ---- an element and the others after it, at place k of a list
module _ {A : Type 0} (xs : List A) (k : ℕ) (x : A) (others : List A) (q : drop k xs ≡ x ∷ others) where
  place_inside : k < length xs
  place_inside = omega (arith, ap length q, length-drop k xs)

  at_place : (d : A) → get_or xs k d ≡ x
  at_place d = ap (λ (n : ℕ). get_or xs n d) (sym (add-zero k)) ∙ sym (get_or-drop k xs 0 d) ∙ ap (λ (l : List A). get_or l 0 d) q

  after_place : drop (k + 1) xs ≡ others
  after_place = sym (drop-drop 1 k xs) ∙ ap (λ (l : List A). drop 1 l) q

-- ---- the field after k others
module _ {file line : List ℕ} {type k a e : ℕ} {numbers bs es : List ℕ} (r : ReadTo file line type k a e numbers bs es) where
  pub rest_end : e < a → length (fields_of line) ≡ k
  rest_end h = omega (arith, ap length (r.rest ∙ rest_none file a e h), length-drop k (fields_of line), r.some)

  module _ (low : a ≤ e) (high : e ≤ length file) where
    here : drop k (fields_of line) ≡ leading_field (part file a e) ∷ rest_at file (a + field_end (part file a e) + 1) e
    here = r.rest ∙ rest_more file a e low high

    pub field_there : k < length (fields_of line)
    field_there = place_inside _ k _ _ here

    pub field_is : field_after line k ≡ leading_field (part file a e)
    field_is = at_place _ k _ _ here []

    -- one field more is read
    pub read_more : (len n : ℕ) → len ≡ field_end (part file a e) → k + 1 < length numbers → k < length bs → k < length es → FieldFits type k (leading_field (part file a e)) n
        → ReadTo file line type (k + 1) (a + len + 1) e (set numbers (k + 1) n) (set bs k a) (set es k (a + len))
    read_more len n q room roomb roome fits =
        record {
          some = omega (arith, field_there);
          rest = after_place _ k _ _ here ∙ ap (λ (m : ℕ). rest_at file (a + m + 1) e) (sym q);
          stands = below_more (λ (j : ℕ). FieldFits type j (field_after line j) (get_or (set numbers (k + 1) n) (j + 1) 0)) k
              (λ j l. rw (get_or-set_other numbers (k + 1) (j + 1) n 0 (λ z. omega (arith, z))) (r.stands j l))
              (rw (get_or-set_same numbers (k + 1) n 0 room, field_is) fits);
          placed = below_more (λ (j : ℕ). At file (get_or (set bs k a) j 0) (get_or (set es k (a + len)) j 0) (field_after line j)) k
              (λ j l. rw (get_or-set_other bs k j a 0 (λ z. omega (arith, z)), get_or-set_other es k j (a + len) 0 (λ z. omega (arith, z))) (r.placed j l))
              (rw (get_or-set_same bs k a 0 roomb, get_or-set_same es k (a + len) 0 roome, field_is)
              (record { low = omega arith; high = omega (arith, end_inside file a e low high, q); same = ap (λ (m : ℕ). part file a (a + m)) q ∙ sym (field_part file a e low high) }));
        }

-- nothing is read yet
pub read_none : (file : List ℕ) (a e type : ℕ) (numbers bs es : List ℕ) → a ≤ e → ReadTo file (part file a e) type 0 a e numbers bs es
read_none file a e type numbers bs es h =
    record { some = zero-le; rest = sym (rest_some file a e h); stands = λ j l. absurd (omega arith); placed = λ j l. absurd (omega arith) }

-- where a field stands that is read
pub read_at : (file : List ℕ) (a e len : ℕ) → a ≤ e → e ≤ length file → len ≡ field_end (part file a e) → (f : List ℕ) → f ≡ leading_field (part file a e) → At file a (a + len) f
read_at file a e len low high q f is =
    record { low = omega arith; high = omega (arith, end_inside file a e low high, q); same = ap (λ (m : ℕ). part file a (a + m)) q ∙ sym (field_part file a e low high) ∙ sym is }

-- ---- the types of the tables
module _ (type k : ℕ) (known : type < 9) (small : k < 19) {codes : List ℕ} (lent : codes ≡ joined code_rows) where
  pub code_narrow : is_narrow (type_of_code (get_or codes (type * 19 + k) 0)) ≡ true
  unfolding is_narrow type_of_code
  code_narrow = rw lent (is_true _ (every_at (λ (i x : ℕ). is_narrow (type_of_code x)) (joined code_rows) 171 (type * 19 + k) (omega arith) tt refl))

  pub code_type : type_of_code (get_or codes (type * 19 + k) 0) ≡ field_type type k
  code_type = rw lent (ap type_of_code (joined_at 19 code_rows codes_long type k 0 known small) ∙ row_type type k known small)

-- a field that is read fits, and says its number
pub field_fits : {type k : ℕ} {t : _} {s : List ℕ} {r : Reading} → t ≡ field_type type k → FieldRead t s r → FieldFits type k (leading_field s) r.number
field_fits e read = record { fits = rw (sym e) read.fits; says = rw (sym e) read.says }
