-- The first three fields of a line, read one after the other.
--     first_miss, second_miss, third_miss        one does not fit: the line fails test 2 or 3
--     first_last, second_last, head_unknown      there are fewer, or the type is unknown: it does too
--     first_inside, second_inside, third_inside  where they end
--     head_all                                   all three are read
--     head_read                                  and their places are stored
-- Assumes nothing.
use mathlib.Core.Path.{◌≡◌, refl, sym, ◌∙◌, ap, subst}
use mathlib.Core.List.{List}
use mathlib.Core.Bool.{true, false, not}
use Prim.Native.Nat.{ℕ, zero, suc, ◌+◌, ◌≤◌, ◌<◌}
use native.Mathlib.Omega.{arith}
use lib.Dec.{leb, leb→le}
use lib.ListN.{length, get_or, set, length-set}
use lib.Seq.{get_or-set_same, get_or-set_other}
use Rattle.lists.specs.Below.{some_below}
use Rattle.lists.proofs.AllBelow.{at_below}
use Rattle.lists.proofs.Table.{every_at}
use Rattle.records.specs.InsidePlacedLines.{part, At}
use Rattle.tables.specs.Types.{type_named}
use Rattle.fields.specs.Fields.{fits_type}
use Rattle.fields.specs.declared.FieldType.TheVariants.{RecordId, Char}
use Rattle.tables.specs.Tables.{field_counts, field_count, field_type}
use Rattle.format.specs.Format.{is_printable}
use Rattle.readings.specs.declared.Reading.{Reading}
use Rattle.readings.specs.InsideLeadingBytes.{leading_field}
use Rattle.readings.proofs.Ends.{field_length}
use Rattle.readings.specs.InsideReadings.{FieldRead}
use Rattle.codes_and_rows.specs.InsideFields.{field_after}
use Rattle.line_reader.specs.declared.Head.{Head}
use Rattle.line_reader.specs.InsideLineReader.{unread, head_filled, LineLent, ReadTo, HeadRead}
use Rattle.line_reader.proofs.Fields.{end_inside, field_part, rest_end, field_there, field_is, read_none, read_more, read_at, field_fits}
use Rattle.line_reader.proofs.Filled.{head_filled_lem}
use Rattle.line_reader.proofs.Unread.{unknown_type, few_fields, unfit_head}

-- ---- the tables
-- every type has at least five fields
pub count_least : (type : ℕ) → type < 9 → 5 ≤ field_count type
unfolding field_count
count_least type h = leb→le 5 (get_or field_counts type 0) (every_at (λ (k x : ℕ). leb 5 x) field_counts 9 type h tt refl)

-- the types of the first three fields
HeadTypes : ℕ → Type 0
HeadTypes type = (field_type type 0 ≡ RecordId) × (field_type type 1 ≡ RecordId) × (field_type type 2 ≡ Char 2)

head_types : (type : ℕ) → type < 9 → (field_type type 0 ≡ RecordId) × (field_type type 1 ≡ RecordId) × (field_type type 2 ≡ Char 2)
unfolding field_type HeadTypes
head_types type h =
    at_below HeadTypes 9
    (((((((((tt, (refl, refl, refl)), (refl, refl, refl)), (refl, refl, refl)), (refl, refl, refl)), (refl, refl, refl)), (refl, refl, refl)), (refl, refl, refl)), (refl, refl, refl)), (refl, refl, refl))
    type h

-- ---- the first three fields of the line from a to e, read one after the other
module _ {file : List ℕ} {a e : ℕ} {numbers : List ℕ} (lent : LineLent file a e numbers) where
  low : a ≤ e
  low = lent.low

  high : e ≤ length file
  high = lent.high

  size : length numbers ≡ 24
  size = lent.size

  none : (type : ℕ) → ReadTo file (part file a e) type 0 a e numbers numbers numbers
  none type = read_none file a e type numbers numbers numbers low

  pub first_miss : fits_type RecordId (leading_field (part file a e)) ≡ false → unread (part file a e) ≡ true
  first_miss m = unfit_head (part file a e) 0 RecordId (λ t h. (head_types t h).0) (field_there (none 0) low high) (rw (field_is (none 0) low high) m)

  module _ {id : Reading} (read1 : FieldRead RecordId (part file a e) id) where
    one : (type : ℕ) → type < 9 → ReadTo file (part file a e) type 1 (a + id.len + 1) e (set numbers 1 id.number) (set numbers 0 a) (set numbers 0 (a + id.len))
    one type h = read_more (none type) low high id.len id.number read1.ends (omega (arith, size)) (omega (arith, size)) (omega (arith, size)) (field_fits (sym (head_types type h).0) read1)

    pub first_inside : a + id.len ≤ e
    first_inside = omega (arith, end_inside file a e low high, read1.ends)

    pub first_last : e ≤ a + id.len → unread (part file a e) ≡ true
    first_last h = few_fields (part file a e) (omega (arith, rest_end (one 0 (omega arith)) (omega arith)))

    module _ (more1 : a + id.len < e) where
      low2 : a + id.len + 1 ≤ e
      low2 = omega (arith, more1)

      pub second_miss : fits_type RecordId (leading_field (part file (a + id.len + 1) e)) ≡ false → unread (part file a e) ≡ true
      second_miss m = unfit_head (part file a e) 1 RecordId (λ t h. (head_types t h).1) (field_there (one 0 (omega arith)) low2 high) (rw (field_is (one 0 (omega arith)) low2 high) m)

      module _ {parent : Reading} (read2 : FieldRead RecordId (part file (a + id.len + 1) e) parent) where
        two : (type : ℕ) → type < 9
            → ReadTo file (part file a e) type 2 (a + id.len + 1 + parent.len + 1) e (set (set numbers 1 id.number) 2 parent.number) (set (set numbers 0 a) 1 (a + id.len + 1)) (set (set numbers 0 (a + id.len)) 1 (a + id.len + 1 + parent.len))
        two type h =
            read_more (one type h) low2 high parent.len parent.number read2.ends (rw length-set (omega (arith, size))) (rw length-set (omega (arith, size))) (rw length-set (omega (arith, size)))
            (field_fits (sym (head_types type h).1) read2)

        pub second_inside : a + id.len + 1 + parent.len ≤ e
        second_inside = omega (arith, end_inside file (a + id.len + 1) e low2 high, read2.ends)

        pub second_last : e ≤ a + id.len + 1 + parent.len → unread (part file a e) ≡ true
        second_last h = few_fields (part file a e) (omega (arith, rest_end (two 0 (omega arith)) (omega arith)))

        module _ (more2 : a + id.len + 1 + parent.len < e) where
          abbrev d : ℕ
          d = a + id.len + 1 + parent.len + 1

          low3 : d ≤ e
          low3 = omega (arith, more2)

          third_is : field_after (part file a e) 2 ≡ leading_field (part file d e)
          third_is = field_is (two 0 (omega arith)) low3 high

          pub third_miss : fits_type (Char 2) (leading_field (part file d e)) ≡ false → unread (part file a e) ≡ true
          third_miss m = unfit_head (part file a e) 2 (Char 2) (λ t h. (head_types t h).2) (field_there (two 0 (omega arith)) low3 high) (rw third_is m)

          module _ {name : Reading} (read3 : FieldRead (Char 2) (part file d e) name) where
            pub third_inside : d + name.len ≤ e
            third_inside = omega (arith, end_inside file d e low3 high, read3.ends)

            third_part : part file d (d + name.len) ≡ field_after (part file a e) 2
            third_part = ap (λ (m : ℕ). part file d (d + m)) read3.ends ∙ sym (field_part file d e low3 high) ∙ sym third_is

            pub head_unknown : 9 ≤ type_named (part file d (d + name.len)) → unread (part file a e) ≡ true
            head_unknown h = unknown_type (part file a e) (subst (λ (l : List ℕ). 9 ≤ type_named l) third_part h)

            pub head_all : (r : Head) → some_below (λ (i : ℕ). not (is_printable (get_or (part file a e) i 0))) (length (part file a e)) ≡ false → r.record_type ≡ type_named (part file d (d + name.len)) → r.id_end ≡ a + id.len → r.parent_end ≡ a + id.len + 1 + parent.len → r.type_end ≡ d + name.len → r.filled ≡ head_filled r.record_type id.len parent.len → r.record_type < 9
                → HeadRead file (part file a e) a e r (set (set (set numbers 1 id.number) 2 parent.number) 3 name.number)
            head_all r c t i p q f known =
                let all = read_more (two r.record_type known) low3 high name.len name.number read3.ends (rw (length-set, length-set) (omega (arith, size))) (rw (length-set, length-set) (omega (arith, size))) (rw (length-set, length-set) (omega (arith, size)))
                (field_fits (sym (head_types r.record_type known).2) read3) in
                let named = t ∙ ap type_named third_part in
                record {
                  printable = c;
                  type = named;
                  size = rw (length-set, length-set, length-set) size;
                  none = get_or-set_other (set (set numbers 1 id.number) 2 parent.number) 3 0 name.number 0 (λ z. omega (arith, z))
                      ∙ get_or-set_other (set numbers 1 id.number) 2 0 parent.number 0 (λ z. omega (arith, z))
                      ∙ get_or-set_other numbers 1 0 id.number 0 (λ z. omega (arith, z))
                      ∙ lent.none;
                  inside = rw q third_inside;
                  some = all.some;
                  rest = rw q all.rest;
                  stands = all.stands;
                  first = rw i (read_at file a e id.len low high read1.ends _ (field_is (none 0) low high));
                  second = rw (i, p) (read_at file (a + id.len + 1) e parent.len low2 high read2.ends _ (field_is (one 0 (omega arith)) low2 high));
                  third = rw (p, q) (read_at file d e name.len low3 high read3.ends _ third_is);
                  filled = f ∙ head_filled_lem r.record_type (part file a e) known named
                      (read1.ends ∙ sym (ap length (field_is (none 0) low high) ∙ field_length (part file a e)))
                      (read2.ends ∙ sym (ap length (field_is (one 0 (omega arith)) low2 high) ∙ field_length (part file (a + id.len + 1) e)));
                  known = known;
                }

-- the places of the first three fields
pub head_read : {file line : List ℕ} {a e : ℕ} {r : Head} {numbers : List ℕ} → HeadRead file line a e r numbers → (bs es : List ℕ) → length bs ≡ 24 → length es ≡ 24
    → ReadTo file line r.record_type 3 (r.type_end + 1) e numbers (set (set (set bs 0 a) 1 (r.id_end + 1)) 2 (r.parent_end + 1)) (set (set (set es 0 r.id_end) 1 r.parent_end) 2 r.type_end)
head_read {file} {line} {a} {e} {r} {numbers} h bs es lb le = record { some = h.some; rest = h.rest; stands = h.stands; placed = placed }
  where
    placed : (j : ℕ) → j < 3
        → At file (get_or (set (set (set bs 0 a) 1 (r.id_end + 1)) 2 (r.parent_end + 1)) j 0) (get_or (set (set (set es 0 r.id_end) 1 r.parent_end) 2 r.type_end) j 0) (field_after line j)
    placed zero l =
        rw (
          get_or-set_other (set (set bs 0 a) 1 (r.id_end + 1)) 2 0 (r.parent_end + 1) 0 (λ z. omega (arith, z)),
          get_or-set_other (set bs 0 a) 1 0 (r.id_end + 1) 0 (λ z. omega (arith, z)),
          get_or-set_same bs 0 a 0 (omega (arith, lb)),
          get_or-set_other (set (set es 0 r.id_end) 1 r.parent_end) 2 0 r.type_end 0 (λ z. omega (arith, z)),
          get_or-set_other (set es 0 r.id_end) 1 0 r.parent_end 0 (λ z. omega (arith, z)),
          get_or-set_same es 0 r.id_end 0 (omega (arith, le)),
        ) h.first
    placed (suc zero) l =
        rw (
          get_or-set_other (set (set bs 0 a) 1 (r.id_end + 1)) 2 1 (r.parent_end + 1) 0 (λ z. omega (arith, z)),
          get_or-set_same (set bs 0 a) 1 (r.id_end + 1) 0 (rw length-set (omega (arith, lb))),
          get_or-set_other (set (set es 0 r.id_end) 1 r.parent_end) 2 1 r.type_end 0 (λ z. omega (arith, z)),
          get_or-set_same (set es 0 r.id_end) 1 r.parent_end 0 (rw length-set (omega (arith, le))),
        ) h.second
    placed (suc (suc zero)) l =
        rw (
          get_or-set_same (set (set bs 0 a) 1 (r.id_end + 1)) 2 (r.parent_end + 1) 0 (rw (length-set, length-set) (omega (arith, lb))),
          get_or-set_same (set (set es 0 r.id_end) 1 r.parent_end) 2 r.type_end 0 (rw (length-set, length-set) (omega (arith, le))),
        ) h.third
    placed (suc (suc (suc j))) l = absurd (omega arith)
