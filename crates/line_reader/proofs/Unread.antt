-- What makes a line fail test 2 or 3, and what such a line makes of the file's first.
--     unread_bytes, unread_count, unread_field    what makes a line fail
--     unknown_type, few_fields, unfit_head        and of its first three fields
--     few_type                                    the type of a line that has at most 24 fields
--     read_line_lem                                   a line of which nothing does
--     read_passes                                 a line that doesn't fail passes both tests
--     first_here, first_none                      the first line that fails a test, by those before it
--     formatted_before, stopped_unfit, all_pass   what tests 2 and 3 answer, by the first line that fails either
-- Assumes nothing.
use mathlib.Core.Path.{◌≡◌, refl, sym, ◌∙◌, ap}
use mathlib.Core.List.{List, []}
use mathlib.Core.Bool.{Bool, true, false, not, ◌||◌, false≢true}
use mathlib.Core.Logic.{inr}
use Prim.Native.Nat.{ℕ, ◌≤◌, ◌<◌}
use native.Mathlib.Omega.{arith}
use native.Mathlib.Decide.{dec_lt}
use borrow.Author.Tests.{le-leb, lt-leb, ne_eqb, eq-eqb}
use lib.Dec.{eqb, leb}
use lib.ListN.{length, get_or, get_or-eq_default}
use Rattle.lists.specs.Below.{first_below, some_below}
use Rattle.lists.proofs.Selections.{neither, either}
use Rattle.lists.proofs.Below.{first_holds, first_least, first_is, none_below, none_is_end, some_is, none_some}
use Rattle.records.specs.Text.{fields_of}
use Rattle.tables.specs.Types.{type_named}
use Rattle.fields.specs.Fields.{fits_type}
use Rattle.fields.specs.declared.FieldType.{FieldType}
use Rattle.tables.specs.Tables.{field_count, field_type}
use Rattle.records.specs.Records.{record_fields, field, type_in}
use Rattle.records.proofs.Laws.{fields_few, fields_many, field_at, field_none}
use Rattle.format.specs.Format.{is_printable, line_at, unformatted, first_unformatted, some_field, unfit, first_unfit}
use Rattle.codes_and_rows.specs.InsideFields.{field_after}
use Rattle.line_reader.specs.InsideLineReader.{unread, first_unread}

-- ---- a line
or_first : (a b : Bool) → a ≡ true → a || b ≡ true
or_first true b e = refl
or_first false b e = absurd (false≢true e)

module _ (line : List ℕ) where
  unread_format : unformatted line ≡ true → unread line ≡ true
  unfolding unread
  unread_format e = or_first (unformatted line) (some_field unfit line) e

  pub unread_bytes : some_below (λ (i : ℕ). not (is_printable (get_or line i 0))) (length line) ≡ true → unread line ≡ true
  unfolding unformatted
  unread_bytes e = unread_format (or_first (some_below (λ (i : ℕ). not (is_printable (get_or line i 0))) (length line)) (leb 9 (type_in line) || not (eqb (length (record_fields line)) (field_count (type_in line)))) e)

  pub unread_type : 9 ≤ type_in line → unread line ≡ true
  unfolding unformatted
  unread_type h =
      unread_format
      (either (some_below (λ (i : ℕ). not (is_printable (get_or line i 0))) (length line)) (leb 9 (type_in line) || not (eqb (length (record_fields line)) (field_count (type_in line))))
      (or_first (leb 9 (type_in line)) (not (eqb (length (record_fields line)) (field_count (type_in line)))) (le-leb 9 (type_in line) h)))

  unread_length : (length (record_fields line) ≡ field_count (type_in line) → ⊥) → unread line ≡ true
  unfolding unformatted
  unread_length n =
      unread_format
      (either (some_below (λ (i : ℕ). not (is_printable (get_or line i 0))) (length line)) (leb 9 (type_in line) || not (eqb (length (record_fields line)) (field_count (type_in line))))
      (either (leb 9 (type_in line)) (not (eqb (length (record_fields line)) (field_count (type_in line)))) (ap not (ne_eqb _ _ n))))

  unread_unfit : (k : ℕ) → k < length (record_fields line) → unfit line k ≡ true → unread line ≡ true
  unfolding unread
  unread_unfit k h e = either (unformatted line) (some_field unfit line) (some_is (unfit line) (length (record_fields line)) k h e)

  module _ (type : ℕ) (named : type ≡ type_named (field_after line 2)) where
    -- where the line has at most 24 fields its record has just these, and their type
    pub few_type : length (fields_of line) ≤ 24 → type_in line ≡ type
    unfolding type_in
    few_type h = ap type_named (field_at line 2 ∙ ap (λ (fields : List (List ℕ)). get_or fields 2 []) (fields_few line h)) ∙ sym named

    pub many_type : 24 < length (fields_of line) → 9 ≤ type_in line
    unfolding type_in type_named
    many_type h =
        let none : field 3 line ≡ [] = field_none line 3 (inr (rw (fields_many line h) (omega arith))) in
        let z : type_named (field 3 line) ≡ 9 = rw none in
        omega (arith, z)

    pub unread_count : (length (fields_of line) ≡ field_count type → ⊥) → unread line ≡ true
    unread_count n = go (dec_lt 24 (length (fields_of line)))
      where
        go : Dec (24 < length (fields_of line)) → unread line ≡ true
        go (yes h) = unread_type (many_type h)
        go (no h) =
            let few : length (fields_of line) ≤ 24 = omega (arith, h) in
            unread_length (λ z. n (sym (ap length (fields_few line few)) ∙ z ∙ ap field_count (few_type few)))

    pub unread_field : (k : ℕ) → k < length (fields_of line) → fits_type (field_type type k) (field_after line k) ≡ false → unread line ≡ true
    unfolding unfit
    unread_field k l e = go (dec_lt 24 (length (fields_of line)))
      where
        go : Dec (24 < length (fields_of line)) → unread line ≡ true
        go (yes h) = unread_type (many_type h)
        go (no h) =
            let few : length (fields_of line) ≤ 24 = omega (arith, h) in
            let same = fields_few line few in
            unread_unfit k (rw same l)
            (rw (few_type few, field_at line k, same, e))

    -- nothing makes it fail
    pub read_line_lem : type < 9 → field_count type ≤ 24 → some_below (λ (i : ℕ). not (is_printable (get_or line i 0))) (length line) ≡ false → length (fields_of line) ≡ field_count type
        → ((j : ℕ) → j < field_count type → fits_type (field_type type j) (field_after line j) ≡ true) → unread line ≡ false
    unfolding unread unformatted unfit
    read_line_lem known few24 printable counted fits =
        let few : length (fields_of line) ≤ 24 = omega (arith, counted, few24) in
        let same = fields_few line few in
        let is = few_type few in
        let none : some_field unfit line ≡ false
        = none_some (unfit line) (length (record_fields line)) (λ k h. rw (is, field_at line k, same) (ap not (fits k (omega (arith, ap length same, counted, h))))) in
        rw (none, printable, is, lt-leb 9 type known, eq-eqb (length (record_fields line)) (field_count type) (ap length same ∙ counted))

-- ---- a line whose first three fields can't be read
module _ (line : List ℕ) where
  pub unknown_type : 9 ≤ type_named (field_after line 2) → unread line ≡ true
  unknown_type h = go (dec_lt 24 (length (fields_of line)))
    where
      go : Dec (24 < length (fields_of line)) → unread line ≡ true
      go (yes l) = unread_type line (many_type line (type_named (field_after line 2)) refl l)
      go (no l) = unread_type line (rw (few_type line (type_named (field_after line 2)) refl (omega (arith, l))) h)

  pub few_fields : length (fields_of line) < 3 → unread line ≡ true
  unfolding type_named
  few_fields h =
      let none : field_after line 2 ≡ [] = get_or-eq_default (fields_of line) [] {n = 2} (omega arith) in
      let nine : type_named (field_after line 2) ≡ 9 = rw none in
      unknown_type (omega (arith, nine))

  pub unfit_head : (j : ℕ) (t : FieldType) → ((type : ℕ) → type < 9 → field_type type j ≡ t) → j < length (fields_of line) → fits_type t (field_after line j) ≡ false → unread line ≡ true
  unfit_head j t same h e = go (dec_lt (type_named (field_after line 2)) 9)
    where
      go : Dec (type_named (field_after line 2) < 9) → unread line ≡ true
      go (yes l) = unread_field line (type_named (field_after line 2)) refl j h (rw (same (type_named (field_after line 2)) l) e)
      go (no l) = unknown_type (omega (arith, l))

-- ---- a line that passes
pub read_passes : (line : List ℕ) → unread line ≡ false → (unformatted line ≡ false) × (some_field unfit line ≡ false)
unfolding unread
read_passes line e = neither (unformatted line) (some_field unfit line) e

-- ---- the first line that fails a test, by those before it
module _ (fails : List ℕ → Bool) (lines : List (List ℕ)) (i : ℕ) (before : (j : ℕ) → j < i → fails (line_at lines j) ≡ false) where
  pub first_here : i < length lines → fails (line_at lines i) ≡ true → i ≡ first_below (λ (j : ℕ). fails (line_at lines j)) (length lines)
  first_here h e = sym (first_is (λ (j : ℕ). fails (line_at lines j)) (length lines) i h e before)

  pub first_none : i ≡ length lines → i ≡ first_below (λ (j : ℕ). fails (line_at lines j)) (length lines)
  first_none e = e ∙ sym (none_is_end (λ (j : ℕ). fails (line_at lines j)) (length lines) (λ j h. before j (omega (arith, e))))

-- ---- tests 2 and 3 of a file, by the first line that fails either
module _ (lines : List (List ℕ)) where
  passes_before : (i : ℕ) → i < first_unread lines → (unformatted (line_at lines i) ≡ false) × (some_field unfit (line_at lines i) ≡ false)
  unfolding first_unread
  passes_before i h = read_passes (line_at lines i) (first_least (λ (j : ℕ). unread (line_at lines j)) (length lines) i h)

  -- the lines before it pass test 2
  pub formatted_before : (i : ℕ) → i < first_unread lines → unformatted (line_at lines i) ≡ false
  formatted_before i h = (passes_before i h).0

  -- where no line fails test 2, it is the first that fails test 3
  pub stopped_unfit : first_unread lines < length lines → first_unformatted lines ≡ length lines → first_unfit lines ≡ first_unread lines
  unfolding first_unread first_unformatted unread
  stopped_unfit h none =
      let i = first_below (λ (j : ℕ). unread (line_at lines j)) (length lines) in
      let here : unread (line_at lines i) ≡ true = first_holds (λ (j : ℕ). unread (line_at lines j)) (length lines) h in
      let formatted : unformatted (line_at lines i) ≡ false = none_below (λ (j : ℕ). unformatted (line_at lines j)) (length lines) none i h in
      first_is (λ (j : ℕ). some_field unfit (line_at lines j)) (length lines) i h (rw formatted at here) (λ j l. (passes_before j l).1)

  -- where there is none, no line fails either
  pub all_pass : first_unread lines ≡ length lines → (first_unformatted lines ≡ length lines) × (first_unfit lines ≡ length lines)
  unfolding first_unformatted
  all_pass e = (
    none_is_end (λ (j : ℕ). unformatted (line_at lines j)) (length lines) (λ j h. (passes_before j (omega (arith, e))).0),
    none_is_end (λ (j : ℕ). some_field unfit (line_at lines j)) (length lines) (λ j h. (passes_before j (omega (arith, e))).1),
  )
