-- What the tests ask for, in plain terms. Each law says exactly which lines pass: a test that answers the number of lines found none that fails.
--     test_2    every line is formatted: bytes 32 to 126, a known type, as many fields as its table
--     test_3    every field of every line fits its type
--     test_4    the first type is FH, the last FT, and each other may follow the one before it
--     test_5    the mandatory fields are filled, but FH's Parent ID is empty
--     test_7    the commodity is EL or NG, the unit its own, Cancel Indicator and GST exemption Y or N
-- Assumes nothing.
use mathlib.Core.Path.{◌≡◌, refl, sym, ◌∙◌, ap, subst}
use mathlib.Core.List.{List, [], ◌∷◌, map}
use mathlib.Core.Logic.Iff
use mathlib.Core.Logic.{◌↔◌, ◌⊎◌, inl, inr, ⊎_elim}
use mathlib.Core.Bool.{Bool, true, false, cond, not, ◌&&◌, ◌||◌, true≢false, or-true}
use Prim.Native.Nat.{ℕ, zero, suc, ◌+◌, ◌-◌, ◌≤◌, ◌<◌}
use native.Mathlib.Nat.{le_of_suc-le-suc}
use native.Mathlib.Omega.{arith}
use native.Mathlib.Decide.{dec_lt}
use borrow.Author.Tests.{leb-true, leb-false, le-leb, lt-leb, eqb-true, eqb-false, eq-eqb, ne_eqb, not-true}
use lib.Dec.{eqb, leb}
use lib.ListN.{length, get_or, length-map}
use Rattle.lists.specs.Below.{first_from, first_below, some_below}
use Rattle.lists.specs.Bytes.{same_bytes}
use Rattle.lists.specs.Written.{written}
use Rattle.fields.specs.Fields.{fits_type}
use Rattle.records.specs.Text.{fields_of}
use Rattle.tables.specs.Types.{FH, FT, may_follow}
use Rattle.records.specs.Records.{record_fields, field, type_in}
use Rattle.tables.specs.Tables.{field_count, field_type, is_mandatory}
use Rattle.records.proofs.Laws.{fields_known, field_none}
use Rattle.format.specs.Meaning.{Formatted, Fitting, Ordered, Filled, Where, Coded}
use Rattle.format.specs.Format.{line_at, is_empty, is_printable, unformatted, first_unformatted, unfit, first_unfit, unfilled, first_unfilled, misplaced, first_misplaced, commodity_fields, unit_fields, cancel_fields, exemption_fields, neither, unit_of, miscoded, first_miscoded}
use Rattle.lists.proofs.Reflected.{none_fails, some_fails, neither_of, not_both, both_of, denied, same_bytes_is, empty_is}

-- ════ 2
printable_is : (b : ℕ) → (not (is_printable b) ≡ false) ↔ ((32 ≤ b) × (b ≤ 126))
printable_is b = (
  λ e. let q = (both_of (leb 32 b) (leb b 126)).0 ((denied (is_printable b)).0 e) in (leb-true 32 b q.0, leb-true b 126 q.1),
  λ h. rw (le-leb 32 b h.0, le-leb b 126 h.1),
)

formatted_is : (line : List ℕ) → (unformatted line ≡ false) ↔ Formatted line
unfolding unformatted
formatted_is line = (passes, holds)
  where
    bytes : (some_below (λ (i : ℕ). not (is_printable (get_or line i 0))) (length line) ≡ false) ↔ ((k : ℕ) → k < length line → (32 ≤ get_or line k 0) × (get_or line k 0 ≤ 126))
    bytes = some_fails (λ (i : ℕ). not (is_printable (get_or line i 0))) (λ (k : ℕ). (32 ≤ get_or line k 0) × (get_or line k 0 ≤ 126)) (λ k. printable_is (get_or line k 0)) (length line)

    passes : unformatted line ≡ false → Formatted line
    passes e =
        let q = (neither_of (some_below (λ (i : ℕ). not (is_printable (get_or line i 0))) (length line)) _).0 e in
        let r = (neither_of (leb 9 (type_in line)) _).0 q.1 in
        let known : type_in line < 9 = leb-false 9 (type_in line) r.0 in
        record {
          printable = bytes.0 q.0;
          known = known;
          count = rw (fields_known line known) at (eqb-true (length (record_fields line)) (field_count (type_in line)) ((denied (eqb (length (record_fields line)) (field_count (type_in line)))).0 r.1));
        }

    holds : Formatted line → unformatted line ≡ false
    holds h = rw (bytes.1 h.printable, lt-leb 9 (type_in line) h.known, fields_known line h.known, eq-eqb (length (fields_of line)) (field_count (type_in line)) h.count)

pub test_2 : (lines : List (List ℕ)) → (first_unformatted lines ≡ length lines) ↔ ((i : ℕ) → i < length lines → Formatted (line_at lines i))
unfolding first_unformatted
test_2 lines = none_fails (λ (i : ℕ). unformatted (line_at lines i)) (λ (i : ℕ). Formatted (line_at lines i)) (λ i. formatted_is (line_at lines i)) (length lines)

-- ════ 3: fields are counted from 1 in the tables, and k from 0
fitting_is : (line : List ℕ) (k : ℕ) → (unfit line k ≡ false) ↔ (fits_type (field_type (type_in line) k) (field (k + 1) line) ≡ true)
unfolding unfit
fitting_is line k = denied (fits_type (field_type (type_in line) k) (field (k + 1) line))

pub test_3 : (lines : List (List ℕ)) → (first_unfit lines ≡ length lines) ↔ ((i : ℕ) → i < length lines → Fitting (line_at lines i))
test_3 lines =
    none_fails (λ (i : ℕ). some_below (unfit (line_at lines i)) (length (record_fields (line_at lines i)))) (λ (i : ℕ). Fitting (line_at lines i))
    (λ i. some_fails (unfit (line_at lines i)) (λ (k : ℕ). fits_type (field_type (type_in (line_at lines i)) k) (field (k + 1) (line_at lines i)) ≡ true) (fitting_is (line_at lines i)) (length (record_fields (line_at lines i))))
    (length lines)

-- ════ 4: of the lines of a file that has one
-- the type at place i may stand there
record Placeable (types : List ℕ) (i : ℕ) : Type 0 where
  first : i ≡ 0 → get_or types 0 0 ≡ FH
  later : (i ≡ 0 → ⊥) → may_follow (get_or types (i - 1) 0) (get_or types i 0) ≡ true
  last : i + 1 ≡ length types → get_or types i 0 ≡ FT

placeable_is : (types : List ℕ) (i : ℕ) → (misplaced types i ≡ false) ↔ Placeable types i
unfolding misplaced
placeable_is types i = (passes, λ h. rw (start h (eqb i 0) refl, end h) refl)
  where
    begins : Bool → Bool
    begins t = cond t (not (eqb (get_or types 0 0) FH)) (not (may_follow (get_or types (i - 1) 0) (get_or types i 0)))

    ends : Bool
    ends = eqb (i + 1) (length types) && not (eqb (get_or types i 0) FT)

    passes : misplaced types i ≡ false → Placeable types i
    passes e =
        let q = (neither_of (begins (eqb i 0)) ends).0 e in
        record {
          first = λ z. eqb-true (get_or types 0 0) FH ((denied (eqb (get_or types 0 0) FH)).0 (rw (eq-eqb i 0 z) at q.0));
          later = λ z. (denied (may_follow (get_or types (i - 1) 0) (get_or types i 0))).0 (rw (ne_eqb i 0 z) at q.0);
          last = λ z. eqb-true (get_or types i 0) FT ((denied (eqb (get_or types i 0) FT)).0 ((not_both (eqb (i + 1) (length types)) _).0 q.1 (eq-eqb (i + 1) (length types) z)));
        }

    start : Placeable types i → (t : Bool) → eqb i 0 ≡ t → begins t ≡ false
    start h true e = rw (h.first (eqb-true i 0 e))
    start h false e = rw (h.later (eqb-false i 0 e))

    end : Placeable types i → ends ≡ false
    end h = (not_both (eqb (i + 1) (length types)) (not (eqb (get_or types i 0) FT))).1 (λ e. rw (h.last (eqb-true (i + 1) (length types) e)))

type_at_lem : (lines : List (List ℕ)) (i : ℕ) → i < length lines → get_or (map type_in lines) i 0 ≡ type_in (line_at lines i)
type_at_lem [] i h = absurd (omega arith)
type_at_lem (line ∷ lines) zero h = refl
type_at_lem (line ∷ lines) (suc i) h = type_at_lem lines i (le_of_suc-le-suc h)

ordered_is : (lines : List (List ℕ)) → 0 < length lines → ((i : ℕ) → i < length lines → Placeable (map type_in lines) i) ↔ Ordered lines
ordered_is lines some = (orders, placed_all)
  where
    size : length (map type_in lines) ≡ length lines
    size = length-map lines type_in

    orders : ((i : ℕ) → i < length lines → Placeable (map type_in lines) i) → Ordered lines
    orders all =
        record {
          first = sym (type_at_lem lines 0 some) ∙ (all 0 some).first refl;
          last = sym (type_at_lem lines (length lines - 1) (omega arith)) ∙ (all (length lines - 1) (omega arith)).last (omega (arith, size));
          follows = λ i h.
              let back : i + 1 - 1 ≡ i = omega arith in
              rw (back, type_at_lem lines i (omega arith), type_at_lem lines (i + 1) h) at ((all (i + 1) h).later (λ z. omega arith));
        }

    placed_all : Ordered lines → (i : ℕ) → i < length lines → Placeable (map type_in lines) i
    placed_all o i h =
        record {
          first = λ z. type_at_lem lines 0 some ∙ o.first;
          later = λ z.
              let next : i - 1 + 1 ≡ i = omega (arith, z) in
              rw (type_at_lem lines (i - 1) (omega arith), type_at_lem lines i h) (rw next at (o.follows (i - 1) (omega (arith, z))));
          last = λ z. let end : i ≡ length lines - 1 = omega (arith, z, size) in type_at_lem lines i h ∙ rw end o.last;
        }

pub test_4 : (lines : List (List ℕ)) → 0 < length lines → (first_misplaced (map type_in lines) ≡ length lines) ↔ Ordered lines
unfolding first_misplaced
test_4 lines some = Iff.trans (subst (λ (n : ℕ). (first_misplaced (map type_in lines) ≡ n) ↔ ((i : ℕ) → i < n → Placeable (map type_in lines) i)) size passes) (ordered_is lines some)
  where
    size : length (map type_in lines) ≡ length lines
    size = length-map lines type_in

    passes : (first_misplaced (map type_in lines) ≡ length (map type_in lines)) ↔ ((i : ℕ) → i < length (map type_in lines) → Placeable (map type_in lines) i)
    passes = none_fails (misplaced (map type_in lines)) (Placeable (map type_in lines)) (placeable_is (map type_in lines)) (length (map type_in lines))

-- ════ 5: FH's Parent ID is field 2, which stands after one other
filled_is : (line : List ℕ) → ((k : ℕ) → k < length (record_fields line) → unfilled line k ≡ false) ↔ Filled line
unfolding unfilled
filled_is line = (λ all. record { filled = mandatory all; parent = parent all }, holds)
  where
    asks : Bool → ℕ → Bool
    asks t k = cond t (not (is_empty (field (k + 1) line))) (is_mandatory (type_in line) k && is_empty (field (k + 1) line))

    mandatory : ((k : ℕ) → k < length (record_fields line) → unfilled line k ≡ false) → (k : ℕ) → k < length (record_fields line) → is_mandatory (type_in line) k ≡ true
        → ((type_in line ≡ FH) × (k ≡ 1) → ⊥) → field (k + 1) line ≡ [] → ⊥
    mandatory all k h marked other empty = true≢false (sym (ap (λ (t : Bool). asks t k) elsewhere ∙ rw (marked, empty)) ∙ all k h)
      where
        elsewhere : eqb (type_in line) FH && eqb k 1 ≡ false
        elsewhere = (not_both (eqb (type_in line) FH) (eqb k 1)).1 (λ e. ne_eqb k 1 (λ z. other (eqb-true (type_in line) FH e, z)))

    parent : ((k : ℕ) → k < length (record_fields line) → unfilled line k ≡ false) → type_in line ≡ FH → field 2 line ≡ []
    parent all is = go (dec_lt 1 (length (record_fields line)))
      where
        go : Dec (1 < length (record_fields line)) → field 2 line ≡ []
        go (yes h) =
            let q : asks (eqb (type_in line) FH && true) 1 ≡ false = all 1 h in
            (empty_is (field 2 line)).0 (eqb-true (length (field 2 line)) 0 ((denied (is_empty (field 2 line))).0 (rw (eq-eqb (type_in line) FH is) at q)))
        go (no h) = field_none line 2 (inr (omega (arith, h)))

    holds : Filled line → (k : ℕ) → k < length (record_fields line) → unfilled line k ≡ false
    holds f k h = go (eqb (type_in line) FH && eqb k 1) refl
      where
        go : (t : Bool) → eqb (type_in line) FH && eqb k 1 ≡ t → asks t k ≡ false
        go true e =
            let q = (both_of (eqb (type_in line) FH) (eqb k 1)).0 e in
            let second : k ≡ 1 = eqb-true k 1 q.1 in
            rw (second, f.parent (eqb-true (type_in line) FH q.0))
        go false e =
            (not_both (is_mandatory (type_in line) k) (is_empty (field (k + 1) line))).1
            (λ marked. ne_eqb (length (field (k + 1) line)) 0
            (λ z. f.filled k h marked (λ w. true≢false (sym ((both_of (eqb (type_in line) FH) (eqb k 1)).1 (eq-eqb (type_in line) FH w.0, eq-eqb k 1 w.1)) ∙ e)) ((empty_is (field (k + 1) line)).0 z)))

pub test_5 : (lines : List (List ℕ)) → (first_unfilled lines ≡ length lines) ↔ ((i : ℕ) → i < length lines → Filled (line_at lines i))
test_5 lines =
    none_fails (λ (i : ℕ). some_below (unfilled (line_at lines i)) (length (record_fields (line_at lines i)))) (λ (i : ℕ). Filled (line_at lines i))
    (λ i. Iff.trans
    (some_fails (unfilled (line_at lines i)) (λ (k : ℕ). unfilled (line_at lines i) k ≡ false) (λ k. Iff.rfl) (length (record_fields (line_at lines i))))
    (filled_is (line_at lines i)))
    (length lines)

-- ════ 7
-- the commodity of the first line chooses the unit
pub unit_electricity : (first : List ℕ) → field 6 first ≡ written "EL" → unit_of first ≡ written "KWH"
unfolding unit_of
unit_electricity first e = rw ((same_bytes_is (field 6 first) (written "EL")).1 e)

pub unit_gas : (first : List ℕ) → field 6 first ≡ written "NG" → unit_of first ≡ written "GJ"
unfolding unit_of same_bytes some_below first_below first_from
unit_gas first e = rw e

either_is : (s one two : List ℕ) → (same_bytes s one || same_bytes s two ≡ true) ↔ ((s ≡ one) ⊎ (s ≡ two))
either_is s one two = (λ e. go (same_bytes s one) refl e, ⊎_elim (λ q. rw ((same_bytes_is s one).1 q)) (λ q. rw ((same_bytes_is s two).1 q) (or-true (same_bytes s one))))
  where
    go : (t : Bool) → same_bytes s one ≡ t → t || same_bytes s two ≡ true → (s ≡ one) ⊎ (s ≡ two)
    go true q e = inl ((same_bytes_is s one).0 q)
    go false q e = inr ((same_bytes_is s two).0 e)

where_is : (fields one two line : List ℕ) → (neither fields one two line ≡ false) ↔ Where fields (λ (s : List ℕ). (s ≡ one) ⊎ (s ≡ two)) line
unfolding neither
where_is fields one two line = (λ e some. (either_is (field k line) one two).0 ((denied _).0 ((not_both (not (eqb k 0)) _).0 e (rw (ne_eqb k 0 some)))), holds)
  where
    k : ℕ
    k = get_or fields (type_in line) 0

    holds : Where fields (λ (s : List ℕ). (s ≡ one) ⊎ (s ≡ two)) line → neither fields one two line ≡ false
    holds h = (not_both (not (eqb k 0)) _).1 (λ e. (denied _).1 ((either_is (field k line) one two).1 (h (eqb-false k 0 (not-true (eqb k 0) e)))))

coded_is : (unit line : List ℕ) → (miscoded unit line ≡ false) ↔ Coded unit line
unfolding miscoded
coded_is unit line = (passes, λ h. rw ((where_is commodity_fields _ _ line).1 h.commodity, (where_is unit_fields unit unit line).1 (λ some. inl (h.unit some)), (where_is cancel_fields _ _ line).1 h.cancel, (where_is exemption_fields _ _ line).1 h.exemption))
  where
    passes : miscoded unit line ≡ false → Coded unit line
    passes e =
        let p = (neither_of (neither commodity_fields (written "EL") (written "NG") line) _).0 e in
        let q = (neither_of (neither unit_fields unit unit line) _).0 p.1 in
        let r = (neither_of (neither cancel_fields (written "Y") (written "N") line) _).0 q.1 in
        record {
          commodity = (where_is commodity_fields _ _ line).0 p.0;
          unit = λ some. ⊎_elim (λ z. z) (λ z. z) ((where_is unit_fields unit unit line).0 q.0 some);
          cancel = (where_is cancel_fields _ _ line).0 r.0;
          exemption = (where_is exemption_fields _ _ line).0 r.1;
        }

pub test_7 : (lines : List (List ℕ)) → (first_miscoded lines ≡ length lines) ↔ ((i : ℕ) → i < length lines → Coded (unit_of (line_at lines 0)) (line_at lines i))
unfolding first_miscoded
test_7 lines =
    none_fails (λ (i : ℕ). miscoded (unit_of (line_at lines 0)) (line_at lines i)) (λ (i : ℕ). Coded (unit_of (line_at lines 0)) (line_at lines i)) (λ i. coded_is (unit_of (line_at lines 0)) (line_at lines i)) (length lines)
