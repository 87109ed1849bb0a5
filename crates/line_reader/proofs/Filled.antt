-- Test 5, field by field: a flag says whether the fields that are read are filled as they must be.
--     filled_more        one field more
--     mark_field         whether a field after the first three is filled, by the mark that is lent and its length
--     flag_empty, flag_some    what becomes of the flag there
--     head_filled_lem        the first three fields, by the lengths of two
--     filled_line        all fields
-- Assumes nothing.
use mathlib.Core.Path.{◌≡◌, refl, sym, ◌∙◌, ap}
use mathlib.Core.List.{List}
use mathlib.Core.Bool.{Bool, true, false, cond, not, ◌&&◌, and-true, and-false, and_comm}
use Prim.Native.Nat.{ℕ, ◌+◌, ◌*◌, ◌≤◌, ◌<◌}
use native.Mathlib.Omega.{arith}
use borrow.Author.Tests.{eqb-true, eq-eqb, ne_eqb}
use lib.Dec.{eqb}
use lib.ListN.{length, get_or}
use Rattle.lists.specs.Below.{some_below}
use Rattle.lists.specs.First.{first_where, is_byte}
use Rattle.lists.proofs.AllBelow.{at_below}
use Rattle.lists.proofs.Below.{some_same}
use Rattle.tables.specs.Types.{FH, type_named, type_letters, letters}
use Rattle.tables.specs.Tables.{is_mandatory, mark_rows}
use Rattle.tables.specs.InsideRows.{joined}
use Rattle.tables.proofs.Laws.{marks_long, joined_at, row_mark}
use Rattle.records.specs.Records.{record_fields, type_in, field}
use Rattle.format.specs.Format.{some_field, unfilled}
use Rattle.format.proofs.Some.{some_start, some_now, some_kept}
use Rattle.codes_and_rows.specs.InsideFields.{field_after}
use Rattle.line_reader.specs.InsideLineReader.{unfilled_at, FilledTo, head_filled}

module _ (type : ℕ) (line : List ℕ) where
  filled_none : FilledTo type line 0 true
  filled_none = ap not (some_start (unfilled_at type line))

  -- one field more, after k others
  pub filled_more : (k : ℕ) {filled after unfilled : Bool} → FilledTo type line k filled → unfilled_at type line k ≡ unfilled → after ≡ (filled && not unfilled) → FilledTo type line (k + 1) after
  filled_more k {filled} {after} {unfilled} before here e = e ∙ go unfilled here
    where
      go : (b : Bool) → unfilled_at type line k ≡ b → (filled && not b) ≡ not (some_below (unfilled_at type line) (k + 1))
      go true q = and-false filled ∙ ap not (some_now (unfilled_at type line) k q)
      go false q = and-true filled ∙ before ∙ ap not (some_kept (unfilled_at type line) k q)

  -- a field that is not the second is unfilled where it is mandatory and empty
  plain_field : (k : ℕ) {len : ℕ} → (k ≡ 1 → ⊥) → len ≡ length (field_after line k) → unfilled_at type line k ≡ (is_mandatory type k && eqb len 0)
  unfolding unfilled_at
  plain_field k other q = rw (ne_eqb k 1 other, and-false (eqb type FH), q)

  pub mark_field : {marks : List Bool} → marks ≡ joined mark_rows → type < 9 → (k : ℕ) {len : ℕ} → 3 ≤ k → k < 19 → len ≡ length (field_after line k)
      → unfilled_at type line k ≡ (eqb len 0 && get_or marks (type * 19 + k) false)
  mark_field {marks} lent known k {len} past small q =
      let mark : get_or marks (type * 19 + k) false ≡ is_mandatory type k = rw lent (joined_at 19 mark_rows marks_long type k false known small ∙ row_mark type k known small) in
      plain_field k (λ e. omega (arith, e)) q ∙ rw mark (and_comm (is_mandatory type k) (eqb len 0))

-- what becomes of the flag at a field with a mark and a length: a marked field must not be empty
module _ (filled mark : Bool) (len : ℕ) {after : Bool} where
  pub flag_empty : len ≡ 0 → after ≡ (filled && not mark) → after ≡ (filled && not (eqb len 0 && mark))
  flag_empty none e = e ∙ sym (rw (eq-eqb len 0 none))

  pub flag_some : (len ≡ 0 → ⊥) → after ≡ filled → after ≡ (filled && not (eqb len 0 && mark))
  flag_some some e = e ∙ sym (rw (ne_eqb len 0 some) (and-true filled))

-- ---- the first three fields
HeadMarked : ℕ → Type 0
HeadMarked type = (is_mandatory type 0 ≡ true) × (is_mandatory type 1 ≡ true)

head_marked : (type : ℕ) → type < 9 → (is_mandatory type 0 ≡ true) × (is_mandatory type 1 ≡ true)
unfolding is_mandatory HeadMarked
head_marked type h =
    at_below HeadMarked 9 (((((((((tt, (refl, refl)), (refl, refl)), (refl, refl)), (refl, refl)), (refl, refl)), (refl, refl)), (refl, refl)), (refl, refl)), (refl, refl)) type h

-- a text that names a type has two bytes
named_long : (l : List ℕ) → type_named l < 9 → length l ≡ 2
unfolding type_named
named_long l h = go (eqb (length l) 2) refl h
  where
    go : (b : Bool) → eqb (length l) 2 ≡ b → cond b (first_where (is_byte (letters l)) type_letters) 9 < 9 → length l ≡ 2
    go true e q = eqb-true (length l) 2 e
    go false e q = absurd (omega (arith, q))

module _ (type : ℕ) (line : List ℕ) (known : type < 9) (named : type ≡ type_named (field_after line 2)) {id parent : ℕ} (first : id ≡ length (field_after line 0)) (second : parent ≡ length (field_after line 1)) where
  id_field : unfilled_at type line 0 ≡ eqb id 0
  id_field = plain_field type line 0 (λ e. omega (arith, e)) first ∙ rw (head_marked type known).0

  parent_field : unfilled_at type line 1 ≡ cond (eqb type FH) (not (eqb parent 0)) (eqb parent 0)
  unfolding unfilled_at
  parent_field = rw (sym second, (head_marked type known).1, and-true (eqb type FH))

  type_field : unfilled_at type line 2 ≡ false
  type_field =
      plain_field type line 2 (λ e. omega (arith, e)) refl
      ∙ rw (ne_eqb (length (field_after line 2)) 0 (λ e. omega (arith, e, named_long (field_after line 2) (rw (sym named) known))), and-false (is_mandatory type 2))

  pub head_filled_lem : FilledTo type line 3 (head_filled type id parent)
  unfolding head_filled
  head_filled_lem =
      filled_more type line 2 (filled_more type line 1 (filled_more type line 0 (filled_none type line) id_field refl) parent_field refl) type_field
      (go (eqb id 0) (eqb type FH) (eqb parent 0))
    where
      go : (a b c : Bool) → (not a && cond b c (not c)) ≡ (((true && not a) && not (cond b (not c) c)) && true)
      go true b c = refl
      go false true true = refl
      go false true false = refl
      go false false true = refl
      go false false false = refl

-- ---- all fields of a line whose record has them
pub filled_line : (type : ℕ) (line : List ℕ) (count : ℕ) {filled : Bool} → type_in line ≡ type → length (record_fields line) ≡ count → ((k : ℕ) → field (k + 1) line ≡ field_after line k)
    → FilledTo type line count filled → filled ≡ not (some_field unfilled line)
unfolding unfilled unfilled_at
filled_line type line count named counted same e =
    let all : some_below (unfilled_at type line) count ≡ some_field unfilled line = rw counted (some_same (unfilled_at type line) (unfilled line) count (λ k h. rw (named, same k))) in
    e ∙ ap not all
