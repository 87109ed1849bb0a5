-- When a dispute is written, and that what is written is read as its own fields.
--     dispute_order      the order of the refusals
--     written_exactly    a dispute is written exactly where none of them applies
--     line_most, dispute_fits    how long a line can be, so that the word of an answer has its length
--     dispute_read       the line that is written is read as its own fields, for every entry, settings and supplied fields
-- Assumes nothing.
use Rattle.std.specs.Prelude.{is_some}
use Prim.Native.Nat.{ℕ, ◌%◌, ◌^◌, ◌≤◌, ◌<◌}
use mathlib.Core.Path.{◌≡◌, refl, sym, ◌∙◌, ap, subst}
use mathlib.Core.Logic.{◌↔◌}
use mathlib.Core.Bool.{Bool, true, false, cond, not, ◌&&◌, ◌||◌}
use mathlib.Core.List.{List, [], ◌∷◌, ◌++◌}
use native.Mathlib.Omega.{arith}
use borrow.Author.Tests.{eq-eqb, eqb-true, leb-true, ltb-true, ltb-false, lt-ltb, le-ltb, not-false}
use lib.Dec.{eqb, leb, ltb, T}
use lib.ListN.{length, take, drop}
use lib.Seq.{take_at}
use Rattle.lists.specs.InsideSelections.{all}
use Rattle.lists.proofs.Reflected.{neither_of}
use Rattle.digits.specs.Digits.{all_digits, number_of, digits_of}
use Rattle.digits.proofs.Laws.{both_true, digits_say, number_bound, ten_room}
use Rattle.calendar.specs.Calendar.{date_time_of}
use Rattle.fields.specs.declared.FieldType.TheVariants.{RecordId, DateTime}
use Rattle.fields.proofs.Read.{read_value}
use Rattle.entries.specs.declared.Entry.{Entry}
use Rattle.entries.specs.Entries.{entry_of, is_held}
use Rattle.soundness.specs.Meaning.{EntryFits}
use Rattle.soundness.specs.Sound.{is_sound}
use Rattle.soundness.proofs.Meaning.{sound_means}
use Rattle.refusals.specs.declared.Outcome.{Outcome}
use Rattle.refusals.specs.Refusals.{Refusal, first_refusal}
use Rattle.refusals.specs.InsideNumbers.{numbers_of}
use Rattle.refusals.specs.Check.{settings_fit}
use Rattle.refusals.proofs.Refusals.{NoneOf, AllOf, Unlike, none_passes, numbers_unlike, passes_none}
use Rattle.writing.proofs.Numbers.{plain_length}
use Rattle.writing.proofs.ReadBack.{plain_few}
use Rattle.dispute_lines.specs.Line.{dispute_fields}
use Rattle.dispute_lines.specs.Reading.{reading, read_dispute}
use Rattle.dispute_lines.proofs.Fields.{moment_digits}
use Rattle.dispute_lines.proofs.Lines.{dispute_length_lem}
use Rattle.dispute_lines.proofs.RoundTrip.{written_read}
use Rattle.disputes.specs.Disputes.{Supplied, empty_or_unfit, some_unfit, is_held_at, dispute_of, line_for, dispute_refusals, answer_of, Disputed}
use Rattle.disputes.proofs.SuppliedFields.{id_unfit, moment_unfit}

-- a supplied ID that fits has at most 15 digits
id_small : (s : List ℕ) → not (is_some (digits_of s)) ≡ false → number_of s < 10 ^ 15
id_small s e =
    let read = read_value (digits_of s) (not-false (is_some (digits_of s)) e) in
    let is = digits_say s read.0 read.1 in
    ten_room (length s) (number_bound s is.digits) is.few

-- settings that fit have a retailer of at most nine digits
retailer_small : (retailer : ℕ) (distributors : List ℕ) → settings_fit retailer distributors ≡ true → retailer ≤ 999999999
unfolding settings_fit
retailer_small retailer distributors e = go (leb retailer 999999999) refl e
  where
    go : (b : Bool) → leb retailer 999999999 ≡ b
        → (b && leb 4 (length distributors) && leb (length distributors) 128 && eqb (length distributors % 4) 0 && all_digits distributors) ≡ true → retailer ≤ 999999999
    go true q e = leb-true retailer 999999999 q
    go false q e = let z : ◌≡◌ {A = ℕ} 0 1 = cc in absurd (omega arith)

module _ (s : Supplied) (run : List Entry) (used place : ℕ) (out : List ℕ) where
  abbrev refusals : List Refusal
  refusals = dispute_refusals s run used place out

  abbrev line : List ℕ
  line = line_for s (entry_of run place)

  pub dispute_order : numbers_of refusals ≡ 104 ∷ 105 ∷ 3 ∷ 108 ∷ 109 ∷ []
  unfolding dispute_refusals
  dispute_order = refl

  numbered : AllOf (Unlike 0) refusals
  numbered = numbers_unlike 0 refusals (subst (λ (ns : List ℕ). T (all (λ m. not (eqb m 0)) ns)) (sym dispute_order) tt)

  -- what is asked for
  pub record Writable : Type 0 where
    pub settings : settings_fit s.retailer s.distributors ≡ true
    pub sound : is_sound run used ≡ true
    pub fields : some_unfit s ≡ false
    pub used_place : place < used
    pub held : (entry_of run place).state ≡ 2
    pub room : length line ≤ length out

  none_applies : NoneOf refusals → Writable
  unfolding dispute_refusals is_held_at
  none_applies none =
      let held = both_true (ltb place used) (is_held (entry_of run place)) (not-false (is_held_at run used place) none.1.1.1.0) in
      record {
        settings = not-false (settings_fit s.retailer s.distributors) none.0;
        sound = not-false (is_sound run used) none.1.0;
        fields = none.1.1.0;
        used_place = ltb-true place used held.0;
        held = eqb-true (entry_of run place).state 2 held.1;
        room = ltb-false (length out) (length line) none.1.1.1.1.0;
      }

  all_hold : Writable → NoneOf refusals
  unfolding dispute_refusals is_held_at
  all_hold w = (
    ap not w.settings,
    (
      ap not w.sound,
      (
        w.fields,
        (rw (lt-ltb place used w.used_place, eq-eqb (entry_of run place).state 2 w.held), (le-ltb (length out) (length line) w.room, tt)),
      ),
    ),
  )

  pub written_exactly : ((first_refusal refusals).number ≡ 0) ↔ Writable
  written_exactly = (λ e. none_applies (passes_none refusals numbered e), λ w. ap (λ (o : Outcome). o.number) (none_passes refusals (all_hold w)))

  -- what the line is written of
  record Fitting : Type 0 where
    transaction : number_of s.transaction < 10 ^ 15
    retailer : s.retailer < 10 ^ 9
    file : number_of s.file < 10 ^ 15
    moment : is_some (date_time_of s.created) ≡ true
    entry : EntryFits (entry_of run place)

  fitting : Writable → Fitting
  unfolding some_unfit
  fitting w =
      let unfit = (neither_of (empty_or_unfit RecordId s.transaction) (empty_or_unfit DateTime s.created || empty_or_unfit RecordId s.file)).0 w.fields in
      let rest = (neither_of (empty_or_unfit DateTime s.created) (empty_or_unfit RecordId s.file)).0 unfit.1 in
      record {
        transaction = id_small s.transaction (sym (id_unfit s.transaction) ∙ unfit.0);
        retailer = omega (arith, retailer_small s.retailer s.distributors w.settings);
        file = id_small s.file (sym (id_unfit s.file) ∙ rest.1);
        moment = not-false (is_some (date_time_of s.created)) (sym (moment_unfit s.created) ∙ rest.0);
        entry = ((sound_means run used).0 w.sound).fit place w.used_place;
      }

  own_fields : Writable → read_dispute line ≡ reading 0 (dispute_fields (dispute_of s (entry_of run place)) s.created)
  own_fields w =
      let f = fitting w in
      let e = f.entry in
      written_read (dispute_of s (entry_of run place)) s.created f.transaction f.retailer e.sender f.file e.site e.id (omega arith) f.moment

  -- no line that is written is longer
  pub line_most : Writable → length line ≤ 103
  line_most w =
      let f = fitting w in
      let e = f.entry in
      omega (
        arith,
        dispute_length_lem (dispute_of s (entry_of run place)) s.created (moment_digits s.created f.moment).0,
        plain_length (number_of s.transaction),
        plain_few (number_of s.transaction) 15 (omega arith) f.transaction,
        plain_length (number_of s.file),
        plain_few (number_of s.file) 15 (omega arith) f.file,
        plain_length (entry_of run place).id,
        plain_few (entry_of run place).id 15 (omega arith) e.id,
      )

  -- so that the word's lower 32 bits hold it
  pub dispute_fits : (answer_of (first_refusal refusals) (length line)).value < 2 ^ 32
  dispute_fits = go (eqb (first_refusal refusals).number 0) refl
    where
      go : (b : Bool) → eqb (first_refusal refusals).number 0 ≡ b → cond b (length line) 0 < 2 ^ 32
      go true e = omega (arith, line_most (written_exactly.0 (eqb-true (first_refusal refusals).number 0 e)))
      go false e = omega arith

  -- an answer below 2 ^ 32 has no refusal's number: it is the length, and so many bytes are the line
  pub dispute_read : (word : ℕ) (after : List ℕ) → Disputed s run used place out word after → word < 2 ^ 32
      → read_dispute (take word after) ≡ reading 0 (dispute_fields (dispute_of s (entry_of run place)) s.created)
  dispute_read word after is h =
      let o = first_refusal refusals in
      let none : o.number ≡ 0 = omega (arith, is.answers) in
      let test = eq-eqb o.number 0 none in
      let value : cond (eqb o.number 0) (length line) 0 ≡ length line = rw test in
      let size : word ≡ length line = omega (arith, is.answers, value) in
      let left : after ≡ line ++ drop (length line) out = is.leaves ∙ rw test in
      let read : take word after ≡ line = ap (λ (l : List ℕ). take word l) left ∙ take_at line (drop (length line) out) word (sym size) in
      ap read_dispute read ∙ own_fields (written_exactly.0 none)
