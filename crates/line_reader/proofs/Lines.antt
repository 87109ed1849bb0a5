-- The loop over the lines.
--     LinesTo, lines_none, lines_more        the first lines are read: none; one line more
--     lines_end, stops                       all are; the next one fails
--     line_stored                            the columns, with one line more
-- Assumes nothing.
use mathlib.Core.Path.{◌≡◌, refl, sym, ◌∙◌, ap, subst}
use mathlib.Core.List.{List, [], ◌∷◌}
use mathlib.Core.Bool.{Bool, true, false, cond, not, not-not}
use Prim.Native.Nat.{ℕ, suc, ◌+◌, ◌-◌, ◌≤◌, ◌<◌}
use native.Mathlib.Numerals.{add-one}
use native.Mathlib.Omega.{arith}
use borrow.Author.Count.{below_more}
use borrow.Author.Tests.{eqb-true, eqb-false}
use lib.Dec.{T, eqb}
use lib.ListN.{length, get_or, set}
use Rattle.lists.specs.Below.{first_below, nearest_below}
use Rattle.lists.specs.Bytes.{same_bytes}
use Rattle.lists.specs.InsideFirstSoFar.{SoFar}
use Rattle.lists.specs.Written.{written}
use Rattle.lists.proofs.Below.{nearest_more, nearest_kept}
use Rattle.lists.proofs.FirstSoFar.{so_far_none, so_far_more, so_far_end}
use Rattle.records.specs.Text.{cut}
use Rattle.records.specs.Records.{record_fields, field, type_in}
use Rattle.tables.specs.Types.{FH, TH}
use Rattle.tables.specs.Tables.{field_count, field_type}
use Rattle.columns.specs.Columns.{charge, usage}
use Rattle.columns.specs.InsideRows.{RowStored}
use Rattle.columns.proofs.Rows.{Reading, reading_more}
use Rattle.readings.specs.InsideLeadingBytes.{packed}
use Rattle.format.specs.Format.{line_at, some_field, unfilled, unit_of, miscoded, first_miscoded}
use Rattle.format.specs.Conditional.{is_energized, period_before, unpopulated, first_unpopulated}
use Rattle.codes_and_rows.specs.InsideFields.{FieldFits}
use Rattle.codes_and_rows.specs.InsideNumbers.{codes_stand, unit_of_number, column_numbers, field_number}
use Rattle.codes_and_rows.proofs.Texts.{printable_line}
use Rattle.codes_and_rows.proofs.FieldKinds.{has_kind, is_short_text}
use Rattle.codes_and_rows.proofs.Codes.{stands_at, unit_is, codes_exact}
use Rattle.codes_and_rows.proofs.Rows.{numbers_same, charge_same, usage_same}
use Rattle.conditional_fields.proofs.Records.{status_told}
use Rattle.line_reader.specs.declared.LinesRead.{LinesRead}
use Rattle.line_reader.specs.InsideLineReader.{unread, first_unread, LineKept, AllRead, LinesTold}
use Rattle.line_reader.proofs.FieldLoop.{LineRead}
use Rattle.line_reader.proofs.Heads.{count_least}
use Rattle.line_reader.proofs.Unread.{first_here}

field_says : {file line : List ℕ} {type : ℕ} {filled : Bool} {numbers bs es : List ℕ} → LineRead file line type filled numbers bs es → (j : ℕ) → j < 5
    → FieldFits (type_in line) j (field (suc j) line) (get_or numbers (suc j) 0)
field_says r j h = rw r.read.named (stands_at r.read.says r.read.known j (omega (arith, count_least _ r.read.known)))

module _ (lines : List (List ℕ)) (n : ℕ) where
  abbrev unfilled_line : ℕ → Bool
  unfilled_line j = some_field unfilled (line_at lines j)

  abbrev unpopulated_line : ℕ → Bool
  unpopulated_line j = unpopulated (line_at lines j) (period_before lines j)

  abbrev miscoded_line : ℕ → Bool
  miscoded_line j = miscoded (unit_of (line_at lines 0)) (line_at lines j)

  abbrev starts_with_header : Type 0
  starts_with_header = type_in (line_at lines 0) ≡ FH

  -- the first lines of n are read; `read` is what is kept of them
  pub record LinesTo (read : LinesRead) : Type 0 where
    pub passing : (j : ℕ) → j < read.stopped → unread (line_at lines j) ≡ false
    pub unfilled : SoFar unfilled_line n read.stopped read.unfilled
    pub unpopulated : SoFar unpopulated_line n read.stopped read.unpopulated
    pub miscoded : starts_with_header → SoFar miscoded_line n read.stopped read.miscoded
    pub retailer : 0 < read.stopped → FieldFits (type_in (line_at lines 0)) 3 (field 4 (line_at lines 0)) read.retailer
    pub sender : 0 < read.stopped → FieldFits (type_in (line_at lines 0)) 4 (field 5 (line_at lines 0)) read.sender
    pub commodity : starts_with_header → 0 < read.stopped → unit_of_number read.commodity ≡ unit_of (line_at lines 0)
    pub counted : 0 < read.stopped → FieldFits (type_in (line_at lines (read.stopped - 1))) 3 (field 4 (line_at lines (read.stopped - 1))) read.counted
    pub energized : read.energized ≡ is_energized (period_before lines read.stopped)

  -- before the first line there is no TH
  none_energized : is_energized (period_before lines 0) ≡ false
  unfolding period_before nearest_below field record_fields cut same_bytes
  none_energized = refl

  pub lines_none : {read : LinesRead} → read.stopped ≡ 0 → read.unfilled ≡ n → read.unpopulated ≡ n → read.miscoded ≡ n → read.energized ≡ false → LinesTo read
  lines_none e u p m s =
      record {
        passing = λ j h. absurd (omega (arith, h, e));
        unfilled = rw (e, u) (so_far_none unfilled_line n);
        unpopulated = rw (e, p) (so_far_none unpopulated_line n);
        miscoded = λ first. rw (e, m) (so_far_none miscoded_line n);
        retailer = λ h. absurd (omega (arith, h, e));
        sender = λ h. absurd (omega (arith, h, e));
        commodity = λ first h. absurd (omega (arith, h, e));
        counted = λ h. absurd (omega (arith, h, e));
        energized = rw e (s ∙ sym none_energized);
      }

  -- what P says of the first line's field: it is read at line i, or was before
  of_first : {i said before : ℕ} (P : ℕ → Type 0) → (i ≡ 0 → P said) → (0 < i → P before) → P (cond (eqb i 0) said before)
  of_first {i} {said} {before} P now then = go (eqb i 0) refl
    where
      go : (b : Bool) → eqb i 0 ≡ b → P (cond b said before)
      go true e = now (eqb-true i 0 e)
      go false e = let later : i ≡ 0 → ⊥ = eqb-false i 0 e in then (omega (arith, later))

  module _ (i : ℕ) {file : List ℕ} {type : ℕ} {filled : Bool} {numbers bs es : List ℕ} (r : LineRead file (line_at lines i) type filled numbers bs es) where
    first_field : {before : ℕ} (j : ℕ) → j < 5 → (0 < i → FieldFits (type_in (line_at lines 0)) j (field (suc j) (line_at lines 0)) before)
        → FieldFits (type_in (line_at lines 0)) j (field (suc j) (line_at lines 0)) (cond (eqb i 0) (get_or numbers (suc j) 0) before)
    first_field j h before =
        of_first (λ (m : ℕ). FieldFits (type_in (line_at lines 0)) j (field (suc j) (line_at lines 0)) m)
        (λ e. subst (λ (m : ℕ). FieldFits (type_in (line_at lines m)) j (field (suc j) (line_at lines m)) (get_or numbers (suc j) 0)) e (field_says r j h)) before

    first_unit : (before : ℕ) → starts_with_header → (0 < i → unit_of_number before ≡ unit_of (line_at lines 0)) → unit_of_number (cond (eqb i 0) (get_or numbers 6 0) before) ≡ unit_of (line_at lines 0)
    unfolding field_count field_type
    first_unit other first before =
        of_first (λ (m : ℕ). unit_of_number m ≡ unit_of (line_at lines 0))
        (λ e. unit_is r.read.says r.read.known (printable_line (line_at lines i) r.read.printable) (named (sym r.read.named ∙ ap (λ (m : ℕ). type_in (line_at lines m)) e ∙ first))
        ∙ ap (λ (m : ℕ). unit_of (line_at lines m)) e) before
      where
        named : type ≡ FH → T (has_kind is_short_text type 6)
        named e = rw e tt

    -- the nearest TH of the next line
    next_energized : {before : Bool} → before ≡ is_energized (period_before lines i)
        → cond (eqb type TH) (eqb (get_or numbers 11 0) (packed (written "E"))) before ≡ is_energized (period_before lines (i + 1))
    unfolding period_before
    next_energized {before} kept = go (eqb type TH) refl
      where
        go : (b : Bool) → eqb type TH ≡ b → cond b (eqb (get_or numbers 11 0) (packed (written "E"))) before ≡ is_energized (period_before lines (i + 1))
        go true e =
            status_told r.read (eqb-true type TH e)
            ∙ ap (λ (k : ℕ). is_energized (get_or ([] ∷ lines) k [])) (sym (nearest_more (λ (j : ℕ). eqb (type_in (line_at lines j)) TH) i (rw r.read.named e) ∙ add-one i))
        go false e = kept ∙ ap (λ (k : ℕ). is_energized (get_or ([] ∷ lines) k [])) (sym (nearest_kept (λ (j : ℕ). eqb (type_in (line_at lines j)) TH) i (rw r.read.named e)))

  -- one line more, whose fields are read
  pub lines_more : {file : List ℕ} {filled lacks : Bool} {type : ℕ} {numbers bs es : List ℕ} {read next : LinesRead}
      → LinesTo read → read.stopped < n → LineRead file (line_at lines read.stopped) type filled numbers bs es
      → lacks ≡ unpopulated (line_at lines read.stopped) (period_before lines read.stopped) → LineKept read n type filled lacks numbers next → LinesTo next
  lines_more {filled = filled} {type = type} {numbers = numbers} {read = read} {next = next} s h r lacks k =
      record {
        passing = rw k.stopped (below_more (λ (j : ℕ). unread (line_at lines j) ≡ false) read.stopped s.passing r.passes);
        unfilled = rw k.stopped (so_far_more unfilled_line n s.unfilled h fails k.unfilled);
        unpopulated = rw k.stopped (so_far_more unpopulated_line n s.unpopulated h lacks k.unpopulated);
        miscoded = λ first. rw k.stopped (so_far_more miscoded_line n (s.miscoded first) h (codes (unit first)) k.miscoded);
        retailer = λ l. rw k.retailer (first_field read.stopped r 3 (omega arith) s.retailer);
        sender = λ l. rw k.sender (first_field read.stopped r 4 (omega arith) s.sender);
        commodity = λ first l. unit first;
        counted = λ l. let here : read.stopped + 1 - 1 ≡ read.stopped = omega arith in rw (k.counted, k.stopped, here) (field_says r 3 (omega arith));
        energized = rw (k.energized, k.stopped) (next_energized read.stopped r s.energized);
      }
    where
      fails : not filled ≡ unfilled_line read.stopped
      fails = ap not r.filled ∙ not-not (unfilled_line read.stopped)

      unit : starts_with_header → unit_of_number next.commodity ≡ unit_of (line_at lines 0)
      unit first = rw k.commodity (first_unit read.stopped r read.commodity first (s.commodity first))

      codes : unit_of_number next.commodity ≡ unit_of (line_at lines 0) → not (codes_stand (unit_of_number next.commodity) type numbers) ≡ miscoded_line read.stopped
      codes same =
          let line = line_at lines read.stopped in
          ap not (codes_exact r.read.says r.read.known (printable_line line r.read.printable) r.read.named next.commodity)
          ∙ not-not (miscoded (unit_of_number next.commodity) line) ∙ ap (λ (unit : List ℕ). miscoded unit line) same

  pub lines_end : {read : LinesRead} → LinesTo read → read.stopped ≡ n → n ≡ length lines → 1 ≤ n → AllRead lines read
  unfolding first_miscoded first_unpopulated
  lines_end s end all some =
      record {
        unfilled = so_far_end unfilled_line n s.unfilled (omega (arith, end)) ∙ ap (first_below unfilled_line) all;
        unpopulated = so_far_end unpopulated_line n s.unpopulated (omega (arith, end)) ∙ ap (first_below unpopulated_line) all;
        miscoded = λ first. so_far_end miscoded_line n (s.miscoded first) (omega (arith, end)) ∙ ap (first_below miscoded_line) all;
        retailer = s.retailer (omega (arith, end, some));
        sender = s.sender (omega (arith, end, some));
        counted = rw (sym all, sym end) (s.counted (omega (arith, end, some)));
      }

  -- the reader stops at a line that fails
  pub stops : {words charges usages : List ℕ} {read : LinesRead} → LinesTo read → read.stopped < n → n ≡ length lines → unread (line_at lines read.stopped) ≡ true → LinesTold lines words charges usages read
  unfolding first_unread
  stops {read = read} s h all e =
      record {
        stopped = first_here unread lines read.stopped s.passing (omega (arith, all)) e;
        all = λ end. absurd (omega (arith, end, all, h));
        columns = λ end. absurd (omega (arith, end, all, h));
      }

-- ---- the columns: one line more, which is stored
pub line_stored : {lines : List (List ℕ)} {charges₀ usages₀ : List ℕ} {i : ℕ} {words charges usages file : List ℕ} {type : ℕ} {filled : Bool} {numbers bs es after charges' usages' : List ℕ}
    → Reading lines charges₀ usages₀ i words charges usages → i < length charges₀ → length usages₀ ≡ length charges₀ → LineRead file (line_at lines i) type filled numbers bs es
    → RowStored (length charges) words i (column_numbers type numbers) 8 after → charges' ≡ set charges i (field_number type numbers charge) → usages' ≡ set usages i (field_number type numbers usage)
    → Reading lines charges₀ usages₀ (i + 1) after charges' usages'
line_stored {lines} {i = i} r small space line stored p q =
    let record_read = line.read in
    let printable = printable_line (line_at lines i) record_read.printable in
    rw (p, q) (reading_more r _ _ small space stored (numbers_same record_read.says record_read.known printable record_read.named)
    (charge_same record_read.says record_read.known printable record_read.named) (usage_same record_read.says record_read.known printable record_read.named))
