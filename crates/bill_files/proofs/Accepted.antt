-- What booking needs of a file that passes.
--     mandatory_fits     a mandatory field of a record fits its type
--     bill_ids           the Record IDs of the file's FH and of its TH and OC are all different
--     every_bill         what holds of each line that is a bill holds of each bill
--     bill_fits_lem          a bill has numbers in their ranges, and 0 for what its kind lacks
--     file_fits          and so has the file's own entry
--     bills_few          a file has at most as many bills as lines
-- The proofs read the tables of fields at the three types that count, FH, TH and OC. Assumes nothing.
use Rattle.std.specs.Prelude.{is_some}
use mathlib.Core.Path.{◌≡◌, refl, sym, ◌∙◌, ap, subst}
use mathlib.Core.Logic.{◌⊎◌, inl, inr}
use mathlib.Core.Bool.{Bool, true, false, cond, not, ◌&&◌, ◌||◌, true≢false}
use Rattle.std.specs.Prelude.{Option, Some, None}
use mathlib.Core.List.{List, [], ◌∷◌, map}
use Prim.Native.Nat.{ℕ, zero, suc, ◌+◌, ◌-◌, ◌^◌, ◌≤◌, ◌<◌}
use native.Mathlib.Omega.{arith}
use borrow.Author.Tests.{eqb-true, eq-eqb, ne_eqb, ltb-true, not-true}
use lib.Dec.{eqb, ltb, lit<, lit≤}
use lib.ListN.{length, get_or, length-map}
use lib.IntN.{pos, nat_abs}
use Rattle.lists.specs.Below.{first_from, first_below, some_below}
use Rattle.lists.specs.Bytes.{same_bytes}
use Rattle.lists.specs.Written.{written}
use Rattle.lists.proofs.Below.{some_none}
use Rattle.digits.specs.Digits.{digits_of, fixed_digits_of}
use Rattle.digits.proofs.Laws.{digits_bound}
use Rattle.calendar.specs.Calendar.{day_of}
use Rattle.calendar.proofs.Dates.{day_bound}
use Rattle.fields.specs.declared.FieldType.{FieldType}
use Rattle.fields.specs.declared.FieldType.TheVariants.{RecordId, Digits, Number as Num, Date, DateTime, Char, Varchar}
use Rattle.fields.specs.Fields.{fits_filled, fits_type}
use Rattle.tables.specs.Types.{FH, TH, OC}
use Rattle.records.specs.Records.{record_fields, field, type_in}
use Rattle.tables.specs.Tables.{field_count, field_type, is_mandatory}
use Rattle.records.proofs.Laws.{fields_known}
use Rattle.amounts.specs.Amounts.{or_zero}
use Rattle.columns.specs.Columns.{field_of, field_in, usage_in, record_id, site, reference, start_day, end_day}
use Rattle.columns.proofs.Laws.{map_at, number_small, charge_bound, usage_bound}
use Rattle.format.specs.Format.{line_at}
use Rattle.lists.proofs.Reflected.{both_of, denied, empty_is}
use Rattle.fields.proofs.Read.{read_value}
use Rattle.bill_files.specs.Accepted.{Bill, number_or_zero, sender_in, id_in, is_period, is_bill, bill_in, bills_in, bill_file}
use Rattle.lists.specs.Selections.{filter}
use Rattle.lists.proofs.Selections.{second_of_lem}
use Rattle.bill_files.specs.InsideFits.{BillFits, FileFits, Distinct}
use Rattle.bill_files.specs.Passing.{type_at, id_at, Passing}

-- ════ numbers that are read
day_value : (x : Option ℕ) → is_some x ≡ true → (n : ℕ) × (x ≡ Some n)
day_value (Some n) e = (n, refl)
day_value None e = absurd (true≢false (sym e))

-- just w digits
fixed_bound : (w : ℕ) (s : List ℕ) → is_some (fixed_digits_of w s) ≡ true → number_or_zero (digits_of s) < 10 ^ w
unfolding fixed_digits_of
fixed_bound w s e = go (eqb (length s) w) refl e
  where
    go : (t : Bool) → eqb (length s) w ≡ t → is_some (cond t (digits_of s) None) ≡ true → number_or_zero (digits_of s) < 10 ^ w
    go true q e =
        let v = read_value (digits_of s) e in
        rw v.1 (subst (λ (k : ℕ). v.0 < 10 ^ k) (eqb-true (length s) w q) (digits_bound s v.0 v.1))
    go false q e = absurd (true≢false (sym e))

number_bound : (s : List ℕ) → number_or_zero (digits_of s) < 10 ^ 15
number_bound s = go (digits_of s) refl
  where
    go : (x : Option ℕ) → digits_of s ≡ x → number_or_zero x < 10 ^ 15
    go (Some n) e = number_small s n e
    go None e = lit< tt

reference_bound : (s : List ℕ) (n : ℕ) → digits_of s ≡ Some n → n < 10 ^ 15
reference_bound s n e = go (digits_of s) refl e
  where
    go : (x : Option ℕ) → digits_of s ≡ x → x ≡ Some n → n < 10 ^ 15
    go (Some m) q e = let same : m ≡ n = cc in subst (λ (k : ℕ). k < 10 ^ 15) same (number_small s m q)
    go None q e = let z : ◌≡◌ {A = ℕ} 0 1 = cc in absurd (omega arith)

day_or_zero_bound : (s : List ℕ) → number_or_zero (day_of s) ≤ 36524
day_or_zero_bound s = go (day_of s) refl
  where
    go : (x : Option ℕ) → day_of s ≡ x → number_or_zero x ≤ 36524
    go (Some n) e = day_bound s n e
    go None e = lit≤ tt

one_of : (m n : ℕ) (b : Bool) → (cond b m n ≡ m) ⊎ (cond b m n ≡ n)
one_of m n true = inl refl
one_of m n false = inr refl

-- ════ a mandatory field
-- what the tables say of the field after k others of the type t: it is there, it is mandatory, and it isn't FH's Parent ID
unfoldable pub is_required : ℕ → ℕ → Bool
is_required t k = ltb k (field_count t) && (is_mandatory t k && not (eqb t FH && eqb k 1))

-- every type has its Record ID as field 1, which is mandatory
is_id_type : FieldType → Bool
is_id_type RecordId = true
is_id_type (Digits n) = false
is_id_type (Num n places) = false
is_id_type Date = false
is_id_type DateTime = false
is_id_type (Char n) = false
is_id_type (Varchar n) = false

is_id_type_lem : (type : FieldType) → is_id_type type ≡ true → type ≡ RecordId
unfolding is_id_type
is_id_type_lem RecordId e = refl
is_id_type_lem (Digits n) e = absurd (true≢false (sym e))
is_id_type_lem (Num n places) e = absurd (true≢false (sym e))
is_id_type_lem Date e = absurd (true≢false (sym e))
is_id_type_lem DateTime e = absurd (true≢false (sym e))
is_id_type_lem (Char n) e = absurd (true≢false (sym e))
is_id_type_lem (Varchar n) e = absurd (true≢false (sym e))

has_id : ℕ → Bool
has_id t = is_required t 0 && (is_id_type (field_type t 0) && eqb (field_of record_id t) 1)

all_have_ids : some_below (λ (t : ℕ). not (has_id t)) 9 ≡ false
unfolding some_below first_below first_from has_id is_required is_id_type field_count is_mandatory field_type field_of
all_have_ids = refl

has_id_lem : (t : ℕ) → t < 9 → (is_required t 0 ≡ true) × (field_type t 0 ≡ RecordId) × (field_of record_id t ≡ 1)
unfolding has_id
has_id_lem t h =
    let q = (both_of (is_required t 0) (is_id_type (field_type t 0) && eqb (field_of record_id t) 1)).0 ((denied (has_id t)).0 (some_none (λ (t : ℕ). not (has_id t)) 9 all_have_ids t h)) in
    let r = (both_of (is_id_type (field_type t 0)) (eqb (field_of record_id t) 1)).0 q.1 in
    (q.0, is_id_type_lem (field_type t 0) r.0, eqb-true (field_of record_id t) 1 r.1)

-- ════ lists whose numbers are all different, and the lines that a test picks
-- the numbers f of lines
Fresh : (List ℕ → ℕ) → ℕ → List (List ℕ) → Type 0
Fresh f x lines = (k : ℕ) → k < length lines → x ≡ f (line_at lines k) → ⊥

AllApart : (List ℕ → ℕ) → List (List ℕ) → Type 0
AllApart f [] = Unit {0}
AllApart f (line ∷ lines) = Fresh f (f line) lines × AllApart f lines

module _ (f : List ℕ → ℕ) where
  places_apart : (lines : List (List ℕ)) → ((i j : ℕ) → i < j → j < length lines → f (line_at lines i) ≡ f (line_at lines j) → ⊥) → AllApart f lines
  unfolding AllApart Fresh
  places_apart [] all = tt
  places_apart (line ∷ lines) all = (λ k h. all 0 (suc k) (omega arith) (omega arith), places_apart lines (λ i j h l. all (suc i) (suc j) (omega arith) (omega arith)))

  apart_distinct : (lines : List (List ℕ)) → AllApart f lines → Distinct (map f lines)
  unfolding AllApart Fresh Distinct
  apart_distinct [] all i j h l = absurd (omega arith)
  apart_distinct (line ∷ lines) all i zero h l = absurd (omega arith)
  apart_distinct (line ∷ lines) all zero (suc j) h l = λ e. all.0 j (omega (arith, length-map lines f)) (e ∙ map_at f [] 0 lines j (omega (arith, length-map lines f)))
  apart_distinct (line ∷ lines) all (suc i) (suc j) h l = apart_distinct lines all.1 i j (omega arith) (omega arith)

  module _ (pick : List ℕ → Bool) where
    fresh_filter : (x : ℕ) (lines : List (List ℕ)) → Fresh f x lines → Fresh f x (filter pick lines)
    unfolding Fresh
    fresh_filter x [] all = all
    fresh_filter x (line ∷ lines) all = go (pick line) (fresh_filter x lines (λ k h. all (suc k) (omega arith)))
      where
        go : (b : Bool) → Fresh f x (filter pick lines) → Fresh f x (cond b (line ∷ filter pick lines) (filter pick lines))
        go true rest zero h e = all 0 (omega arith) e
        go true rest (suc k) h e = rest k (omega arith) e
        go false rest k h e = rest k h e

    apart_filter : (lines : List (List ℕ)) → AllApart f lines → AllApart f (filter pick lines)
    unfolding AllApart
    apart_filter [] all = tt
    apart_filter (line ∷ lines) all = go (pick line) (apart_filter lines all.1)
      where
        go : (b : Bool) → AllApart f (filter pick lines) → AllApart f (cond b (line ∷ filter pick lines) (filter pick lines))
        go true rest = (fresh_filter (f line) lines all.0, rest)
        go false rest = rest

    -- a first line that isn't picked may stand before those that are
    apart_first : (line : List ℕ) (lines : List (List ℕ)) → pick line ≡ false → AllApart f (line ∷ lines) → AllApart f (line ∷ filter pick (line ∷ lines))
    unfolding AllApart
    apart_first line lines e all = rw e (fresh_filter (f line) lines all.0, apart_filter lines all.1)

bills_ids : (header : List ℕ) (lines : List (List ℕ)) → map (λ (b : Bill). b.record_id) (map (bill_in header) lines) ≡ map id_in lines
unfolding bill_in
bills_ids header [] = refl
bills_ids header (line ∷ lines) = ap (λ (l : List ℕ). id_in line ∷ l) (bills_ids header lines)

-- ---- what holds of each line that is a bill holds of each bill
module _ (P : Bill → Type 0) (header : List ℕ) where
  every_picked : (lines : List (List ℕ)) → ((i : ℕ) → i < length lines → is_bill (line_at lines i) ≡ true → P (bill_in header (line_at lines i)))
      → (other : Bill) (k : ℕ) → k < length (map (bill_in header) (filter is_bill lines)) → P (get_or (map (bill_in header) (filter is_bill lines)) k other)
  every_picked [] all other k h = absurd (omega arith)
  every_picked (line ∷ lines) all other k h = go (is_bill line) refl (every_picked lines (λ i h. all (suc i) (omega arith)) other) k h
    where
      rest : List Bill
      rest = map (bill_in header) (filter is_bill lines)

      go : (b : Bool) → is_bill line ≡ b → ((k : ℕ) → k < length rest → P (get_or rest k other)) → (k : ℕ)
          → k < length (map (bill_in header) (cond b (line ∷ filter is_bill lines) (filter is_bill lines))) → P (get_or (map (bill_in header) (cond b (line ∷ filter is_bill lines) (filter is_bill lines))) k other)
      go true e earlier zero h = all 0 (omega arith) e
      go true e earlier (suc k) h = earlier k (omega arith)
      go false e earlier k h = earlier k h

pub every_bill : (P : Bill → Type 0) (lines : List (List ℕ)) → ((i : ℕ) → i < length lines → is_bill (line_at lines i) ≡ true → P (bill_in (line_at lines 0) (line_at lines i)))
    → (other : Bill) (k : ℕ) → k < length (bills_in lines) → P (get_or (bills_in lines) k other)
unfolding bills_in
every_bill P lines all = every_picked P (line_at lines 0) lines all

-- a file has at most as many bills as lines
filter_few : (pick : List ℕ → Bool) (lines : List (List ℕ)) → length (filter pick lines) ≤ length lines
filter_few pick [] = lit≤ tt
filter_few pick (line ∷ lines) = go (pick line) (filter_few pick lines)
  where
    go : (b : Bool) → length (filter pick lines) ≤ length lines → length (cond b (line ∷ filter pick lines) (filter pick lines)) ≤ suc (length lines)
    go true h = omega arith
    go false h = omega arith

pub bills_few : (lines : List (List ℕ)) → length (bills_in lines) ≤ length lines
unfolding bills_in
bills_few lines = omega (arith, length-map (filter is_bill lines) (bill_in (line_at lines 0)), filter_few is_bill lines)

-- ════ a file that passes
module _ {retailer : ℕ} {distributors : List ℕ} {lines : List (List ℕ)} (p : Passing retailer distributors lines) where
  required_fits : (i : ℕ) → i < length lines → (k : ℕ) → is_required (type_at lines i) k ≡ true
      → fits_filled (field_type (type_at lines i) k) (field (k + 1) (line_at lines i)) ≡ true
  unfolding is_required fits_type
  required_fits i h k e = second_of_lem (eqb (length text) 0) _ (ne_eqb (length text) 0 (λ z. filled ((empty_is text).0 z))) (p.fitting i h k inside)
    where
      line : List ℕ
      line = line_at lines i

      text : List ℕ
      text = field (k + 1) line

      told : (k < field_count (type_in line)) × (is_mandatory (type_in line) k ≡ true) × (eqb (type_in line) FH && eqb k 1 ≡ false)
      told =
          let q = (both_of (ltb k (field_count (type_in line))) (is_mandatory (type_in line) k && not (eqb (type_in line) FH && eqb k 1))).0 e in
          let r = (both_of (is_mandatory (type_in line) k) (not (eqb (type_in line) FH && eqb k 1))).0 q.1 in
          (ltb-true k (field_count (type_in line)) q.0, r.0, not-true (eqb (type_in line) FH && eqb k 1) r.1)

      inside : k < length (record_fields line)
      inside = rw (fields_known line (p.formatted i h).known, (p.formatted i h).count) told.0

      filled : text ≡ [] → ⊥
      filled = (p.filled i h).filled k inside told.1 (λ w. true≢false (sym ((both_of (eqb (type_in line) FH) (eqb k 1)).1 (eq-eqb (type_in line) FH w.0, eq-eqb k 1 w.1)) ∙ told.2))

  -- of a record whose type is known
  pub mandatory_fits : (i t : ℕ) → i < length lines → type_at lines i ≡ t → (k : ℕ) → is_required t k ≡ true → fits_filled (field_type t k) (field (k + 1) (line_at lines i)) ≡ true
  mandatory_fits i t h e k = subst (λ (t : ℕ). is_required t k ≡ true → fits_filled (field_type t k) (field (k + 1) (line_at lines i)) ≡ true) e (required_fits i h k)

  -- ---- Record IDs
  id_read : (i : ℕ) → i < length lines → (n : ℕ) × (id_at record_id lines i ≡ Some n) × (id_in (line_at lines i) ≡ n)
  id_read i h =
      let table = has_id_lem (type_at lines i) (p.formatted i h).known in
      let fits : is_some (digits_of (field 1 (line_at lines i))) ≡ true = rw table.1 at (mandatory_fits i (type_at lines i) h refl 0 table.0) in
      let v = read_value (digits_of (field 1 (line_at lines i))) fits in
      (v.0, ap (λ (k : ℕ). digits_of (field k (line_at lines i))) table.2 ∙ v.1, ap number_or_zero v.1)

  ids_distinct : (i j : ℕ) → i < j → j < length lines → id_in (line_at lines i) ≡ id_in (line_at lines j) → ⊥
  ids_distinct i j h l e =
      let a = id_read i (omega arith) in
      let b = id_read j l in
      p.distinct i j h l (a.1 ∙ ap Some (sym a.2 ∙ e ∙ b.2) ∙ sym b.1)

  pub bill_ids : Distinct (id_in (line_at lines 0) ∷ map (λ (b : Bill). b.record_id) (bills_in lines))
  unfolding bills_in
  bill_ids = rw (bills_ids (line_at lines 0) (filter is_bill lines)) (go lines p.some_line p.ordered.first (places_apart id_in lines ids_distinct))
    where
      go : (ls : List (List ℕ)) → 0 < length ls → type_at ls 0 ≡ FH → AllApart id_in ls → Distinct (map id_in (line_at ls 0 ∷ filter is_bill ls))
      go [] h e all = absurd (omega arith)
      go (line ∷ ls) h e all = apart_distinct id_in (line ∷ filter is_bill (line ∷ ls)) (apart_first id_in is_bill line ls (rw e) all)

  -- ---- numbers in their ranges
  sender_fits : sender_in (line_at lines 0) < 10 ^ 4
  unfolding is_required field_count is_mandatory field_type
  sender_fits = fixed_bound 4 (field 5 (line_at lines 0)) (mandatory_fits 0 FH p.some_line p.ordered.first 4 refl)

  module _ (i : ℕ) (h : i < length lines) where
    abbrev line : List ℕ
    line = line_at lines i

    -- a site is field 4 of a TH and of an OC
    site_fits : is_bill line ≡ true → number_or_zero (digits_of (field_in site line)) < 10 ^ 13
    unfolding is_required field_count is_mandatory field_type field_of
    site_fits e = go (is_period line) refl e
      where
        go : (b : Bool) → is_period line ≡ b → (b || eqb (type_in line) OC) ≡ true → number_or_zero (digits_of (field_in site line)) < 10 ^ 13
        go true q e = let type = eqb-true (type_in line) TH q in rw type (fixed_bound 13 (field 4 line) (mandatory_fits i TH h type 3 refl))
        go false q e = let type = eqb-true (type_in line) OC e in rw type (fixed_bound 13 (field 4 line) (mandatory_fits i OC h type 3 refl))

    -- the days of a TH are fields 5 and 6
    days_fit_lem : type_in line ≡ TH → number_or_zero (day_of (field_in start_day line)) ≤ number_or_zero (day_of (field_in end_day line))
    unfolding is_required field_count is_mandatory field_type field_of
    days_fit_lem type =
        let start = day_value (day_of (field 5 line)) (mandatory_fits i TH h type 4 refl) in
        let end = day_value (day_of (field 6 line)) (mandatory_fits i TH h type 5 refl) in
        let from : day_of (field_in start_day line) ≡ Some start.0 = rw type start.1 in
        let to : day_of (field_in end_day line) ≡ Some end.0 = rw type end.1 in
        rw (from, to) (p.in_order i start.0 end.0 h from to)

    line_fits : is_bill line ≡ true → BillFits (bill_in (line_at lines 0) line)
    unfolding bill_in
    line_fits e =
        record {
          sender = sender_fits;
          commodity = one_of 1 2 (same_bytes (field 6 (line_at lines 0)) (written "EL"));
          kind = one_of 2 3 (is_period line);
          record_id = number_bound (field 1 line);
          site = site_fits e;
          in_order = ordered (is_period line) refl;
          end = day_high (is_period line);
          charge = charge_bound line;
          usage = usage_small (is_period line);
          once = nothing_kept (is_period line);
          reference = reference_bound (field_in reference line);
        }
      where
        ordered : (b : Bool) → is_period line ≡ b → cond b (number_or_zero (day_of (field_in start_day line))) 0 ≤ cond b (number_or_zero (day_of (field_in end_day line))) 0
        ordered true q = days_fit_lem (eqb-true (type_in line) TH q)
        ordered false q = omega arith

        day_high : (b : Bool) → cond b (number_or_zero (day_of (field_in end_day line))) 0 ≤ 36524
        day_high true = day_or_zero_bound (field_in end_day line)
        day_high false = lit≤ tt

        usage_small : (b : Bool) → nat_abs (cond b (or_zero (usage_in line)) (pos 0)) < 10 ^ 15
        usage_small true = usage_bound line
        usage_small false = lit< tt

        nothing_kept : (b : Bool) → ◌≡◌ {A = ℕ} (cond b 2 3) 3
            → (cond b (number_or_zero (day_of (field_in start_day line))) 0 ≡ 0) × (cond b (number_or_zero (day_of (field_in end_day line))) 0 ≡ 0) × (cond b (or_zero (usage_in line)) (pos 0) ≡ pos 0)
        nothing_kept true e = absurd (omega (arith, e))
        nothing_kept false e = (refl, refl, refl)

  pub bill_fits_lem : (other : Bill) (k : ℕ) → k < length (bills_in lines) → BillFits (get_or (bills_in lines) k other)
  bill_fits_lem = every_bill BillFits lines line_fits

  pub file_fits : FileFits (bill_file lines)
  unfolding bill_file
  file_fits =
      record {
        sender = sender_fits;
        commodity = one_of 1 2 (same_bytes (field 6 (line_at lines 0)) (written "EL"));
        record_id = number_bound (field 1 (line_at lines 0));
        total = charge_bound (line_at lines (length lines - 1));
      }
