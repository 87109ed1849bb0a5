-- Test 6 of a record, by the numbers that its fields say and the places at which they stand.
--     Told, unasked, as_empty    a condition and the fields that it asks for
--     code_told, status_told    a field is a code exactly where its number is that of the code: the status of a TH
--     empties        some fields are empty exactly where they end as they start
--     period_told, usage_told, demand_told, charge_told, other_told    what the test says of a record of each type
-- Assumes nothing.
use mathlib.Core.Path.{◌≡◌, sym, ◌∙◌, ap, ap₂, subst}
use mathlib.Core.List.{List}
use mathlib.Core.Bool.{Bool, true, false, cond, ◌&&◌}
use Prim.Native.Nat.{ℕ, suc, ◌+◌, ◌-◌, ◌≤◌, ◌<◌}
use Prim.Native.String.{String}
use native.Mathlib.Omega.{arith}
use native.Mathlib.Decide.{dec_lt}
use borrow.Author.Tests.{eq-eqb, ne_eqb}
use lib.Dec.{T, eqb}
use lib.ListN.{length, get_or}
use Rattle.lists.specs.Below.{some_below}
use Rattle.lists.specs.Written.{written}
use Rattle.lists.proofs.Below.{some_same}
use Rattle.lists.proofs.Parts.{part_length}
use Rattle.lists.proofs.Table.{every}
use Rattle.amounts.specs.InsideSaid.{said_by}
use Rattle.records.specs.Records.{field}
use Rattle.records.specs.InsidePlacedLines.{At}
use Rattle.tables.specs.Types.{TH, DU, DD, OC}
use Rattle.tables.specs.Tables.{field_count, field_type}
use Rattle.format.specs.Format.{is_printable, is_empty}
use Rattle.format.specs.Conditional.{has_code, is_energized, is_one_of, ratchets, unpopulated}
use Rattle.format.proofs.Conditional.{empty_among, period_lacks, usage_lacks, demand_lacks, charge_lacks, other_lacks}
use Rattle.readings.specs.InsideLeadingBytes.{packed}
use Rattle.readings.specs.InsideReadings.{Says}
use Rattle.codes_and_rows.proofs.Texts.{printable_line, printable_text, packed_is}
use Rattle.codes_and_rows.proofs.FieldKinds.{has_kind, is_short_text}
use Rattle.codes_and_rows.proofs.Codes.{field_of, stands_at, field_printable, text_number}
use Rattle.conditional_fields.specs.InsideRecords.{RecordRead}

-- whether a record lacks a field: a condition asks for some fields, and one of them is empty
pub record Told (asked empty unpopulated : Bool) : Type 0 where
  same : (asked && empty) ≡ unpopulated

module _ {asked empty unpopulated : Bool} (told : Told asked empty unpopulated) where
  pub unasked : asked ≡ false → false ≡ unpopulated
  unasked e = sym (ap (λ (a : Bool). a && empty) e) ∙ told.same

  pub as_empty : asked ≡ true → {found : Bool} → found ≡ empty → found ≡ unpopulated
  as_empty e q = q ∙ sym (ap (λ (a : Bool). a && empty) e) ∙ told.same

-- a field is empty exactly where it ends as it starts
empty_place : {s : List ℕ} {a e : ℕ} {f : List ℕ} → At s a e f → eqb a e ≡ is_empty f
empty_place {s} {a} {e} {f} p = go (dec_lt a e)
  where
    long : length f ≡ e - a
    long = ap length (sym p.same) ∙ part_length s a e p.high

    go : Dec (a < e) → eqb a e ≡ eqb (length f) 0
    go (yes l) = ne_eqb a e (λ q. omega (arith, q)) ∙ sym (ne_eqb (length f) 0 (λ q. omega (arith, q, long)))
    go (no l) = eq-eqb a e (omega (arith, l, p.low)) ∙ sym (eq-eqb (length f) 0 (omega (arith, l, long)))

module _ {file line : List ℕ} {type : ℕ} {numbers bs es : List ℕ} (r : RecordRead file line type numbers bs es) where
  code_told : (j : ℕ) (code : String) → T (every (λ (i b : ℕ). is_printable b) 0 (written code)) → T (has_kind is_short_text type (suc j))
      → eqb (get_or numbers (suc j) 0) (packed (written code)) ≡ has_code (suc j) code line
  code_told j code t kind =
      let printable = printable_line line r.printable in
      ap (λ (n : ℕ). eqb n (packed (written code))) (text_number r.says r.known printable j kind)
      ∙ packed_is (field (suc j) line) (written code) (field_printable r.says r.known printable j) (printable_text (written code) t)

  -- the Site Status Code of a TH
  pub status_told : type ≡ TH → eqb (get_or numbers 11 0) (packed (written "E")) ≡ is_energized line
  unfolding field_count field_type
  status_told is = code_told 10 "E" tt (rw is tt)

  pub empties : (after count : ℕ) → after + count ≤ field_count type
      → some_below (λ (j : ℕ). eqb (get_or bs (after + j) 0) (get_or es (after + j) 0)) count ≡ empty_among (suc after) count line
  empties after count inside =
      some_same (λ (j : ℕ). eqb (get_or bs (after + j) 0) (get_or es (after + j) 0)) (λ (j : ℕ). is_empty (field (suc after + j) line)) count
      (λ j h. let next : suc after + j ≡ suc (after + j) = omega arith in
      empty_place (r.placed (after + j) (omega arith)) ∙ ap is_empty (sym (field_of r.says r.known (after + j)) ∙ ap (λ (k : ℕ). field k line) (sym next)))

  -- a condition and the fields that it asks for, by numbers and places
  asked : (j : ℕ) (code : String) (after count : ℕ) → T (every (λ (i b : ℕ). is_printable b) 0 (written code)) → T (has_kind is_short_text type (suc j)) → after + count ≤ field_count type
      → (eqb (get_or numbers (suc j) 0) (packed (written code)) && some_below (λ (j : ℕ). eqb (get_or bs (after + j) 0) (get_or es (after + j) 0)) count)
      ≡ (has_code (suc j) code line && empty_among (suc after) count line)
  asked j code after count t kind inside = ap₂ (λ (a b : Bool). a && b) (code_told j code t kind) (empties after count inside)

  module _ (period : List ℕ) where
    pub period_told : type ≡ TH
        → Told (eqb (get_or numbers 7 0) (packed (written "Y"))) (some_below (λ (j : ℕ). eqb (get_or bs (7 + j) 0) (get_or es (7 + j) 0)) 2) (unpopulated line period)
    unfolding field_count field_type
    period_told is = record { same = asked 6 "Y" 7 2 tt (rw is tt) (rw is (omega arith)) ∙ sym (period_lacks line period (r.named ∙ is)) }

    pub usage_told : type ≡ DU → {energized : Bool} → energized ≡ is_energized period
        → Told (eqb (get_or numbers 8 0) (packed (written "C"))) (some_below (λ (j : ℕ). eqb (get_or bs (8 + j) 0) (get_or es (8 + j) 0)) (cond energized 7 1)) (unpopulated line period)
    unfolding field_count field_type
    usage_told is {energized} e =
        record { same = go energized ∙ ap (λ (s : Bool). has_code 8 "C" line && cond s (empty_among 9 7 line) (empty_among 9 1 line)) e ∙ sym (usage_lacks line period (r.named ∙ is)) }
      where
        go : (s : Bool) → (eqb (get_or numbers 8 0) (packed (written "C")) && some_below (λ (j : ℕ). eqb (get_or bs (8 + j) 0) (get_or es (8 + j) 0)) (cond s 7 1))
            ≡ (has_code 8 "C" line && cond s (empty_among 9 7 line) (empty_among 9 1 line))
        go true = asked 7 "C" 8 7 tt (rw is tt) (rw is (omega arith))
        go false = asked 7 "C" 8 1 tt (rw is tt) (rw is (omega arith))

    pub demand_told : type ≡ DD
        → Told (is_one_of ratchets (said_by (get_or numbers 8 0))) (some_below (λ (j : ℕ). eqb (get_or bs (11 + j) 0) (get_or es (11 + j) 0)) 2) (unpopulated line period)
    unfolding field_count field_type Says
    demand_told is =
        record {
          same = ap₂ (λ (a b : Bool). a && b) (ap (is_one_of ratchets) (subst (λ (t : ℕ). Says (field_type t 7) (field 8 line) (get_or numbers 8 0)) is (stands_at r.says r.known 7 (rw is (omega arith))).says)) (empties 11 2 (rw is (omega arith)))
              ∙ sym (demand_lacks line period (r.named ∙ is));
        }

    pub charge_told : type ≡ OC
        → Told (eqb (get_or numbers 6 0) (packed (written "Y"))) (some_below (λ (j : ℕ). eqb (get_or bs (6 + j) 0) (get_or es (6 + j) 0)) 2) (unpopulated line period)
    unfolding field_count field_type
    charge_told is = record { same = asked 5 "Y" 6 2 tt (rw is tt) (rw is (omega arith)) ∙ sym (charge_lacks line period (r.named ∙ is)) }

    pub other_told : (type ≡ TH → ⊥) → (type ≡ DU → ⊥) → (type ≡ DD → ⊥) → (type ≡ OC → ⊥) → false ≡ unpopulated line period
    other_told th du dd oc =
        sym (other_lacks line period (λ e. th (sym r.named ∙ e)) (λ e. du (sym r.named ∙ e)) (λ e. dd (sym r.named ∙ e)) (λ e. oc (sym r.named ∙ e)))
