-- Request 4: "For each held entry the desk must send a TBD. Write one from a held entry's place, into lent bytes".
-- Assumes nothing.
use Rattle.std.specs.Prelude.{ℕ, ◌≡◌, Bool, cond, not, ◌&&◌, ◌||◌, List, [], ◌∷◌, ◌++◌, eqb, ltb, length, drop}
use Rattle.digits.specs.Digits.{number_of}
use Rattle.fields.specs.declared.FieldType.{FieldType}
use Rattle.fields.specs.declared.FieldType.TheVariants.{RecordId, DateTime}
use Rattle.fields.specs.Fields.{fits_type}
use Rattle.format.specs.Format.{is_empty}
use Rattle.entries.specs.declared.Entry.{Entry}
use Rattle.entries.specs.Entries.{entry_of, is_held, is_period}
use Rattle.soundness.specs.Sound.{is_sound}
use Rattle.refusals.specs.declared.Outcome.{Outcome}
use Rattle.refusals.specs.Refusals.{Refusal, at_line, house, first_refusal}
use Rattle.refusals.specs.Check.{settings_fit}
use Rattle.refusals.specs.Answers.{Answer, packed}
use Rattle.dispute_lines.specs.declared.Dispute.{Dispute}
use Rattle.dispute_lines.specs.Line.{dispute_line}

-- "The caller supplies settings, Transaction ID, Date Created and the Tariff Bill File Record ID"
pub record Supplied : Type 0 where
  pub retailer : ℕ
  pub distributors : List ℕ
  pub transaction : List ℕ
  pub created : List ℕ
  pub file : List ℕ

abbrev pub supplied : ℕ → List ℕ → List ℕ → List ℕ → List ℕ → Supplied
supplied retailer distributors transaction created file =
    record { retailer = retailer; distributors = distributors; transaction = transaction; created = created; file = file }

-- "3 if a supplied field is empty or misses its type"
abbrev pub empty_or_unfit : FieldType → List ℕ → Bool
empty_or_unfit t s = is_empty s || not (fits_type t s)

unfoldable pub some_unfit : Supplied → Bool
some_unfit s = empty_or_unfit RecordId s.transaction || (empty_or_unfit DateTime s.created || empty_or_unfit RecordId s.file)

-- "108 if the place is no held entry": a place at or past the used count has none
unfoldable pub is_held_at : List Entry → ℕ → ℕ → Bool
is_held_at run used place = ltb place used && is_held (entry_of run place)

-- A5.25: "7004", "Tariff bill period overlap (with previous tariff bill files)"
abbrev pub overlap_code : ℕ
overlap_code = 7004

-- of an entry that is no period, the Record ID is that of a one-time charge
abbrev pub dispute_of : Supplied → Entry → Dispute
dispute_of s e =
    record {
      transaction = number_of s.transaction;
      retailer = s.retailer;
      distributor = e.sender;
      file = number_of s.file;
      site = e.site;
      once = not (is_period e);
      id = e.id;
      code = overlap_code;
    }

abbrev pub line_for : Supplied → Entry → List ℕ
line_for s e = dispute_line (dispute_of s e) s.created

-- "Checks: 104, 105, 3 if a supplied field is empty or misses its type, 108 if the place is no held entry, 109 if the output is shorter than the line, in
-- this order."
unfoldable pub dispute_refusals : Supplied → List Entry → ℕ → ℕ → List ℕ → List Refusal
dispute_refusals s run used place out =
    house 104 (not (settings_fit s.retailer s.distributors))
    ∷ house 105 (not (is_sound run used))
    ∷ at_line 3 0 (some_unfit s)
    ∷ house 108 (not (is_held_at run used place))
    ∷ house 109 (ltb (length out) (length (line_for s (entry_of run place))))
    ∷ []

-- the number of the refusal; or 0, and "its length is answered"
abbrev pub answer_of : Outcome → ℕ → Answer
answer_of refusal size = record { number = refusal.number; value = cond (eqb refusal.number 0) size 0 }

-- "Output beyond the line stays untouched, and all of it on a refusal."
abbrev pub out_after : Outcome → List ℕ → List ℕ → List ℕ
out_after refusal line out = cond (eqb refusal.number 0) (line ++ drop (length line) out) out

-- what a call answers, in one word, and leaves
pub record Disputed (s : Supplied) (run : List Entry) (used place : ℕ) (out : List ℕ) (word : ℕ) (after : List ℕ) : Type 0 where
  pub answers : word ≡ packed (answer_of (first_refusal (dispute_refusals s run used place out)) (length (line_for s (entry_of run place))))
  pub leaves : after ≡ out_after (first_refusal (dispute_refusals s run used place out)) (line_for s (entry_of run place)) out
