-- A dispute of what is found at a place of a ledger: that the ledger isn't sound (105), that there is no held entry (108), or the entry.
-- Assumes nothing.
use Rattle.std.specs.Prelude.{ℕ, ◌≡◌, Bool, true, false, not, ◌||◌, List, [], ◌∷◌, eqb, ltb, length, Option, Some, None, Result, Ok, Err}
use Rattle.digits.specs.Digits.{number_of as number_said}
use Rattle.fields.specs.declared.FieldType.TheVariants.{RecordId, DateTime}
use Rattle.entries.specs.declared.Entry.{Entry}
use Rattle.entries.specs.Entries.{blank}
use Rattle.ledger.specs.declared.Refusal as ledger
use Rattle.ledger.specs.declared.Refusal.TheVariants as refused
use Rattle.ledger.specs.InsideHeld.{HeldResult, held_reply}
use Rattle.refusals.specs.Refusals.{Refusal as Test, at_line, house, outcome, first_refusal}
use Rattle.refusals.specs.Check.{settings_fit}
use Rattle.refusals.specs.Answers.{packed}
use Rattle.dispute_lines.specs.declared.Dispute.{Dispute}
use Rattle.disputes.specs.declared.Ids.{Ids}
use Rattle.disputes.specs.declared.Refusal.{Refusal}
use Rattle.disputes.specs.declared.Refusal.TheVariants as refusal
use Rattle.disputes.specs.Disputes.{Supplied, empty_or_unfit, some_unfit, dispute_of, line_for, answer_of, out_after}

-- the number of each refusal
abbrev pub number_of : Refusal → ℕ
number_of refusal.Settings = 104
number_of refusal.Unsound = 105
number_of refusal.Unfit = 3
number_of refusal.NotHeld = 108
number_of refusal.NoRoom = 109

-- a ledger that isn't sound is told as such; whatever else it refuses, there is no held entry
abbrev pub refusal_of : ledger.Refusal → Refusal
refusal_of refused.Unsound = refusal.Unsound
refusal_of refused.OutOfRange = refusal.NotHeld
refusal_of refused.NotHeld = refusal.NotHeld

-- what is found, of each case of the answer
abbrev pub found_of : Result Entry ledger.Refusal → HeldResult
found_of (Ok e) = held_reply 0 e
found_of (Err e) = held_reply (number_of (refusal_of e)) blank

-- a supplied field is empty or misses its type
abbrev pub unfit : List ℕ → List ℕ → List ℕ → Bool
unfit transaction created file = empty_or_unfit RecordId transaction || (empty_or_unfit DateTime created || empty_or_unfit RecordId file)

-- what is read of the supplied fields, which are filled and fit: the numbers of the two IDs
pub record IdsRead (transaction created file : List ℕ) (r : Ids) : Type 0 where
  pub fits : unfit transaction created file ≡ false
  pub first : r.transaction ≡ number_said transaction
  pub second : r.file ≡ number_said file
  pub moment : length created ≡ 14

abbrev pub IdsTold : List ℕ → List ℕ → List ℕ → Option Ids → Type 0
IdsTold transaction created file (Some r) = IdsRead transaction created file r
IdsTold transaction created file None = unfit transaction created file ≡ true

-- the refusals, by what is found
unfoldable pub refusals_of : Supplied → HeldResult → List ℕ → List Test
refusals_of s found out =
    house 104 (not (settings_fit s.retailer s.distributors))
    ∷ house 105 (eqb found.number 105)
    ∷ at_line 3 0 (some_unfit s)
    ∷ house 108 (eqb found.number 108)
    ∷ house 109 (ltb (length out) (length (line_for s found.entry)))
    ∷ []

-- the dispute d is asked for: none of the refusals but 109 applies
pub record Asked (s : Supplied) (found : HeldResult) (d : Dispute) : Type 0 where
  pub settings : settings_fit s.retailer s.distributors ≡ true
  pub fields : some_unfit s ≡ false
  pub held : found.number ≡ 0
  pub moment : length s.created ≡ 14
  pub same : d ≡ dispute_of s found.entry

abbrev pub AskedTold : Supplied → HeldResult → Result Dispute Refusal → Type 0
AskedTold s found (Ok d) = Asked s found d
AskedTold s found (Err e) = (out : List ℕ) → first_refusal (refusals_of s found out) ≡ outcome (number_of e) 0

pub record DisputedBy (s : Supplied) (found : HeldResult) (out : List ℕ) (word : ℕ) (after : List ℕ) : Type 0 where
  pub answers : word ≡ packed (answer_of (first_refusal (refusals_of s found out)) (length (line_for s found.entry)))
  pub leaves : after ≡ out_after (first_refusal (refusals_of s found out)) (line_for s found.entry) out
