-- A dispute of what is found at a place is the dispute of that place.
--     told           what a call answers and leaves, by its tests
--     by_held        the same of what is found: 105 and 108 say that there is no entry to write
--     dispute_found  what is promised of the one is promised of the other
--     found_held, dispute_answered    the same of what the ledger answers
-- Assumes nothing.
use Rattle.std.specs.Prelude.{Result, Ok, Err}
use Prim.Native.Nat.{ℕ}
use native.Mathlib.Omega.{arith}
use mathlib.Core.Path.{◌≡◌, refl, sym, ◌∙◌, ap, subst}
use mathlib.Core.Bool.{Bool, true, false, cond, not, ◌&&◌}
use mathlib.Core.List.{List, [], ◌∷◌}
use lib.Dec.{ltb}
use lib.ListN.{length}
use Rattle.entries.specs.declared.Entry.{Entry}
use Rattle.entries.specs.Entries.{entry_of, blank, is_held}
use Rattle.soundness.specs.Sound.{is_sound}
use Rattle.ledger.specs.declared.Refusal.{Refusal}
use Rattle.ledger.specs.declared.Refusal.TheVariants as refused
use Rattle.ledger.specs.InsideHeld.{HeldResult, held_reply, held_result, held_result_of}
use Rattle.refusals.specs.declared.Outcome.{Outcome}
use Rattle.refusals.specs.Refusals.{at_line, house, first_refusal}
use Rattle.refusals.specs.Check.{settings_fit}
use Rattle.refusals.specs.Answers.{packed}
use Rattle.disputes.specs.Disputes.{Supplied, some_unfit, is_held_at, line_for, dispute_refusals, answer_of, out_after, Disputed}
use Rattle.disputes.specs.InsideHeldEntry.{refusals_of, found_of, DisputedBy}

-- ---- the tests: 104, 105, 3, 108, and the line, which may be too long
abbrev refusal : Bool → Bool → Bool → Bool → List ℕ → List ℕ → Outcome
refusal a b c d line out = first_refusal (house 104 a ∷ house 105 b ∷ at_line 3 0 c ∷ house 108 d ∷ house 109 (ltb (length out) (length line)) ∷ [])

abbrev told : Bool → Bool → Bool → Bool → List ℕ → List ℕ → ℕ × List ℕ
told a b c d line out = (packed (answer_of (refusal a b c d line out) (length line)), out_after (refusal a b c d line out) line out)

-- where 105 applies, or 108, no line is asked for
told_105 : (a c d e : Bool) (l m out : List ℕ) → told a true c d l out ≡ told a true c e m out
unfolding first_refusal
told_105 true c d e l m out = refl
told_105 false c d e l m out = refl

told_108 : (a c : Bool) (l m out : List ℕ) → told a false c true l out ≡ told a false c true m out
unfolding first_refusal
told_108 true c l m out = refl
told_108 false true l m out = refl
told_108 false false l m out = refl

module _ (s : Supplied) (run : List Entry) (used place : ℕ) (out : List ℕ) where
  abbrev a : Bool
  a = not (settings_fit s.retailer s.distributors)

  abbrev of_entry : List ℕ
  of_entry = line_for s (entry_of run place)

  abbrev by : HeldResult → ℕ × List ℕ
  by h = (packed (answer_of (first_refusal (refusals_of s h out)) (length (line_for s h.entry))), out_after (first_refusal (refusals_of s h out)) (line_for s h.entry) out)

  abbrev found : Bool → Bool → HeldResult
  found sound held = cond sound (cond held (held_reply 0 (entry_of run place)) (held_reply 108 blank)) (held_reply 105 blank)

  by_held : (sound held : Bool) → by (found sound held) ≡ told a (not sound) (some_unfit s) (not held) of_entry out
  unfolding refusals_of
  by_held false held = told_105 a (some_unfit s) false (not held) (line_for s blank) of_entry out
  by_held true false = told_108 a (some_unfit s) (line_for s blank) of_entry out
  by_held true true = refl

  by_result : by (held_result run used place) ≡ told a (not (is_sound run used)) (some_unfit s) (not (is_held_at run used place)) of_entry out
  unfolding held_result is_held_at
  by_result = by_held (is_sound run used) (is_held_at run used place)

  pub dispute_found : (word : ℕ) (after : List ℕ) → DisputedBy s (held_result run used place) out word after → Disputed s run used place out word after
  unfolding dispute_refusals
  dispute_found word after is =
      record {
        answers = is.answers ∙ ap (λ (t : ℕ × List ℕ). t.0) by_result;
        leaves = is.leaves ∙ ap (λ (t : ℕ × List ℕ). t.1) by_result;
      }

-- ---- what the ledger answers is never that a place is out of range
in_range : (sound held : Bool) (e : Entry) → (cond sound (cond held (held_reply 0 e) (held_reply 108 blank)) (held_reply 105 blank)).number ≡ 106 → ⊥
in_range true true e q = omega arith
in_range true false e q = omega arith
in_range false held e q = omega arith

pub found_held : (run : List Entry) (used place : ℕ) (found : Result Entry Refusal) → held_result_of found ≡ held_result run used place → found_of found ≡ held_result run used place
unfolding held_result
found_held run used place (Ok e) h = h
found_held run used place (Err refused.Unsound) h = h
found_held run used place (Err refused.OutOfRange) h =
    absurd (in_range (is_sound run used) (ltb place used && is_held (entry_of run place)) (entry_of run place) (sym (ap (λ (x : HeldResult). x.number) h)))
found_held run used place (Err refused.NotHeld) h = h

pub dispute_answered : (s : Supplied) (run : List Entry) (used place : ℕ) (out : List ℕ) (found : Result Entry Refusal) → held_result_of found ≡ held_result run used place
    → (word : ℕ) (after : List ℕ) → DisputedBy s (found_of found) out word after → Disputed s run used place out word after
dispute_answered s run used place out found h word after is =
    dispute_found s run used place out word after (subst (λ (r : HeldResult). DisputedBy s r out word after) (found_held run used place found h) is)
