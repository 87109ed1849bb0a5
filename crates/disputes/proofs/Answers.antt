-- What a call answers and leaves, by the test at which it ends.
--     number_some, refused_held                               a refusal has a number; what a ledger refuses that is sound
--     dispute_made                                            the dispute that is made of what was read
--     first_104, first_105, first_3, first_108              the first refusal
--     refused_by, written_by                                  what is promised then
--     first_109, first_none, asked_written                    the same of a dispute that is asked for
-- Assumes nothing.
use Prim.Native.Nat.{ℕ, ◌*◌, ◌^◌, ◌≤◌, ◌<◌}
use mathlib.Core.Path.{◌≡◌, refl, sym, ◌∙◌, ap}
use mathlib.Core.Bool.{true, false, not, true≢false}
use Rattle.digits.specs.Digits.{number_of as number_said}
use Rattle.entries.specs.declared.Entry.{Entry}
use Rattle.entries.specs.Entries.{is_period}
use mathlib.Core.List.{List, ◌++◌}
use native.Mathlib.Omega.{arith}
use lib.Dec.{eqb}
use native.Mathlib.Nat.{add-zero, zero-add}
use borrow.Author.Tests.{eq-eqb, ne_eqb, lt-ltb, le-ltb}
use lib.ListN.{length, drop}
use Rattle.writing.specs.InsideWriting.{written_at}
use Rattle.ledger.specs.declared.Refusal as ledger
use Rattle.ledger.specs.declared.Refusal.TheVariants as refused
use Rattle.ledger.specs.InsideHeld.{HeldResult}
use Rattle.refusals.specs.declared.Outcome.{Outcome}
use Rattle.refusals.specs.Refusals.{outcome, passed, first_refusal}
use Rattle.refusals.specs.Check.{settings_fit}
use Rattle.refusals.specs.Answers.{packed}
use Rattle.disputes.specs.Disputes.{Supplied, some_unfit, dispute_of, line_for, answer_of, out_after}
use Rattle.dispute_lines.specs.declared.Dispute.{Dispute}
use Rattle.dispute_lines.specs.Line.{dispute_line}
use Rattle.disputes.specs.declared.Refusal.{Refusal}
use Rattle.disputes.specs.declared.Refusal.TheVariants as refusal
use Rattle.disputes.specs.InsideHeldEntry.{number_of, refusal_of, refusals_of, Asked, DisputedBy}

pub number_some : (e : Refusal) → number_of e ≡ 0 → ⊥
number_some refusal.Settings q = omega arith
number_some refusal.Unsound q = omega arith
number_some refusal.Unfit q = omega arith
number_some refusal.NotHeld q = omega arith
number_some refusal.NoRoom q = omega arith

pub refused_held : (e : ledger.Refusal) → eqb (number_of (refusal_of e)) 105 ≡ false → refusal_of e ≡ refusal.NotHeld
refused_held refused.Unsound q = absurd (true≢false q)
refused_held refused.OutOfRange q = refl
refused_held refused.NotHeld q = refl

-- the dispute that is made of what was read
pub dispute_made : (s : Supplied) (e f : Entry) (m n : ℕ) → f ≡ e → m ≡ number_said s.transaction → n ≡ number_said s.file
    → record { transaction = m; retailer = s.retailer; distributor = e.sender; file = n; site = e.site; once = not (is_period e); id = e.id; code = 7004 } ≡ dispute_of s f
dispute_made s e f m n same a b = rw (same, a, b)

module _ (s : Supplied) (found : HeldResult) (out : List ℕ) where
  abbrev first : Outcome
  first = first_refusal (refusals_of s found out)

  abbrev line : List ℕ
  line = line_for s found.entry

  pub first_104 : settings_fit s.retailer s.distributors ≡ false → first ≡ outcome 104 0
  unfolding first_refusal refusals_of
  first_104 a = rw a

  module _ (a : settings_fit s.retailer s.distributors ≡ true) where
    pub first_105 : eqb found.number 105 ≡ true → first ≡ outcome 105 0
    unfolding first_refusal refusals_of
    first_105 b = rw (a, b)

    module _ (b : eqb found.number 105 ≡ false) where
      pub first_3 : some_unfit s ≡ true → first ≡ outcome 3 0
      unfolding first_refusal refusals_of
      first_3 c = rw (a, b, c)

      pub first_108 : some_unfit s ≡ false → found.number ≡ 108 → first ≡ outcome 108 0
      unfolding first_refusal refusals_of
      first_108 c d = rw (a, b, c, eq-eqb found.number 108 d)

  pub refused_by : (n : ℕ) (word : ℕ) → first ≡ outcome n 0 → (n ≡ 0 → ⊥) → word ≡ n * 2 ^ 32 → DisputedBy s found out word out
  refused_by n word e some w =
      record {
        answers = w ∙ sym (ap (λ (o : Outcome). packed (answer_of o (length line))) e ∙ rw (ne_eqb n 0 some) (add-zero (n * 2 ^ 32)));
        leaves = sym (ap (λ (o : Outcome). out_after o line out) e ∙ rw (ne_eqb n 0 some));
      }

  pub written_by : (word : ℕ) (after : List ℕ) → first ≡ passed → word ≡ length line → after ≡ written_at out 0 line → DisputedBy s found out word after
  unfolding written_at
  written_by word after e w l =
      record {
        answers = w ∙ sym (ap (λ (o : Outcome). packed (answer_of o (length line))) e ∙ zero-add (length line));
        leaves = l ∙ ap (λ (n : ℕ). line ++ drop n out) (zero-add (length line)) ∙ sym (ap (λ (o : Outcome). out_after o line out) e);
      }

  -- what is asked for
  module _ (d : Dispute) (k : Asked s found d) where
    size : length (dispute_line d s.created) ≡ length line
    size = ap (λ (x : Dispute). length (dispute_line x s.created)) k.same

    sound : eqb found.number 105 ≡ false
    sound = ne_eqb found.number 105 (λ e. omega (arith, e, k.held))

    held : eqb found.number 108 ≡ false
    held = ne_eqb found.number 108 (λ e. omega (arith, e, k.held))

    pub first_109 : length out < length (dispute_line d s.created) → first ≡ outcome 109 0
    unfolding first_refusal refusals_of
    first_109 e = rw (k.settings, sound, k.fields, held, lt-ltb (length out) (length line) (omega (arith, e, size)))

    pub first_none : length (dispute_line d s.created) ≤ length out → first ≡ passed
    unfolding first_refusal refusals_of
    first_none e = rw (k.settings, sound, k.fields, held, le-ltb (length out) (length line) (omega (arith, e, size)))

    pub asked_written : (word : ℕ) (after : List ℕ) → length (dispute_line d s.created) ≤ length out → word ≡ length (dispute_line d s.created)
        → after ≡ written_at out 0 (dispute_line d s.created) → DisputedBy s found out word after
    asked_written word after h w l =
        written_by word after (first_none h) (w ∙ size) (l ∙ ap (λ (x : Dispute). written_at out 0 (dispute_line x s.created)) k.same)
