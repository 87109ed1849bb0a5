-- An answer of Totals or of Find, and a held entry, is known by document 01's number and values.
--     totals_answer, found_answer, held_answer     two answers with the same result are the same
-- Assumes nothing.
use Rattle.std.specs.Prelude.{Result, Ok, Err, Some, None}
use Rattle.std.specs.Prelude as std
use Prim.Native.Nat.{ℕ}
use mathlib.Core.Path.{◌≡◌, refl, sym, ◌∙◌, ap}
use mathlib.Core.Bool.{cond}
use Rattle.std.specs.Prelude.{Option, Some, None}
use lib.Dec.{eqb}
use Rattle.ledger.specs.declared.Totals.{Totals}
use Rattle.ledger.specs.declared.Refusal.{Refusal}
use Rattle.ledger.specs.declared.Refusal.TheVariants as refusal
use Rattle.entries.specs.declared.Entry.{Entry}
use Rattle.ledger.specs.Ledger.{TotalsResult, FindResult}
use Rattle.ledger.specs.InsideHeld.{HeldResult, held_result_of}
use Rattle.ledger.specs.InsideResults.{result_of_totals, result_of_found}

-- ---- the answer, read back from its result
abbrev refused : ℕ → Refusal
refused number = cond (eqb number 105) refusal.Unsound (cond (eqb number 106) refusal.OutOfRange refusal.NotHeld)

abbrev totals_of : TotalsResult → Result Totals Refusal
totals_of r = cond (eqb r.number 0) (Ok (record { live = r.live; held = r.held })) (Err (refused r.number))

totals_back : (a : Result Totals Refusal) → totals_of (result_of_totals a) ≡ a
totals_back (Ok totals) = refl
totals_back (Err refusal.Unsound) = refl
totals_back (Err refusal.OutOfRange) = refl
totals_back (Err refusal.NotHeld) = refl

pub totals_answer : (a b : Result Totals Refusal) → result_of_totals a ≡ result_of_totals b → a ≡ b
totals_answer a b same = sym (totals_back a) ∙ ap totals_of same ∙ totals_back b

abbrev at_place : Option ℕ → Result (std.Option ℕ) Refusal
at_place None = Ok None
at_place (Some place) = Ok (Some place)

abbrev found_of : FindResult → Result (std.Option ℕ) Refusal
found_of r = cond (eqb r.number 0) (at_place r.place) (Err (refused r.number))

found_back : (a : Result (std.Option ℕ) Refusal) → found_of (result_of_found a) ≡ a
found_back (Ok (Some place)) = refl
found_back (Ok None) = refl
found_back (Err refusal.Unsound) = refl
found_back (Err refusal.OutOfRange) = refl
found_back (Err refusal.NotHeld) = refl

pub found_answer : (a b : Result (std.Option ℕ) Refusal) → result_of_found a ≡ result_of_found b → a ≡ b
found_answer a b same = sym (found_back a) ∙ ap found_of same ∙ found_back b

abbrev held_of : HeldResult → Result Entry Refusal
held_of r = cond (eqb r.number 0) (Ok r.entry) (Err (refused r.number))

held_back : (a : Result Entry Refusal) → held_of (held_result_of a) ≡ a
held_back (Ok entry) = refl
held_back (Err refusal.Unsound) = refl
held_back (Err refusal.OutOfRange) = refl
held_back (Err refusal.NotHeld) = refl

pub held_answer : (a b : Result Entry Refusal) → held_result_of a ≡ held_result_of b → a ≡ b
held_answer a b same = sym (held_back a) ∙ ap held_of same ∙ held_back b
