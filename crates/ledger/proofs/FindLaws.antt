-- The result of Find, as the code looks for it.
--     Told, find_is           what each answer says of the three tests and the place, and that they give its result
--     find_used               the result in a sound ledger, by the place among the entries in use
--     position_said           the place among them, as `position` finds it
--     find_out, find_said     it is 106; it is what the search for the place answers
-- Assumes nothing.
use Rattle.std.specs.Prelude.{Result, Ok, Err, Some, None, MatchOption}
use Rattle.std.specs.Prelude as std
use mathlib.Core.Path.{◌≡◌, refl, sym, subst}
use mathlib.Core.Logic.{◌↔◌}
use mathlib.Core.List.{List}
use mathlib.Core.Bool.{Bool, true, false, cond}
use Rattle.std.specs.Prelude.{Some, None}
use Prim.Native.Nat.{ℕ, ◌≤◌, ◌<◌}
use native.Mathlib.Omega.{arith}
use borrow.Author.Tests.{lt-ltb, le-ltb}
use lib.Dec.{ltb}
use lib.ListN.{length, take}
use Rattle.std.specs.List.{HoldsAt, AllWithin}
use Rattle.lists.proofs.Below.{first_is, none_is_end}
use Rattle.entries.specs.declared.Entry.{Entry}
use Rattle.entries.specs.Entries.{blank, entry_of}
use Rattle.soundness.specs.Sound.{is_sound}
use Rattle.ledger.specs.declared.Refusal.{Refusal}
use Rattle.ledger.specs.declared.Refusal.TheVariants as refusal
use Rattle.ledger.specs.Ledger.{is_askable, covers, place_of, FindResult, find_result_of, find_result}
use Rattle.ledger.specs.InsideResults.{result_of_found}
use Rattle.ledger.proofs.Answers.{found_answer}

-- ---- the result of Find, by its three tests and the place
abbrev pub resulted : Bool → Bool → Bool → ℕ → FindResult
resulted sound askable somewhere place = cond sound (cond askable (find_result_of 0 (cond somewhere (Some place) None)) (find_result_of 106 None)) (find_result_of 105 None)

-- what each answer says of them
abbrev pub Told : Bool → Bool → Bool → ℕ → Result (std.Option ℕ) Refusal → Type 0
Told sound askable somewhere place (Ok (Some i)) = (sound ≡ true) × (askable ≡ true) × (somewhere ≡ true) × (place ≡ i)
Told sound askable somewhere place (Ok None) = (sound ≡ true) × (askable ≡ true) × (somewhere ≡ false)
Told sound askable somewhere place (Err refusal.Unsound) = sound ≡ false
Told sound askable somewhere place (Err refusal.OutOfRange) = (sound ≡ true) × (askable ≡ false)
Told sound askable somewhere place (Err refusal.NotHeld) = ⊥

told : (sound askable somewhere : Bool) (place : ℕ) (r : Result (std.Option ℕ) Refusal) → resulted sound askable somewhere place ≡ result_of_found r → Told sound askable somewhere place r
told false askable somewhere place r e = subst (Told false askable somewhere place) (found_answer (Err refusal.Unsound) r e) refl
told true false somewhere place r e = subst (Told true false somewhere place) (found_answer (Err refusal.OutOfRange) r e) (refl, refl)
told true true false place r e = subst (Told true true false place) (found_answer (Ok None) r e) (refl, refl, refl)
told true true true place r e = subst (Told true true true place) (found_answer (Ok (Some place)) r e) (refl, refl, refl, refl)

answers : (sound askable somewhere : Bool) (place : ℕ) (r : Result (std.Option ℕ) Refusal) → Told sound askable somewhere place r → resulted sound askable somewhere place ≡ result_of_found r
answers sound askable somewhere place (Ok (Some i)) e = rw (e.0, e.1, e.2, e.3)
answers sound askable somewhere place (Ok None) e = rw (e.0, e.1, e.2)
answers sound askable somewhere place (Err refusal.Unsound) e = rw e
answers sound askable somewhere place (Err refusal.OutOfRange) e = rw (e.0, e.1)
answers sound askable somewhere place (Err refusal.NotHeld) e = absurd e

module _ (run : List Entry) (used site day : ℕ) where
  -- the place among the entries in use
  abbrev pub place_used : ℕ
  place_used = place_of site day (take used run)

  abbrev pub ToldBy : Result (std.Option ℕ) Refusal → Type 0
  ToldBy r = Told (is_sound run used) (is_askable site day) (ltb place_used (length (take used run))) place_used r

  pub find_is : (r : Result (std.Option ℕ) Refusal) → (find_result run used site day ≡ result_of_found r) ↔ ToldBy r
  unfolding find_result
  find_is r =
      let sound = is_sound run used in
      let askable = is_askable site day in
      let somewhere = ltb place_used (length (take used run)) in
      (told sound askable somewhere place_used r, answers sound askable somewhere place_used r)

  pub find_used : is_sound run used ≡ true → (r : Result (std.Option ℕ) Refusal) → Told true (is_askable site day) (ltb place_used (length (take used run))) place_used r
      → find_result run used site day ≡ result_of_found r
  find_used sound r is = (find_is r).1 (rw sound is)

  pub find_out : is_sound run used ≡ true → is_askable site day ≡ false → find_result run used site day ≡ find_result_of 106 None
  find_out sound out = find_used sound (Err refusal.OutOfRange) (refl, out)

  -- what the search for the place answers
  module _ (sound : is_sound run used ≡ true) (askable : is_askable site day ≡ true) (es : List Entry) (used_are : es ≡ take used run) where
    pub find_said : (r : std.Option ℕ) → MatchOption r (length es ≤ place_of site day es) (λ p. (p < length es) × (place_of site day es ≡ p))
        → result_of_found (Ok r) ≡ find_result run used site day
    find_said None past =
        let past_used = subst (λ (l : List Entry). length l ≤ place_of site day l) used_are past in
        sym (find_used sound (Ok None) (refl, askable, le-ltb place_used (length (take used run)) past_used))
    find_said (Some p) at =
        let at_used = subst (λ (l : List Entry). (p < length l) × (place_of site day l ≡ p)) used_are at in
        let inside : ltb place_used (length (take used run)) ≡ true = lt-ltb place_used (length (take used run)) (omega (arith, at_used)) in
        sym (find_used sound (Ok (Some p)) (refl, askable, inside, at_used.1))

-- ---- the place of the first entry that covers the day, as `position` finds it
pub position_said : (site day : ℕ) (es : List Entry) (r : std.Option ℕ)
    → MatchOption r (AllWithin (λ (e : Entry). covers site day e ≡ false) es 0 (length es))
    (λ i. (i < length es) × HoldsAt (λ (e : Entry). covers site day e ≡ true) es i × AllWithin (λ (e : Entry). covers site day e ≡ false) es 0 i)
    → MatchOption r (length es ≤ place_of site day es) (λ p. (p < length es) × (place_of site day es ≡ p))
unfolding place_of
position_said site day es None nowhere = omega (arith, none_is_end (λ i. covers site day (entry_of es i)) (length es) (λ j h. nowhere j blank (omega arith) h))
position_said site day es (Some p) at = (at.0, first_is (λ i. covers site day (entry_of es i)) (length es) p at.0 (at.1 blank) (λ j h. at.2 j blank (omega arith) h))
