-- What is answered of tests that pass, or that are refused.
--     refused         a refusal that is handed on
--     numbered, exit_numbered, last_numbered      a refusal that is answered has a number
--     last_told       the last test's answer
-- Assumes nothing.
use mathlib.Core.Path.{◌≡◌, refl, ap}
use mathlib.Core.List.{List, [], ◌∷◌}
use Prim.Native.Nat.{ℕ, ◌≤◌}
use native.Mathlib.Omega.{arith}
use Rattle.std.specs.Prelude.{Result, Ok, Err}
use Rattle.std.specs.Result.{IsErrAnd, IfErr}
use Rattle.std.proofs.lemmas.Result.{err_from_is_err_and}
use Rattle.refusals.specs.declared.Outcome.{Outcome}
use Rattle.refusals.specs.Refusals.{Refusal, outcome, at_record, first_refusal}
use Rattle.refusals.proofs.Stages.{Answers, none_fails, record_fails, record_passes}
use Rattle.refusals.specs.InsideResults.{TestTold, told}

pub refused : {tests : List Refusal} (r : Result (Unit {0}) Outcome) (refusal : Outcome) → IsErrAnd r (λ o. o ≡ refusal) → Answers tests refusal → told r ≡ first_refusal tests
refused r refusal h answers = let p = err_from_is_err_and r h in rw (p.1, p.2) answers.first

pub numbered : (r : Result (Unit {0}) Outcome) (refusal : Outcome) → IsErrAnd r (λ o. o ≡ refusal) → (refusal.number ≡ 0 → ⊥) → IfErr r (λ o. o.number ≡ 0 → ⊥)
numbered r refusal h some = let p = err_from_is_err_and r h in rw (p.1, p.2) some

pub exit_numbered : (r : Result (Unit {0}) Outcome) (refusal : Outcome) → IsErrAnd r (λ o. o ≡ refusal) → {number line : ℕ} → refusal ≡ outcome number line → 1 ≤ number
    → IfErr r (λ o. o.number ≡ 0 → ⊥)
exit_numbered r refusal h e some = numbered r refusal h (λ z. omega (arith, z, some, ap (λ (o : Outcome). o.number) e))

pub last_numbered : (number n place : ℕ) (r : Result (Unit {0}) Outcome) → TestTold number n place r → 1 ≤ number → IfErr r (λ o. o.number ≡ 0 → ⊥)
last_numbered number n place (Ok _) h some = tt
last_numbered number n place (Err refusal) e some = λ z. omega (arith, z, some, ap (λ (o : Outcome). o.number) e.1)

pub last_told : (number n count place first : ℕ) (r : Result (Unit {0}) Outcome) → TestTold number n place r → n ≡ count → place ≡ first → Answers (at_record number count first ∷ []) (told r)
last_told number n count place first (Ok _) h counts found = record_passes number counts found h (none_fails refl)
last_told number n count place first (Err refusal) e counts found = record_fails number counts found e.0 e.1
