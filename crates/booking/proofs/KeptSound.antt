-- The ledger stays sound, and from an empty one no list of Book calls meets 105.
--     stays_sound       a call leaves a sound ledger sound, whether it accepts or refuses
--     calls_sound       from any sound ledger no call of a list answers 105, and the ledger is sound after it
--     never_unsound     from an empty ledger of at most 8,192 places no call of a list answers 105, and the ledger is sound after it
-- Assumes nothing.
use mathlib.Core.Path.{◌≡◌, refl, sym, ap, ◌∙◌}
use mathlib.Core.Logic.{⊎_elim}
use mathlib.Core.Bool.{Bool, true, false, ◌&&◌, cond}
use mathlib.Core.List.Memᴰ
use mathlib.Core.List.{List, [], ◌∷◌, ◌++◌, Memᴰ}
use Prim.Native.Nat.{ℕ, ◌≤◌}
use native.Mathlib.Omega.{arith}
use borrow.Author.Tests.{le-leb, leb-true}
use lib.Dec.{leb}
use lib.ListN.{length, take, drop, length-append, length-take, length-drop}
use lib.Seq.{take-append_seam}
use Rattle.lists.proofs.Selections.{and_left, and_right, and_both}
use Rattle.entries.specs.declared.Entry.{Entry}
use Rattle.soundness.specs.Sound.{sizes_fit, entries_sound, is_sound}
use Rattle.soundness.proofs.Meaning.{empty_sound}
use Rattle.booking.specs.InsideKept.{EntriesSound}
use Rattle.booking.specs.Booking.{Input, file_of, ledger_of, is_booked, ledger_after, Result, result_of, used_after, run_after}
use Rattle.booking.specs.Guarantee.{Call, Calls}
use Rattle.booking.proofs.Kept.{kept}
use Rattle.booking.proofs.Added.{length_booked}
use Rattle.booking.proofs.AcceptedFile.{accepted_passes}
use Rattle.booking.proofs.KeptAnswers.{never_105}
use Rattle.booking.proofs.KeptMeaning.{entries_sound_means}

-- ---- the sizes, and the used entries
record Sizes (run : List Entry) (used : ℕ) : Type 0 where
  few : length run ≤ 8192
  room : used ≤ length run
  entries : entries_sound (take used run) ≡ true

sizes : (run : List Entry) (used : ℕ) → is_sound run used ≡ true → Sizes run used
unfolding is_sound sizes_fit
sizes run used t =
    let fit = and_left (leb (length run) 8192 && leb used (length run)) (entries_sound (take used run)) t in
    record {
      few = leb-true (length run) 8192 (and_left (leb (length run) 8192) (leb used (length run)) fit);
      room = leb-true used (length run) (and_right (leb (length run) 8192) (leb used (length run)) fit);
      entries = and_right (leb (length run) 8192 && leb used (length run)) (entries_sound (take used run)) t;
    }

sized : (run : List Entry) (used : ℕ) → Sizes run used → is_sound run used ≡ true
unfolding is_sound sizes_fit
sized run used s =
    and_both (leb (length run) 8192 && leb used (length run)) (entries_sound (take used run))
    (and_both (leb (length run) 8192) (leb used (length run)) (le-leb (length run) 8192 s.few) (le-leb used (length run) s.room))
    s.entries

-- entries in the first places of a run
front_sized : (l run : List Entry) → length l ≤ length run → length run ≤ 8192 → entries_sound l ≡ true → Sizes (l ++ drop (length l) run) (length l)
front_sized l run fits few s =
    let whole = length-append l (drop (length l) run) in
    let rest = length-drop (length l) run in
    record { few = omega arith; room = omega arith; entries = ap entries_sound (take-append_seam l (drop (length l) run)) ∙ s }

few_used : (run : List Entry) (used : ℕ) → length run ≤ 8192 → length (take used run) ≤ 8192
few_used run used few = let size = length-take used run in omega arith

pub used_sound : (run : List Entry) (used : ℕ) → is_sound run used ≡ true → EntriesSound (take used run)
used_sound run used t = let z = sizes run used t in (entries_sound_means (take used run) (few_used run used z.few)).0 z.entries

pub stays_sound : (i : Input) → is_sound i.run i.used ≡ true → is_sound (run_after i) (used_after i) ≡ true
unfolding run_after used_after
stays_sound i t = go (is_booked i) refl
  where
    go : (b : Bool) → is_booked i ≡ b → is_sound (cond b (ledger_after i ++ drop (length (ledger_after i)) i.run) i.run) (cond b (length (ledger_after i)) i.used) ≡ true
    go true e =
        let p = accepted_passes i e in
        let l = ledger_of i in
        let after = ledger_after i in
        let z = sizes i.run i.used t in
        let sound = kept (length i.run) l (file_of i) (used_sound i.run i.used t) p in
        let size = length_booked l (file_of i) in
        sized (after ++ drop (length after) i.run) (length after)
        (front_sized after i.run (omega (arith, p.room)) z.few ((entries_sound_means after (omega (arith, p.room, z.few))).1 sound))
    go false e = t

pub calls_sound : (run : List Entry) (used : ℕ) (calls : List Call) (run' : List Entry) (used' : ℕ) → is_sound run used ≡ true → Calls run used calls run' used'
    → ((c : Call) → Memᴰ c calls → (result_of c.answer).number ≡ 105 → ⊥) × (is_sound run' used' ≡ true)
calls_sound run used [] run' used' t r = (λ c m e. Memᴰ.not-nil m, sym (λ i. is_sound (r.0 i) (r.1 i)) ∙ t)
calls_sound run used (call ∷ calls) run' used' t (after, count, step, rest) =
    let b = step.met in
    let lent : is_sound call.input.run call.input.used ≡ true = (λ i. is_sound (step.lent_run i) (step.lent_used i)) ∙ t in
    let next : is_sound after count ≡ true = (λ i. is_sound (b.leaves_run i) (b.leaves_used i)) ∙ stays_sound call.input lent in
    let later = calls_sound after count calls run' used' next rest in
    let here : (c : Call) → c ≡ call → (result_of c.answer).number ≡ 105 → ⊥ =
    λ c same e. never_105 call.input lent (ap (λ (r : Result). r.number) (sym b.answers) ∙ ap (λ (d : Call). (result_of d.answer).number) (sym same) ∙ e) in
    (λ c m e. ⊎_elim (λ same. here c same e) (λ in_rest. later.0 c in_rest e) (Memᴰ.cases_cons m), later.1)

pub never_unsound : (run run' : List Entry) (used' : ℕ) (calls : List Call) → length run ≤ 8192 → Calls run 0 calls run' used'
    → ((c : Call) → Memᴰ c calls → (result_of c.answer).number ≡ 105 → ⊥) × (is_sound run' used' ≡ true)
never_unsound run run' used' calls few = calls_sound run 0 calls run' used' (empty_sound run few)
