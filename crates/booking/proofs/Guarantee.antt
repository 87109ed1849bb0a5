-- Demand 3, the archive's guarantee, of a list of accepted files and of a list of Book calls.
-- Assumes nothing.
use mathlib.Core.Path.{◌≡◌, refl, sym, ap, ◌∙◌, subst, subst⁻¹}
use mathlib.Core.Logic.{◌↔◌}
use mathlib.Core.Bool.{Bool, true, false, cond}
use mathlib.Core.List.{List, [], ◌∷◌, ◌++◌, map}
use Prim.Native.Nat.{ℕ, ◌+◌, ◌≤◌}
use native.Mathlib.Nat.{zero-add}
use lib.IntN.{+ℤ_idl}
use lib.ListN.{length, take}
use Rattle.lists.specs.Selections.{filter, any, count, sum}
use Rattle.lists.proofs.Selections.{cases}
use Rattle.bill_files.specs.Accepted.{Bill, BillFile}
use Rattle.entries.specs.declared.Entry.{Entry}
use Rattle.booking.specs.Booking.{file_of, ledger_of, is_booked, run_after, used_after}
use Rattle.booking.specs.InsidePasses.{Passes}
use Rattle.booking.specs.Guarantee.{Call, Calls, is_accepted, accepted_files, booking, names, Status, held, live, cancelling, Standing, is_held_at_turn, turns, archive, status_at, Guarantee, Guaranteed}
use Rattle.booking.proofs.AcceptedFile.{accepted_passes}
use Rattle.booking.proofs.Turns.{bills_turns, Once}
use Rattle.booking.proofs.Statuses.{apart_none, apart_turns, apart_days, status_exactly, status_cancel}
use Rattle.booking.proofs.Stored.{live_entries, held_entries}
use Rattle.booking.proofs.Named.{named_once, live_and_held}
use Rattle.booking.proofs.Run.{Accepted, Agrees, empty_agrees, files_agree, files_names_one}
use Rattle.booking.proofs.Steps.{answer_accepted, refused_leaves, used_entries_after, length_run_after}

-- whatever files pass the tests, each against the ledger that those before it leave, from the empty ledger on
module _ (places : ℕ) (files : List BillFile) (ledger : List Entry) (accepted : Accepted places [] files ledger) where
  agree : Agrees [] files ledger
  agree = files_agree [] places files [] ledger empty_agrees accepted

  -- no key twice, where the list is parted at a record
  once_parted : (before after : List Bill) (b : Bill) → booking files ≡ before ++ b ∷ after → Once ([] ++ (before ++ b ∷ after))
  once_parted before after b e = subst Once (bills_turns [] (booking files) ∙ e) agree.once

  -- the status at a place, where the list is parted there
  at_place : (before after : List Bill) (b : Bill) (P : Status → Type 0) → booking files ≡ before ++ b ∷ after
      → P (status_at (length {A = Standing} [] + length before) (turns [] (before ++ b ∷ after))) → P (status_at (length before) (archive [] files))
  at_place before after b P e =
      subst P ((λ i. status_at (zero-add (length before) i) (turns [] (before ++ b ∷ after))) ∙ ap (λ (l : List Bill). status_at (length before) (turns [] l)) (sym e))

  exactly : (t : Bool) (before after : List Bill) (b : Bill) → booking files ≡ before ++ b ∷ after → b.cancel ≡ false
      → (status_at (length before) (archive [] files) ≡ cond t held live) ↔ ((is_held_at_turn (turns [] before) b ≡ t) × (any (λ c. names c b) after ≡ false))
  exactly t before after b e o =
      at_place before after b (λ s. (s ≡ cond t held live) ↔ ((is_held_at_turn (turns [] before) b ≡ t) × (any (λ c. names c b) after ≡ false))) e
      (status_exactly [] before after b (once_parted before after b e) t o)

  pub files_guarantee : Guarantee files ledger
  files_guarantee =
      let v = agree in
      record {
        order = bills_turns [] (booking files);
        apart = apart_days (archive [] files) (apart_turns [] (booking files) apart_none);
        names_one = files_names_one [] places files [] ledger empty_agrees accepted;
        named_once =
            λ b. subst (λ (l : List Bill). count (λ c. names c b) l ≤ 1) (bills_turns [] (booking files)) (named_once (archive [] files) v.once v.pair_off b);
        held_exactly = exactly true;
        live_exactly = exactly false;
        cancel_neither =
            λ before after c e y. at_place before after c (λ s. s ≡ cancelling) e (status_cancel [] before after c (once_parted before after c e) y);
        totals = sym (+ℤ_idl (sum (λ f. f.total) files)) ∙ v.sums ∙ sym (live_and_held (archive [] files));
        live_entries = live_entries ledger (archive [] files) v.stores;
        held_entries = held_entries ledger (archive [] files) v.stores;
      }

-- ════ the calls

-- the files of a list of calls: the first call's own comes before those of the rest if its answer accepts
first_file : (c : Call) (calls : List Call) (x : Bool) → is_accepted c.answer ≡ x
    → accepted_files (c ∷ calls) ≡ cond x (file_of c.input ∷ accepted_files calls) (accepted_files calls)
first_file c calls x e =
    ap (λ (y : Bool). map (λ c. file_of c.input) (cond y (c ∷ filter (λ c. is_accepted c.answer) calls) (filter (λ c. is_accepted c.answer) calls))) e
    ∙ go x
  where
    go : (x : Bool)
        → map (λ c. file_of c.input) (cond x (c ∷ filter (λ c. is_accepted c.answer) calls) (filter (λ c. is_accepted c.answer) calls))
        ≡ cond x (file_of c.input ∷ accepted_files calls) (accepted_files calls)
    go true = refl
    go false = refl

-- the accepted calls book their files, and the others leave the used entries; the run's length stays
calls_accepted : (places : ℕ) (run run' : List Entry) (used used' : ℕ) (calls : List Call) → length run ≡ places → Calls run used calls run' used'
    → Accepted places (take used run) (accepted_files calls) (take used' run')
calls_accepted places run run' used used' [] size (same-run, same_used) = λ i. take (same_used i) (same-run i)
calls_accepted places run run' used used' (c ∷ calls) size (next, next-used, step, rest) =
    let i = c.input in
    let met = step.met in
    let lent : ledger_of i ≡ take used run = λ t. take (step.lent_used t) (step.lent_run t) in
    let sized : length i.run ≡ places = ap length step.lent_run ∙ size in
    let passes = accepted_passes i in
    let answer = answer_accepted i c.answer met.answers in
    let length_next = ap length met.leaves_run ∙ length_run_after i passes ∙ sized in
    let later = calls_accepted places next run' next-used used' calls length_next rest in
    let ledger : take next-used next ≡ take (used_after i) (run_after i) = λ t. take (met.leaves_used t) (met.leaves_run t) in
    let from : List Entry → Type 0 = λ l. Accepted places l (accepted_files calls) (take used' run') in
    subst (λ (l : List Entry). Accepted places l (accepted_files (c ∷ calls)) (take used' run')) lent
    (cases (is_booked i)
    (λ e.
    subst⁻¹ (λ (files : List BillFile). Accepted places (ledger_of i) files (take used' run')) (first_file c calls true (answer ∙ e)) (
      subst (λ (n : ℕ). Passes n (ledger_of i) (file_of i)) sized (passes e),
      subst from (ledger ∙ used_entries_after i e) later,
    ))
    (λ e.
    let left = refused_leaves i e in
    subst⁻¹ (λ (files : List BillFile). Accepted places (ledger_of i) files (take used' run')) (first_file c calls false (answer ∙ e))
    (subst from (ledger ∙ (λ t. take (left.1 t) (left.0 t))) later)))

pub guarantee : Guaranteed
guarantee run run' used' calls called =
    files_guarantee (length run) (accepted_files calls) (take used' run') (calls_accepted (length run) run run' 0 used' calls refl called)
