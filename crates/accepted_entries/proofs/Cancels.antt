-- The loop that writes the cancels.
--     Cancelling         its invariant
--     cancelling_step    it holds after one bill more
--     room_left          a cancel has a place to be written at
-- Assumes nothing.
use mathlib.Core.Path.{◌≡◌, refl, sym, ap, ◌∙◌, subst}
use mathlib.Core.Bool.{Bool, true, false, cond}
use mathlib.Core.List.{List, [], ◌∷◌, ◌++◌}
use Prim.Native.Nat.{ℕ, ◌+◌, ◌≤◌, ◌<◌}
use native.Mathlib.Nat.{le_refl}
use native.Mathlib.Omega.{arith}
use lib.ListN.{length, get_or, set, take, drop, length-set, take-append-drop}
use lib.Seq.{length-take-le, take-take, take-set-le, take-set-lt, drop-set-lt, get_or-take}
use Rattle.lists.specs.First.{first_where}
use Rattle.lists.specs.Selections.{filter}
use Rattle.lists.proofs.Selections.{length_split}
use Rattle.bill_files.specs.Accepted.{Bill}
use Rattle.entries.specs.declared.Entry.{Entry}
use Rattle.entries.specs.Entries.{blank, entry_of, in_state}
use Rattle.booking.specs.Booking.{entry, names_entry, cancel_named, book_cancels}
use Rattle.booking.specs.Acceptable.{bill_at}
use Rattle.accepted_entries.specs.InsideAccepted.{with_cancel}
use Rattle.file_bills.specs.InsideBills.{is_cancel, source_entry}
use Rattle.used_entries.specs.InsideNamed.{cancelled_by, named_place, Named}
use Rattle.accepted_entries.proofs.Steps.{left_here, left_past, drop_later, snoc_set, first_ahead}
use Rattle.file_bills.proofs.Sources.{source_cancel, source_as}
use Rattle.used_entries.proofs.Cancelled.{cancelled_here, cancelled_past, cancel_first}

abbrev is_y : Bill → Bool
is_y b = b.cancel

-- k bills are passed: `used` places of the run are in use, the first u of them stood before the file
pub record Cancelling (bills : List Bill) (u : ℕ) (first run : List Entry) (k used : ℕ) : Type 0 where
  pub long : length run ≡ length first
  pub ahead : u < used
  pub counted : used + length (filter is_y (drop k bills)) ≡ u + 1 + length (filter is_y bills)
  pub before : take u run ≡ cancelled_by (take u first) (take k bills)
  pub resumes : book_cancels (take (u + 1) first) (filter is_y bills) ≡ book_cancels (take used run) (filter is_y (drop k bills))
  pub past : drop used run ≡ drop used first

module _ (bills : List Bill) (u : ℕ) (first : List Entry) where
  module _ (run : List Entry) (k used : ℕ) (C : Cancelling bills u first run k used) (h : k < length bills) where
    cancelling_skip : (bill_at bills k).cancel ≡ false → Cancelling bills u first run (k + 1) used
    cancelling_skip e =
        let rest = left_past is_y bills k h e in
        record {
          long = C.long;
          ahead = C.ahead;
          counted = ap (λ (l : List Bill). used + length l) (sym rest) ∙ C.counted;
          before = C.before ∙ sym (cancelled_past (take u first) bills k h e);
          resumes = C.resumes ∙ ap (book_cancels (take used run)) rest;
          past = C.past;
        }

    module _ (e : (bill_at bills k).cancel ≡ true) (p : ℕ) (named : p ≡ named_place (take u first) bills k) (within : p < u) (room : used < length run) where
      abbrev c : Bill
      c = bill_at bills k

      abbrev changed : List Entry
      changed = set run p (in_state (entry_of run p) 3)

      -- of the first m places, where m is past those before the file
      module _ (m : ℕ) (low : u ≤ m) (high : m ≤ length run) where
        long_take : length (take m run) ≡ m
        long_take = length-take-le m run high

        front : take m run ≡ take u run ++ drop u (take m run)
        front = sym (take-append-drop u (take m run)) ∙ ap (λ (x : List Entry). x ++ drop u (take m run)) (take-take u m run low)

        there : first_where (names_entry c) (take u run) ≡ p
        there = ap (first_where (names_entry c)) C.before ∙ sym named

        found : first_where (names_entry c) (take m run) ≡ p
        found =
            ap (first_where (names_entry c)) front
            ∙ first_ahead (names_entry c) (take u run) (drop u (take m run)) (omega (arith, there, length-take-le u run (omega arith)))
            ∙ there

        cancels : cancel_named c (take m run) ≡ take m changed
        cancels =
            cancel_first c (take m run) p found (omega (arith, long_take))
            ∙ ap (λ (x : Entry). set (take m run) p (in_state x 3)) (get_or-take m run p blank (omega arith))
            ∙ sym (take-set-lt m run p (in_state (entry_of run p) 3) (omega arith))

      cancelling_more : Cancelling bills u first (with_cancel run used p (entry c 4)) (k + 1) (used + 1)
      cancelling_more =
          let rest = left_here is_y bills k h e in
          let same : length changed ≡ length run = length-set run p (in_state (entry_of run p) 3) in
          record {
            long = length-set changed used (entry c 4) ∙ same ∙ C.long;
            ahead = omega (arith, C.ahead);
            counted = omega (arith, C.counted, ap length rest);
            before =
                take-set-le u changed used (entry c 4) (omega (arith, C.ahead)) ∙ sym (cancels u (le_refl u) (omega (arith, C.ahead)))
                ∙ ap (cancel_named c) C.before ∙ sym (cancelled_here (take u first) bills k h e);
            resumes =
                C.resumes ∙ ap (book_cancels (take used run)) rest
                ∙ ap (λ (l : List Entry). book_cancels (l ++ entry c 4 ∷ []) (filter is_y (drop (k + 1) bills))) (cancels used (omega (arith, C.ahead)) (omega arith))
                ∙ ap (λ (l : List Entry). book_cancels l (filter is_y (drop (k + 1) bills))) (sym (snoc_set changed used (entry c 4) (omega (arith, same))));
            past =
                drop-set-lt (used + 1) changed used (entry c 4) (omega arith) ∙ drop-set-lt (used + 1) run p (in_state (entry_of run p) 3) (omega (arith, C.ahead))
                ∙ drop_later used (used + 1) run first (omega arith) C.past;
          }

  -- a turn of the loop, whatever the entry is
  module _ (run : List Entry) (k used : ℕ) (C : Cancelling bills u first run k used) (h : k < length bills) where
    pub room_left : (bill_at bills k).cancel ≡ true → used < u + 1 + length bills
    room_left e = omega (arith, C.counted, ap length (left_here is_y bills k h e), length_split is_y bills)

    pub cancelling_step : (e : Entry) → e ≡ source_entry (bill_at bills k) → (named : List ℕ) → Named (take u first) bills named → u + 1 + length bills ≤ length first
        → (run' : List Entry) (used' : ℕ) → run' ≡ cond (is_cancel e) (with_cancel run used (get_or named k 0) e) run → used' ≡ cond (is_cancel e) (used + 1) used
        → Cancelling bills u first run' (k + 1) used'
    cancelling_step e same named N room run' used' runs uses = go (bill_at bills k).cancel refl
      where
        flag : is_cancel e ≡ (bill_at bills k).cancel
        flag = source_cancel (bill_at bills k) e same

        go : (t : Bool) → (bill_at bills k).cancel ≡ t → Cancelling bills u first run' (k + 1) used'
        go true q =
            let is : e ≡ entry (bill_at bills k) 4 = source_as (bill_at bills k) e true same q in
            let all : run' ≡ with_cancel run used (get_or named k 0) (entry (bill_at bills k) 4) =
            runs ∙ ap (λ (t : Bool). cond t (with_cancel run used (get_or named k 0) e) run) (flag ∙ q) ∙ ap (with_cancel run used (get_or named k 0)) is in
            let more : used' ≡ used + 1 = uses ∙ ap (λ (t : Bool). cond t (used + 1) used) (flag ∙ q) in
            let long = length-take-le u first (omega arith) in
            let done = cancelling_more run k used C h q (get_or named k 0) (N.place k h q) (omega (arith, N.within k h q, long)) (omega (arith, room_left q, C.long)) in
            subst (λ (l : List Entry). Cancelling bills u first l (k + 1) used') (sym all) (subst (λ (m : ℕ). Cancelling bills u first (with_cancel run used (get_or named k 0) (entry (bill_at bills k) 4)) (k + 1) m) (sym more) done)
        go false q =
            let all : run' ≡ run = runs ∙ ap (λ (t : Bool). cond t (with_cancel run used (get_or named k 0) e) run) (flag ∙ q) in
            let more : used' ≡ used = uses ∙ ap (λ (t : Bool). cond t (used + 1) used) (flag ∙ q) in
            subst (λ (l : List Entry). Cancelling bills u first l (k + 1) used') (sym all) (subst (λ (m : ℕ). Cancelling bills u first run (k + 1) m) (sym more) (cancelling_skip run k used C h q))
