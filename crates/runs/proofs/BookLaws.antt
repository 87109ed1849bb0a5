-- Book on the entries that were copied of a run, and the run into which only what changed or was added was copied back.
--     same_answer    the answer is that of the run itself
--     wrapped        and the run is then as Book leaves it
-- Book was told of the run's places or of fewer (`Told`): both are answered alike, since a file has no more TH and OC than lines.
-- Assumes nothing.
use mathlib.Core.Path.{◌≡◌, refl, sym, ap, subst, ◌∙◌}
use mathlib.Core.Logic.{◌⊎◌, inl, inr}
use mathlib.Core.Bool.{Bool, true, false, cond, ◌&&◌, true≢false}
use mathlib.Core.List.{List, [], ◌∷◌, ◌++◌, append_assoc}
use Prim.Native.Nat.{ℕ, ◌+◌, ◌≤◌, ◌<◌, zero-le}
use native.Mathlib.Omega.{arith}
use borrow.Author.Tests.{eq-eqb, lt-ltb, le-ltb, le-leb, lt-leb}
use lib.Dec.{eqb, ltb}
use lib.IntN.{ℤ}
use lib.ListN.{length, get_or, take, drop, length-append, take-append-drop}
use lib.Seq.{length-take-le, take-append_seam, get_or-append-add}
use Rattle.lists.specs.Selections.{count}
use Rattle.lists.proofs.Selections.{cases}
use Rattle.records.specs.Text.{lines_of}
use Rattle.bill_files.specs.Accepted.{Bill, BillFile, bill_file}
use Rattle.bill_files.proofs.Accepted.{bills_few}
use Rattle.entries.specs.declared.Entry.{Entry}
use Rattle.entries.specs.Entries.{blank, is_held}
use Rattle.runs.specs.InsideWords.{entries_from, entries_of}
use Rattle.runs.proofs.Words.{length_entries, take_entries}
use Rattle.soundness.specs.Sound.{is_sound, sizes_fit, entries_sound}
use Rattle.runs.specs.InsideRoom.{read_count}
use Rattle.soundness.proofs.Sizes.{sizes_mean}
use Rattle.booking.specs.Booking.{Settings, Input, input_of, opening_refusals, book_refusals, ledger_refusals, Result, file_of, ledger_of, cancels, originals, file_entry, entry, booked, book_refusal, is_booked, ledger_after, added_by, refused_result, accepted_result, book_result, used_after, run_after}
use Rattle.booking.proofs.Added.{cancel_all, cancel_entries, original_entries, booked_parts, length_cancel_all, length_booked, added_count}
use Rattle.booking.proofs.Accepting.{accepted_unrefused}
use Rattle.booking.proofs.AcceptedFile.{accepted_passes}
use Rattle.booking.proofs.Lent.{same_result, unsound_same}
use Rattle.booking.proofs.Steps.{refused_leaves, used_accepted, run_accepted, used_entries_after}
use Rattle.runs.specs.InsideCopies.{placed}
use Rattle.runs.proofs.Sound.{loaded_cases}
use Rattle.lent_ledger.specs.declared.BookReply.{BookReply}
use Rattle.runs.specs.InsideTold.{Told}
use Rattle.lent_ledger.specs.BookReplies.{book_reply, HostBooked}
use Rattle.lent_ledger.proofs.BookLaws.{reads_back}
use Rattle.runs.specs.InsideWritten.{written_to, written_from}

-- ---- a call's result
module _ (i : Input) where
  abbrev taken : Result
  taken = accepted_result (length (added_by i)) (count is_held (added_by i))

  -- an acceptance; or a refusal, which has a number
  result_cases {ξ} : {X : Type ξ} → (is_booked i ≡ true → book_result i ≡ taken → X)
      → (is_booked i ≡ false → (number line : ℕ) → eqb number 0 ≡ false → book_result i ≡ refused_result number line → X) → X
  unfolding book_result
  result_cases accepted refused =
      let result : Bool → Result = λ b. cond b taken (refused_result (book_refusal i).number (book_refusal i).line) in
      cases (is_booked i) (λ e. accepted e (ap result e)) (λ e. refused e (book_refusal i).number (book_refusal i).line e (ap result e))

-- ---- what Book leaves of the entries that it was lent
-- the originals of a file with these cancels
abbrev later : List Entry → BillFile → List Bill → List Entry
later l file cs = original_entries (cancel_all l cs ++ file_entry file ∷ cancel_entries cs) (originals file)

-- the entries stand as they were, or the second entry added is a cancel
second_added {ξ} : {X : Type ξ} (l : List Entry) (file : BillFile) → (take (length l) (booked l file) ≡ l → X)
    → (length l + 1 < length (booked l file) → (get_or (booked l file) (length l + 1) blank).state ≡ 4 → X) → X
second_added {X} l file kept cancelled = go (cancels file) (booked_parts l file)
  where
    go : (cs : List Bill) → booked l file ≡ cancel_all l cs ++ ((file_entry file ∷ cancel_entries cs) ++ later l file cs) → X
    go [] e = kept (ap (take (length l)) e ∙ take-append_seam l ((file_entry file ∷ []) ++ later l file []))
    go (c ∷ cs) e =
        let before = cancel_all l (c ∷ cs) in
        let after = (file_entry file ∷ entry c 4 ∷ cancel_entries cs) ++ later l file (c ∷ cs) in
        let long = length_cancel_all l (c ∷ cs) in
        cancelled (omega (arith, ap length e, length-append before after, long))
        (ap (λ (es : List Entry). (get_or es (length l + 1) blank).state) e
        ∙ ap (λ (n : ℕ). (get_or (before ++ after) (n + 1) blank).state) (sym long)
        ∙ ap (λ (x : Entry). x.state) (get_or-append-add before after 1 blank))

-- ---- a run into which what was added or changed is copied
from_none : (es : List Entry) (used : ℕ) → length es ≤ used → written_from es used ≡ 0
from_none es used h = rw (le-leb (length es) used h)

-- a run into which such entries are copied has them all
module _ (ys : List Entry) (used : ℕ) (room : used ≤ length ys) (file : BillFile) where
  abbrev l : List Entry
  l = take used ys

  abbrev after : List Entry
  after = booked l file

  long : length l ≡ used
  long = length-take-le used ys room

  more : used < length after
  more = omega (arith, length_booked l file, long)

  abbrev is_cancelled : Bool
  is_cancelled = ltb (used + 1) (length after) && eqb (get_or after (used + 1) blank).state 4

  kept : is_cancelled ≡ false → take used after ≡ l
  kept e =
      second_added l file (λ same. ap (λ (n : ℕ). take n after) (sym long) ∙ same)
      (λ h s. absurd (true≢false
      (sym (λ t. ltb_is (subst (λ (n : ℕ). n + 1 < length after) long h) t && state_is (ap (λ (n : ℕ). (get_or after (n + 1) blank).state) (sym long) ∙ s) t) ∙ e)))
    where
      ltb_is : used + 1 < length after → ltb (used + 1) (length after) ≡ true
      ltb_is h = lt-ltb (used + 1) (length after) h

      state_is : (get_or after (used + 1) blank).state ≡ 4 → eqb (get_or after (used + 1) blank).state 4 ≡ true
      state_is h = eq-eqb (get_or after (used + 1) blank).state 4 h

  copied_back : placed ys after (written_from after used) (length after) ≡ after ++ drop (length after) ys
  copied_back =
      ap (λ (b : Bool). placed ys after (cond b 0 (cond is_cancelled 0 used)) (length after)) (lt-leb (length after) used more)
      ∙ cases is_cancelled (λ e. ap (λ (b : Bool). placed ys after (cond b 0 used) (length after)) e)
      (λ e. ap (λ (b : Bool). placed ys after (cond b 0 used) (length after)) e ∙ (λ t. sym (kept e) t ++ (drop used after ++ drop (length after) ys)) ∙ joined)
    where
      joined : take used after ++ (drop used after ++ drop (length after) ys) ≡ after ++ drop (length after) ys
      joined = sym (append_assoc (take used after) (drop used after) (drop (length after) ys)) ∙ ap (λ (es : List Entry). es ++ drop (length after) ys) (take-append-drop used after)

-- ---- the places that Book is told of
-- a file has no more TH and OC than lines
few_bills : (lines : List (List ℕ)) → length (bill_file lines).bills ≤ length lines
unfolding bill_file
few_bills lines = bills_few lines

-- two runs with the same used entries, neither too long and both with room for the file, are answered alike
module _ (s : Settings) (file : List ℕ) (used : ℕ) (run run' : List Entry) (same : take used run ≡ take used run') where
  abbrev lent_as : List Entry → Input
  lent_as r = record { settings = s; file = file; run = r; used = used }

  module _ (small : length run ≤ 8192) (small' : length run' ≤ 8192) (room : used + 1 + length (lines_of file) ≤ length run) (room' : used + 1 + length (lines_of file) ≤ length run') where
    fits : (r : List Entry) → length r ≤ 8192 → used + 1 + length (lines_of file) ≤ length r → sizes_fit (length r) used ≡ true
    fits r h k = (sizes_mean (length r) used).1 (h, omega (arith, k))

    sound_alike : is_sound run used ≡ is_sound run' used
    unfolding is_sound
    sound_alike = (λ t. fits run small room t && entries_sound (take used run)) ∙ (λ t. sym (fits run' small' room') t && entries_sound (same t))

    full : (r : List Entry) → used + 1 + length (lines_of file) ≤ length r → ltb (length r) (length (take used run') + 1 + length (bill_file (lines_of file)).bills) ≡ false
    full r k = le-ltb (length r) (length (take used run') + 1 + length (bill_file (lines_of file)).bills) (omega (arith, length-take-le used run' (omega (arith, room')), few_bills (lines_of file), k))

    same_refusals : book_refusal (lent_as run) ≡ book_refusal (lent_as run')
    unfolding book_refusal book_refusals opening_refusals ledger_refusals
    same_refusals = simp (sound_alike, same, full run room, full run' room')

    roomy_result : book_result (lent_as run) ≡ book_result (lent_as run')
    unfolding book_result
    roomy_result = simp (same_refusals, same)

-- ---- the call
module _ (retailer : ℕ) (distributors file : List ℕ) (ys : List Entry) (used p : ℕ) (told : Told (length ys) used (length (lines_of file)) p) (ns : List ℕ) (zs : List ℤ)
    (loaded : entries_of ns zs (read_count (length ys) used) ≡ take (read_count (length ys) used) ys) (ns' : List ℕ) (zs' : List ℤ) where
  abbrev es : List Entry
  es = entries_of ns zs p

  abbrev i : Input
  i = input_of retailer distributors file ys used

  abbrev j : Input
  j = input_of retailer distributors file es used

  -- the sizes fit, and the used entries are the run's
  record Alike : Type 0 where
    small : length ys ≤ 8192
    within : used ≤ p
    below : p ≤ length ys
    same : take used es ≡ take used ys
    roomy : (p ≡ length ys) ⊎ (used + 1 + length (lines_of file) ≤ p)

  -- or neither ledger is sound
  told_cases {ξ} : {X : Type ξ} → (Alike → X) → (is_sound es used ≡ false → is_sound ys used ≡ false → X) → X
  told_cases {X} alike unsound = elim told [ inl e ↦ all e | inr h ↦ some h ]
    where
      all : p ≡ length ys → X
      all e = loaded_cases ns zs ys used loaded
          (λ small room same. alike (record {
            small = small;
            within = omega (arith, e, room);
            below = omega (arith, e);
            same = subst (λ (m : ℕ). take used (entries_of ns zs m) ≡ take used ys) (sym e) same;
            roomy = inl e;
          }))
          (λ a b. unsound (subst (λ (m : ℕ). is_sound (entries_of ns zs m) used ≡ false) (sym e) a) b)

      some : (length ys ≤ 8192) × (p ≤ length ys) × (used + 1 + length (lines_of file) ≤ p) → X
      some h =
          let within : used ≤ p = omega (arith, h.2) in
          let fit = (sizes_mean (length ys) used).1 (h.0, omega (arith, h.1, within)) in
          alike (record {
            small = h.0;
            within = within;
            below = h.1;
            same = take_entries ns zs used p within ∙ subst (λ (b : Bool). entries_of ns zs (cond b used 0) ≡ take (cond b used 0) ys) fit loaded;
            roomy = inr h.2;
          })

  pub same_answer : book_result j ≡ book_result i
  same_answer = told_cases
      (λ a. elim a.roomy [
        | inl e ↦ same_result i.settings file used es ys a.same (length_entries ns zs p ∙ e)
        | inr h ↦ roomy_result i.settings file used es ys a.same (omega (arith, length_entries ns zs p, a.below, a.small)) a.small (omega (arith, length_entries ns zs p, h)) (omega (arith, h, a.below))
      ])
      (λ e e'. unsound_same j i refl e e')

  -- what an acceptance says of the run
  record Taken : Type 0 where
    sizes : Alike
    total : used + length (added_by i) ≡ length (ledger_after i)
    fits_in : length (ledger_after i) ≤ p

  accepted : is_booked i ≡ true → Taken
  accepted aye = told_cases
      (λ a.
      let long : length (ledger_of i) ≡ used = length-take-le used ys (omega (arith, a.within, a.below)) in
      record {
        sizes = a;
        total = omega (arith, added_count (ledger_of i) (file_of i), length_booked (ledger_of i) (file_of i), long);
        fits_in = elim a.roomy [
          | inl e ↦ omega (arith, e, (accepted_passes i aye).room, length_booked (ledger_of i) (file_of i), long)
          | inr h ↦ omega (arith, h, few_bills (lines_of file), length_booked (ledger_of i) (file_of i), long)
        ];
      })
      (λ _ e. absurd (true≢false (sym ((accepted_unrefused i).0 aye).sound ∙ e)))

  abbrev reply : BookReply
  reply = book_reply (book_result j)

  module _ (leaves : entries_of ns' zs' p ≡ run_after j) where
    -- the run when all is copied back, by the reply
    abbrev back : BookReply → List Entry
    back r = placed ys (entries_of ns' zs' (written_to r used)) (written_from (entries_of ns' zs' (written_to r used)) used) (written_to r used)

    back_refused : (number line : ℕ) → eqb number 0 ≡ false → back (book_reply (refused_result number line)) ≡ ys
    unfolding entries_from
    back_refused number line some = rw some (ap (λ (m : ℕ). placed ys [] m 0) (from_none [] used zero-le))

    back_accepted : (aye : is_booked i ≡ true) → back (book_reply (taken i)) ≡ run_after i
    back_accepted aye =
        let a = accepted aye in
        ap (λ (m : ℕ). placed ys (entries_of ns' zs' m) (written_from (entries_of ns' zs' m) used) m) a.total
        ∙ ap (λ (es : List Entry). placed ys es (written_from es used) (length (ledger_after i))) written
        ∙ copied_back ys used (omega (arith, a.sizes.within, a.sizes.below)) (file_of i)
        ∙ sym (run_accepted i aye)
      where
        after : ledger_after j ≡ ledger_after i
        after = ap (λ (l : List Entry). booked l (file_of i)) (accepted aye).sizes.same

        aye' : is_booked j ≡ true
        aye' = cases (is_booked j) (λ e. e) (λ e. absurd (alike e))
          where
            alike : is_booked j ≡ false → ⊥
            alike e = result_cases j (λ a _. true≢false (sym a ∙ e)) (λ _ number line some is. result_cases i
                (λ _ is'. true≢false (ap (λ (r : Result). eqb r.number 0) (sym is' ∙ sym same_answer ∙ is) ∙ some))
                (λ nay _ _ _ _. true≢false (sym aye ∙ nay)))

        written : entries_of ns' zs' (length (ledger_after i)) ≡ ledger_after i
        written =
            sym (take_entries ns' zs' (length (ledger_after i)) p (accepted aye).fits_in) ∙ ap (take (length (ledger_after i))) leaves
            ∙ ap (λ (m : ℕ). take m (run_after j)) (ap length (sym after) ∙ sym (used_accepted j aye')) ∙ used_entries_after j aye' ∙ after

    Done : Result → Type 0
    Done r = (back (book_reply r) ≡ run_after i) × (used + r.added ≡ used_after i)

    done : Done (book_result i)
    unfolding Done
    done = result_cases i
        (λ aye is. subst Done (sym is) (back_accepted aye, (accepted aye).total ∙ sym (used_accepted i aye)))
        (λ nay number line some is. subst Done (sym is) (back_refused number line some ∙ sym (refused_leaves i nay).0, omega arith ∙ sym (refused_leaves i nay).1))

    pub wrapped : HostBooked i reply (back reply)
    unfolding Done
    wrapped = subst (λ (r : Result). HostBooked i (book_reply r) (back (book_reply r))) (sym same_answer)
        (record { replies = refl; books = record { answers = reads_back i; leaves_run = done.0; leaves_used = done.1 } })
