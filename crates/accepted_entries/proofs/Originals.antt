-- The loop that writes the originals.
--     originals_added                         what is past the entries before them
--     Originating                             its invariant
--     originating_step                        it holds after one bill more
--     room_left                               an original has a place to be written at
--     originating_held                        how many are held at the end
-- Assumes nothing.
use mathlib.Core.Path.{◌≡◌, refl, sym, ap, ◌∙◌, subst}
use mathlib.Core.Bool.{Bool, true, false, not, ◌&&◌, cond}
use mathlib.Core.List.{List, [], ◌∷◌, ◌++◌}
use Prim.Native.Nat.{ℕ, suc, ◌+◌, ◌≤◌, ◌<◌}
use native.Mathlib.Omega.{arith}
use lib.Dec.{eqb, ltb}
use lib.ListN.{length, take, drop, length-set, drop_of_length-le}
use lib.Seq.{length-take-le, drop-set-lt, drop_at}
use Rattle.lists.specs.Selections.{filter, count}
use Rattle.bill_files.specs.Accepted.{Bill}
use Rattle.entries.specs.declared.Entry.{Entry}
use Rattle.entries.specs.Entries.{in_state, is_held, is_period}
use Rattle.used_entries.specs.InsideSited.{overlaps_entry}
use Rattle.booking.specs.Booking.{entry, overlaps, first_overlap, state_of, original, book_originals}
use Rattle.booking.specs.Acceptable.{bill_at}
use Rattle.booking.proofs.Added.{original_entries, originals_parts}
use Rattle.accepted_entries.specs.InsideAccepted.{state_after, original_after, with_original}
use Rattle.file_bills.specs.InsideBills.{is_cancel, source_entry}
use Rattle.accepted_entries.proofs.Steps.{left_here, left_past, drop_later, snoc_set}
use Rattle.file_bills.proofs.Sources.{source_cancel, source_as}

abbrev is_n : Bill → Bool
is_n b = not b.cancel

-- ---- an original's state, told from its entry as if it were live
state_same : (l : List Entry) (b : Bill) → state_after l (entry b 1) ≡ state_of l b
unfolding state_after state_of first_overlap overlaps overlaps_entry
state_same l b = refl

in_either : (b : Bill) (t : Bool) → in_state (entry b 1) (cond t 2 1) ≡ entry b (cond t 2 1)
in_either b true = refl
in_either b false = refl

either : (l : List Entry) (b : Bill) → in_state (entry b 1) (state_of l b) ≡ entry b (state_of l b)
unfolding state_of
either l b = in_either b (is_period (entry b 1) && ltb (first_overlap l b) (length l))

original_same : (l : List Entry) (b : Bill) → original_after l (entry b 1) ≡ original l b
original_same l b = ap (λ (s : ℕ). in_state (entry b 1) s) (state_same l b) ∙ either l b

-- what the originals are appended as
pub originals_added : (l : List Entry) (bs : List Bill) (n : ℕ) → length l ≡ n → drop n (book_originals l bs) ≡ original_entries l bs
originals_added l bs n long = ap (drop n) (originals_parts l bs) ∙ drop_at l (original_entries l bs) n long

-- k bills are passed: `used` places of the run are in use, and `held` of the originals among the bills are held
pub record Originating (bills : List Bill) (at : ℕ) (first run : List Entry) (k used held : ℕ) : Type 0 where
  pub long : length run ≡ length first
  pub counted : used + length (filter is_n (drop k bills)) ≡ at + length (filter is_n bills)
  pub resumes : book_originals (take at first) (filter is_n bills) ≡ book_originals (take used run) (filter is_n (drop k bills))
  pub holding : count is_held (original_entries (take at first) (filter is_n bills)) ≡ held + count is_held (original_entries (take used run) (filter is_n (drop k bills)))
  pub past : drop used run ≡ drop used first

module _ (bills : List Bill) (at : ℕ) (first : List Entry) where
  module _ (run : List Entry) (k used held : ℕ) (O : Originating bills at first run k used held) (h : k < length bills) where
    originating_skip : (bill_at bills k).cancel ≡ true → Originating bills at first run (k + 1) used held
    originating_skip e =
        let rest = left_past is_n bills k h (ap not e) in
        record {
          long = O.long;
          counted = ap (λ (l : List Bill). used + length l) (sym rest) ∙ O.counted;
          resumes = O.resumes ∙ ap (book_originals (take used run)) rest;
          holding = O.holding ∙ ap (λ (l : List Bill). held + count is_held (original_entries (take used run) l)) rest;
          past = O.past;
        }

    module _ (e : (bill_at bills k).cancel ≡ false) (room : used < length run) where
      abbrev b : Bill
      b = bill_at bills k

      abbrev l : List Entry
      l = take used run

      rest : filter is_n (drop k bills) ≡ b ∷ filter is_n (drop (k + 1) bills)
      rest = left_here is_n bills k h (ap not e)

      abbrev others : List Bill
      others = filter is_n (drop (k + 1) bills)

      next : l ++ original l b ∷ [] ≡ take (used + 1) (with_original run used (entry b 1))
      next = ap (λ (x : Entry). l ++ x ∷ []) (sym (original_same l b)) ∙ sym (snoc_set run used (original_after l (entry b 1)) room)

      one : (x : Entry) (xs : List Entry) → count is_held (x ∷ xs) ≡ cond (is_held x) 1 0 + count is_held xs
      one x xs = go (is_held x)
        where
          go : (t : Bool) → cond t (suc (count is_held xs)) (count is_held xs) ≡ cond t 1 0 + count is_held xs
          go true = omega arith
          go false = omega arith

      originating_more : Originating bills at first (with_original run used (entry b 1)) (k + 1) (used + 1) (held + cond (eqb (state_after l (entry b 1)) 2) 1 0)
      originating_more = record {
        long = length-set run used (original_after l (entry b 1)) ∙ O.long;
        counted = omega (arith, O.counted, ap length rest);
        resumes = O.resumes ∙ ap (book_originals l) rest ∙ ap (λ (m : List Entry). book_originals m others) next;
        holding =
            let state : ◌≡◌ {A = ℕ} (cond (is_held (original l b)) 1 0) (cond (eqb (state_after l (entry b 1)) 2) 1 0) = ap (λ (s : ℕ). cond (eqb s 2) 1 0) (sym (state_same l b)) in
            let split = one (original l b) (original_entries (l ++ original l b ∷ []) others) in
            let here = ap (λ (bs : List Bill). count is_held (original_entries l bs)) rest in
            let there = ap (λ (m : List Entry). count is_held (original_entries m others)) next in
            O.holding ∙ ap (λ (m : ℕ). held + m) (here ∙ split) ∙ omega (arith, state, there);
        past = drop-set-lt (used + 1) run used (original_after l (entry b 1)) (omega arith) ∙ drop_later used (used + 1) run first (omega arith) O.past;
      }

  -- a turn of the loop, whatever the entry is
  module _ (run : List Entry) (k used held : ℕ) (O : Originating bills at first run k used held) (h : k < length bills) where
    pub room_left : (bill_at bills k).cancel ≡ false → used < at + length (filter is_n bills)
    room_left e = omega (arith, O.counted, ap length (left_here is_n bills k h (ap not e)))

    pub originating_step : (e : Entry) → e ≡ source_entry (bill_at bills k) → at + length (filter is_n bills) ≤ length first
        → (run' : List Entry) (used' held' : ℕ) → run' ≡ cond (is_cancel e) run (with_original run used e) → used' ≡ cond (is_cancel e) used (used + 1)
        → held' ≡ cond (is_cancel e) held (held + cond (eqb (state_after (take used run) e) 2) 1 0)
        → Originating bills at first run' (k + 1) used' held'
    originating_step e same room run' used' held' runs uses holds = go (bill_at bills k).cancel refl
      where
        flag : is_cancel e ≡ (bill_at bills k).cancel
        flag = source_cancel (bill_at bills k) e same

        put_in : (run'' : List Entry) (used'' held'' : ℕ) → run' ≡ run'' → used' ≡ used'' → held' ≡ held'' → Originating bills at first run'' (k + 1) used'' held''
            → Originating bills at first run' (k + 1) used' held'
        put_in run'' used'' held'' a b c o =
            subst (λ (l : List Entry). Originating bills at first l (k + 1) used' held') (sym a)
            (subst (λ (m : ℕ). Originating bills at first run'' (k + 1) m held') (sym b) (subst (λ (m : ℕ). Originating bills at first run'' (k + 1) used'' m) (sym c) o))

        go : (t : Bool) → (bill_at bills k).cancel ≡ t → Originating bills at first run' (k + 1) used' held'
        go false q =
            let is : e ≡ entry (bill_at bills k) 1 = source_as (bill_at bills k) e false same q in
            put_in _ _ _
            (runs ∙ ap (λ (t : Bool). cond t run (with_original run used e)) (flag ∙ q) ∙ ap (with_original run used) is)
            (uses ∙ ap (λ (t : Bool). cond t used (used + 1)) (flag ∙ q))
            (holds ∙ ap (λ (t : Bool). cond t held (held + cond (eqb (state_after (take used run) e) 2) 1 0)) (flag ∙ q)
            ∙ ap (λ (x : Entry). held + cond (eqb (state_after (take used run) x) 2) 1 0) is)
            (originating_more run k used held O h q (omega (arith, room_left q, O.long)))
        go true q =
            put_in _ _ _
            (runs ∙ ap (λ (t : Bool). cond t run (with_original run used e)) (flag ∙ q))
            (uses ∙ ap (λ (t : Bool). cond t used (used + 1)) (flag ∙ q))
            (holds ∙ ap (λ (t : Bool). cond t held (held + cond (eqb (state_after (take used run) e) 2) 1 0)) (flag ∙ q))
            (originating_skip run k used held O h q)

  -- at the end
  module _ (run : List Entry) (k used held : ℕ) (O : Originating bills at first run k used held) (end : length bills ≤ k) where
    nothing : filter is_n (drop k bills) ≡ []
    nothing = ap (filter is_n) (drop_of_length-le bills {i = k} end)

    pub originating_held : at ≤ length first → held ≡ count is_held (drop at (book_originals (take at first) (filter is_n bills)))
    originating_held fits =
        let all : count is_held (original_entries (take at first) (filter is_n bills)) ≡ held + 0 =
        O.holding ∙ ap (λ (bs : List Bill). held + count is_held (original_entries (take used run) bs)) nothing in
        omega (arith, all) ∙ ap (count is_held) (sym (originals_added (take at first) (filter is_n bills) at (length-take-le at first fits)))
