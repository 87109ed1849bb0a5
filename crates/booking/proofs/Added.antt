-- The entries that an accepted file adds, and what becomes of those before them.
--     booked_parts          the ledger after: the entries before, with the named ones cancelled, then those that the file adds
--     added_entries         the file adds its file entry, its cancels in file order, its originals in file order, each in its state
--     added_count           so it adds one entry, and one for each TH and OC
--     held_count            and those held are originals
-- Assumes nothing.
use mathlib.Core.Path.{◌≡◌, refl, sym, ap, ◌∙◌}
use mathlib.Core.Bool.{Bool, false, not, ◌&&◌}
use mathlib.Core.List.{List, [], ◌∷◌, ◌++◌, map, append_assoc, append-nil}
use Prim.Native.Nat.{ℕ, zero, suc, ◌+◌}
use native.Mathlib.Omega.{arith}
use lib.Dec.{T}
use lib.ListN.{length, drop, length-append, length-map}
use Rattle.lists.specs.Selections.{count}
use Rattle.lists.specs.InsideSelections.{all}
use Rattle.lists.proofs.Selections.{both, cases, count_append, all_append, is_false, length_split}
use Rattle.bill_files.specs.Accepted.{Bill, BillFile}
use Rattle.entries.specs.declared.Entry.{Entry}
use Rattle.entries.specs.Entries.{is_held}
use Rattle.soundness.specs.Sound.{same_subject}
use Rattle.booking.specs.Booking.{cancels, originals, entry, file_entry, refers_to, is_live_or_held, names_entry, cancel_named, original, book_cancels, book_originals, booked}

-- ---- what the file adds

-- the ledger before, after all of the file's cancels
abbrev pub cancel_all : List Entry → List Bill → List Entry
cancel_all l [] = l
cancel_all l (c ∷ cs) = cancel_all (cancel_named c l) cs

abbrev pub cancel_entries : List Bill → List Entry
cancel_entries cs = map (λ (c : Bill). entry c 4) cs

-- the originals, each in its state at its turn
abbrev pub original_entries : List Entry → List Bill → List Entry
original_entries l [] = []
original_entries l (b ∷ bs) = original l b ∷ original_entries (l ++ original l b ∷ []) bs

abbrev pub ahead : BillFile → List Entry
ahead file = file_entry file ∷ cancel_entries (cancels file)

abbrev pub added : List Entry → BillFile → List Entry
added l file = ahead file ++ original_entries (cancel_all l (cancels file) ++ ahead file) (originals file)

-- ---- cancels change nothing that isn't live or held
abbrev pub passive : Entry → Bool
passive e = not (is_live_or_held e)

not_named : (c : Bill) (e : Entry) → T (passive e) → names_entry c e ≡ false
unfolding names_entry
not_named c e t = ap (λ (b : Bool). b && refers_to c.reference e.id && same_subject (entry c 4) e) (is_false (is_live_or_held e) t)

cancel_passive : (c : Bill) (ys : List Entry) → T (all passive ys) → cancel_named c ys ≡ ys
cancel_passive c [] t = refl
cancel_passive c (y ∷ ys) t =
    let h = both (passive y) (all passive ys) t in
    rw (not_named c y h.0) (ap (λ (l : List Entry). y ∷ l) (cancel_passive c ys h.1))

cancel_before : (c : Bill) (xs ys : List Entry) → T (all passive ys) → cancel_named c (xs ++ ys) ≡ cancel_named c xs ++ ys
cancel_before c [] ys t = cancel_passive c ys t
cancel_before c (x ∷ xs) ys t =
    cases (names_entry c x) (λ e. rw e) (λ e. rw e (ap (λ (l : List Entry). x ∷ l) (cancel_before c xs ys t)))

pub cancels_parts : (xs ys : List Entry) (cs : List Bill) → T (all passive ys) → book_cancels (xs ++ ys) cs ≡ cancel_all xs cs ++ (ys ++ cancel_entries cs)
cancels_parts xs ys [] t = ap (λ (l : List Entry). xs ++ l) (sym (append-nil ys))
cancels_parts xs ys (c ∷ cs) t =
    ap (λ (l : List Entry). book_cancels l cs) (ap (λ (l : List Entry). l ++ entry c 4 ∷ []) (cancel_before c xs ys t) ∙ append_assoc (cancel_named c xs) ys (entry c 4 ∷ []))
    ∙ cancels_parts (cancel_named c xs) (ys ++ entry c 4 ∷ []) cs (all_append passive ys (entry c 4 ∷ []) t tt)
    ∙ ap (λ (l : List Entry). cancel_all (cancel_named c xs) cs ++ l) (append_assoc ys (entry c 4 ∷ []) (cancel_entries cs))

pub originals_parts : (l : List Entry) (bs : List Bill) → book_originals l bs ≡ l ++ original_entries l bs
originals_parts l [] = sym (append-nil l)
originals_parts l (b ∷ bs) =
    originals_parts (l ++ original l b ∷ []) bs
    ∙ append_assoc l (original l b ∷ []) (original_entries (l ++ original l b ∷ []) bs)

pub booked_parts : (l : List Entry) (file : BillFile) → booked l file ≡ cancel_all l (cancels file) ++ added l file
booked_parts l file =
    let start = cancels_parts l (file_entry file ∷ []) (cancels file) tt in
    ap (λ (k : List Entry). book_originals k (originals file)) start
    ∙ originals_parts (cancel_all l (cancels file) ++ ahead file) (originals file)
    ∙ append_assoc (cancel_all l (cancels file)) (ahead file) (original_entries (cancel_all l (cancels file) ++ ahead file) (originals file))

-- ---- how many
pub length_cancelled : (c : Bill) (l : List Entry) → length (cancel_named c l) ≡ length l
length_cancelled c [] = refl
length_cancelled c (e ∷ l) = cases (names_entry c e) (λ t. rw t) (λ t. rw t (ap suc (length_cancelled c l)))

pub length_cancel_all : (l : List Entry) (cs : List Bill) → length (cancel_all l cs) ≡ length l
length_cancel_all l [] = refl
length_cancel_all l (c ∷ cs) = length_cancel_all (cancel_named c l) cs ∙ length_cancelled c l

length_originals : (l : List Entry) (bs : List Bill) → length (original_entries l bs) ≡ length bs
length_originals l [] = refl
length_originals l (b ∷ bs) = ap suc (length_originals (l ++ original l b ∷ []) bs)

drop_first : (xs ys : List Entry) (n : ℕ) → length xs ≡ n → drop n (xs ++ ys) ≡ ys
drop_first [] ys zero e = refl
drop_first [] ys (suc n) e = absurd (omega arith)
drop_first (x ∷ xs) ys zero e = absurd (omega arith)
drop_first (x ∷ xs) ys (suc n) e = drop_first xs ys n (omega arith)

pub added_entries : (l : List Entry) (file : BillFile) → drop (length l) (booked l file) ≡ added l file
added_entries l file =
    ap (drop (length l)) (booked_parts l file)
    ∙ drop_first (cancel_all l (cancels file)) (added l file) (length l) (length_cancel_all l (cancels file))

pub length_added : (l : List Entry) (file : BillFile) → length (added l file) ≡ suc (length file.bills)
length_added l file =
    let before = cancel_all l (cancels file) ++ ahead file in
    let a = length-append (ahead file) (original_entries before (originals file)) in
    let b = length-map (cancels file) (λ (c : Bill). entry c 4) in
    let c = length_originals before (originals file) in
    let d = length_split (λ (b : Bill). b.cancel) file.bills in
    omega arith

pub length_booked : (l : List Entry) (file : BillFile) → length (booked l file) ≡ length l + suc (length file.bills)
length_booked l file =
    ap length (booked_parts l file)
    ∙ omega (arith, length-append (cancel_all l (cancels file)) (added l file), length_cancel_all l (cancels file), length_added l file)

pub added_count : (l : List Entry) (file : BillFile) → length (drop (length l) (booked l file)) ≡ suc (length file.bills)
added_count l file = ap length (added_entries l file) ∙ length_added l file

-- ---- held
none_held : (cs : List Bill) → count is_held (cancel_entries cs) ≡ 0
none_held [] = refl
none_held (c ∷ cs) = none_held cs

pub held_count : (l : List Entry) (file : BillFile)
    → count is_held (drop (length l) (booked l file)) ≡ count is_held (original_entries (cancel_all l (cancels file) ++ ahead file) (originals file))
held_count l file =
    let before = cancel_all l (cancels file) ++ ahead file in
    ap (count is_held) (added_entries l file)
    ∙ count_append is_held (ahead file) (original_entries before (originals file))
    ∙ omega (arith, none_held (cancels file))
