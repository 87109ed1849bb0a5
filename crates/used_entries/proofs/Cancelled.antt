-- The entry that a cancel names, by its place, and the ledger as cancels leave it.
--     named_some, named_none               the named entry is the one at the first place, and there is none where that is the end
--     cancel_first                         a cancel changes the entry at that place alone
--     cancelled_here, cancelled_past       with one more record: a cancel, or an original
--     cancelled_length, cancelled_amounts  cancels leave the number of entries and their amounts
-- Assumes nothing.
use mathlib.Core.Path.{◌≡◌, refl, ap, ◌∙◌}
use mathlib.Core.Bool.{Bool, true, false, cond}
use Rattle.std.specs.Prelude.{Some, None}
use mathlib.Core.List.{List, [], ◌∷◌, ◌++◌}
use Prim.Native.Nat.{ℕ, zero, suc, ◌+◌, ◌≤◌, ◌<◌}
use native.Mathlib.Numerals.{add-one}
use native.Mathlib.Omega.{arith}
use lib.ListN.{length, set, take}
use lib.Seq.{take-suc}
use Rattle.lists.specs.First.{first_where}
use Rattle.bill_files.specs.Accepted.{Bill}
use Rattle.entries.specs.declared.Entry.{Entry}
use Rattle.entries.specs.Entries.{entry_of, in_state}
use Rattle.soundness.specs.Sound.{opposite}
use Rattle.booking.specs.Booking.{names_entry, named_entry, cancel_named}
use Rattle.booking.specs.Acceptable.{no_bill, bill_at}
use Rattle.booking.proofs.Added.{length_cancelled}
use Rattle.used_entries.specs.InsideNamed.{cancelled_by}

-- ---- the named entry, by its place
pub named_some : (c : Bill) (l : List Entry) → first_where (names_entry c) l < length l → named_entry c l ≡ Some (entry_of l (first_where (names_entry c) l))
unfolding first_where
named_some c [] h = absurd (omega arith)
named_some c (e ∷ l) h = go (names_entry c e) h (λ k. named_some c l k)
  where
    go : (t : Bool) → cond t 0 (suc (first_where (names_entry c) l)) < suc (length l)
        → (first_where (names_entry c) l < length l → named_entry c l ≡ Some (entry_of l (first_where (names_entry c) l)))
        → cond t (Some e) (named_entry c l) ≡ Some (entry_of (e ∷ l) (cond t 0 (suc (first_where (names_entry c) l))))
    go true h more = refl
    go false h more = more (omega arith)

pub named_none : (c : Bill) (l : List Entry) → length l ≤ first_where (names_entry c) l → named_entry c l ≡ None
unfolding first_where
named_none c [] h = refl
named_none c (e ∷ l) h = go (names_entry c e) h (λ k. named_none c l k)
  where
    go : (t : Bool) → suc (length l) ≤ cond t 0 (suc (first_where (names_entry c) l)) → (length l ≤ first_where (names_entry c) l → named_entry c l ≡ None)
        → cond t (Some e) (named_entry c l) ≡ None
    go true h more = absurd (omega arith)
    go false h more = more (omega arith)

pub cancel_first : (c : Bill) (l : List Entry) (p : ℕ) → first_where (names_entry c) l ≡ p → p < length l → cancel_named c l ≡ set l p (in_state (entry_of l p) 3)
unfolding first_where
cancel_first c [] p e h = absurd (omega arith)
cancel_first c (x ∷ l) p e h = go (λ p e h. cancel_first c l p e h) (names_entry c x) p e h
  where
    go : ((p : ℕ) → first_where (names_entry c) l ≡ p → p < length l → cancel_named c l ≡ set l p (in_state (entry_of l p) 3))
        → (t : Bool) (p : ℕ) → cond t 0 (suc (first_where (names_entry c) l)) ≡ p → p < suc (length l)
        → cond t (in_state x 3 ∷ l) (x ∷ cancel_named c l) ≡ set (x ∷ l) p (in_state (entry_of (x ∷ l) p) 3)
    go more true zero e h = refl
    go more true (suc p) e h = absurd (omega (arith, e))
    go more false zero e h = absurd (omega (arith, e))
    go more false (suc p) e h = ap (λ (m : List Entry). x ∷ m) (more p (omega (arith, e)) (omega arith))

-- ---- one more record
cancelled_append : (l : List Entry) (xs ys : List Bill) → cancelled_by l (xs ++ ys) ≡ cancelled_by (cancelled_by l xs) ys
cancelled_append l [] ys = refl
cancelled_append l (b ∷ xs) ys = cancelled_append (cond b.cancel (cancel_named b l) l) xs ys

module _ (l : List Entry) (bs : List Bill) (k : ℕ) (h : k < length bs) where
  next : cancelled_by l (take (k + 1) bs) ≡ cond (bill_at bs k).cancel (cancel_named (bill_at bs k) (cancelled_by l (take k bs))) (cancelled_by l (take k bs))
  next =
      ap (λ (m : ℕ). cancelled_by l (take m bs)) (add-one k) ∙ ap (cancelled_by l) (take-suc bs k no_bill h)
      ∙ cancelled_append l (take k bs) (bill_at bs k ∷ [])

  pub cancelled_here : (bill_at bs k).cancel ≡ true → cancelled_by l (take (k + 1) bs) ≡ cancel_named (bill_at bs k) (cancelled_by l (take k bs))
  cancelled_here e = next ∙ ap (λ (t : Bool). cond t (cancel_named (bill_at bs k) (cancelled_by l (take k bs))) (cancelled_by l (take k bs))) e

  pub cancelled_past : (bill_at bs k).cancel ≡ false → cancelled_by l (take (k + 1) bs) ≡ cancelled_by l (take k bs)
  cancelled_past e = next ∙ ap (λ (t : Bool). cond t (cancel_named (bill_at bs k) (cancelled_by l (take k bs))) (cancelled_by l (take k bs))) e

-- ---- what cancels leave
pub cancelled_length : (l : List Entry) (bs : List Bill) → length (cancelled_by l bs) ≡ length l
cancelled_length l [] = refl
cancelled_length l (b ∷ bs) = cancelled_length (cond b.cancel (cancel_named b l) l) bs ∙ go b.cancel
  where
    go : (t : Bool) → length (cond t (cancel_named b l) l) ≡ length l
    go true = length_cancelled b l
    go false = refl

cancel_amounts : (x : Entry) (b : Bill) (l : List Entry) (p : ℕ) → opposite x (entry_of (cancel_named b l) p) ≡ opposite x (entry_of l p)
unfolding opposite
cancel_amounts x b [] p = refl
cancel_amounts x b (e ∷ l) zero = go (names_entry b e)
  where
    go : (t : Bool) → opposite x (entry_of (cond t (in_state e 3 ∷ l) (e ∷ cancel_named b l)) 0) ≡ opposite x e
    go true = refl
    go false = refl
cancel_amounts x b (e ∷ l) (suc p) = go (names_entry b e) (cancel_amounts x b l p)
  where
    go : (t : Bool) → opposite x (entry_of (cancel_named b l) p) ≡ opposite x (entry_of l p)
        → opposite x (entry_of (cond t (in_state e 3 ∷ l) (e ∷ cancel_named b l)) (suc p)) ≡ opposite x (entry_of l p)
    go true h = refl
    go false h = h

pub cancelled_amounts : (x : Entry) (l : List Entry) (bs : List Bill) (p : ℕ) → opposite x (entry_of (cancelled_by l bs) p) ≡ opposite x (entry_of l p)
cancelled_amounts x l [] p = refl
cancelled_amounts x l (b ∷ bs) p = cancelled_amounts x (cond b.cancel (cancel_named b l) l) bs p ∙ go b.cancel
  where
    go : (t : Bool) → opposite x (entry_of (cond t (cancel_named b l) l) p) ≡ opposite x (entry_of l p)
    go true = cancel_amounts x b l p
    go false = refl
