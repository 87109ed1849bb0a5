-- Lists by place.
--     left_here, left_past    what is left of a selection of bills at a place
--     drop_later              lists that are the same past m are the same past any later place
--     snoc_set                the first places of a list, with an element written after them
--     first_ahead             the first element that a test finds is the same in a longer list
-- Assumes nothing.
use mathlib.Core.Path.{◌≡◌, refl, sym, ap, ◌∙◌, subst}
use mathlib.Core.Bool.{Bool, true, false, cond}
use mathlib.Core.List.{List, [], ◌∷◌, ◌++◌}
use Prim.Native.Nat.{ℕ, suc, ◌+◌, ◌-◌, ◌≤◌, ◌<◌}
use native.Mathlib.Numerals.{add-one}
use native.Mathlib.Omega.{arith}
use lib.ListN.{length, set, take, drop}
use lib.Seq.{drop-cons, drop-drop, take-suc-set}
use Rattle.lists.specs.First.{first_where}
use Rattle.lists.specs.Selections.{filter}
use Rattle.bill_files.specs.Accepted.{Bill}
use Rattle.booking.specs.Acceptable.{no_bill, bill_at}

module _ (p : Bill → Bool) (bs : List Bill) (k : ℕ) (h : k < length bs) where
  left : filter p (drop k bs) ≡ cond (p (bill_at bs k)) (bill_at bs k ∷ filter p (drop (k + 1) bs)) (filter p (drop (k + 1) bs))
  left = ap (filter p) (drop-cons bs k no_bill h) ∙ ap (λ (m : ℕ). cond (p (bill_at bs k)) (bill_at bs k ∷ filter p (drop m bs)) (filter p (drop m bs))) (sym (add-one k))

  pub left_here : p (bill_at bs k) ≡ true → filter p (drop k bs) ≡ bill_at bs k ∷ filter p (drop (k + 1) bs)
  left_here e = left ∙ ap (λ (t : Bool). cond t (bill_at bs k ∷ filter p (drop (k + 1) bs)) (filter p (drop (k + 1) bs))) e

  pub left_past : p (bill_at bs k) ≡ false → filter p (drop k bs) ≡ filter p (drop (k + 1) bs)
  left_past e = left ∙ ap (λ (t : Bool). cond t (bill_at bs k ∷ filter p (drop (k + 1) bs)) (filter p (drop (k + 1) bs))) e

pub drop_later : {A : Type 0} (m n : ℕ) (xs ys : List A) → m ≤ n → drop m xs ≡ drop m ys → drop n xs ≡ drop n ys
drop_later m n xs ys h e =
    let z : m + (n - m) ≡ n = omega arith in
    subst (λ (k : ℕ). drop k xs ≡ drop k ys) z (sym (drop-drop (n - m) m xs) ∙ ap (drop (n - m)) e ∙ drop-drop (n - m) m ys)

pub snoc_set : {A : Type 0} (l : List A) (i : ℕ) (a : A) → i < length l → take (i + 1) (set l i a) ≡ take i l ++ (a ∷ [])
snoc_set l i a h = ap (λ (m : ℕ). take m (set l i a)) (add-one i) ∙ take-suc-set l i a h

pub first_ahead : {A : Type 0} (f : A → Bool) (xs ys : List A) → first_where f xs < length xs → first_where f (xs ++ ys) ≡ first_where f xs
unfolding first_where
first_ahead f [] ys h = absurd (omega arith)
first_ahead f (x ∷ xs) ys h = go (λ h. first_ahead f xs ys h) (f x) h
  where
    go : (first_where f xs < length xs → first_where f (xs ++ ys) ≡ first_where f xs) → (t : Bool) → cond t 0 (suc (first_where f xs)) < suc (length xs) → cond t 0 (suc (first_where f (xs ++ ys))) ≡ cond t 0 (suc (first_where f xs))
    go more true h = refl
    go more false h = ap suc (more (omega arith))
