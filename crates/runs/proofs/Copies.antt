-- What was copied back into a lent run.
--     placed_is    a run whose places from..to are another list's, and the others as they were
-- Assumes nothing.
use mathlib.Core.Path.{◌≡◌, sym, ap, subst, ◌∙◌}
use mathlib.Core.List.{List, ◌++◌, append_assoc}
use Prim.Native.Nat.{ℕ, ◌+◌, ◌-◌, ◌≤◌, ◌<◌}
use native.Mathlib.Omega.{arith}
use lib.ListN.{length, get_or, take, drop, take-append-drop, length-drop}
use lib.Seq.{get_or-take, get_or-drop, length-take-le, ext_get_or, take-take}
use Rattle.entries.specs.declared.Entry.{Entry}
use Rattle.entries.specs.Entries.{blank}
use Rattle.runs.specs.InsideCopies.{placed}

-- ---- some places of a run are another list's
module _ (ys es l : List Entry) (from to : ℕ) (order : from ≤ to) (within : to ≤ length ys) (long : length l ≡ to) (same : length es ≡ length ys)
    (before : (k : ℕ) → k < from → get_or es k blank ≡ get_or ys k blank) (copied : (k : ℕ) → from ≤ k → k < to → get_or es k blank ≡ get_or l k blank) (rest : drop to es ≡ drop to ys) where
  abbrev z : List Entry
  z = take to es

  length_z : length z ≡ to
  length_z = length-take-le to es (omega (arith, within, same))

  front : take from z ≡ take from ys
  front =
      take-take from to es order
      ∙ ext_get_or blank (take from es) (take from ys) (length-take-le from es (omega (arith, within, same, order)) ∙ sym (length-take-le from ys (omega (arith, within, order))))
      (λ k h. let l : k < from = subst (λ (m : ℕ). k < m) (length-take-le from es (omega (arith, within, same, order))) h in get_or-take from es k blank l ∙ before k l ∙ sym (get_or-take from ys k blank l))

  middle : drop from z ≡ drop from l
  middle =
      ext_get_or blank (drop from z) (drop from l) (length-drop from z ∙ ap (λ (m : ℕ). m - from) (length_z ∙ sym long) ∙ sym (length-drop from l))
      (λ k h. let b : from + k < to = below k (subst (λ (m : ℕ). k < m) (length-drop from z ∙ ap (λ (m : ℕ). m - from) length_z) h) in
      get_or-drop from z k blank ∙ get_or-take to es (from + k) blank b ∙ copied (from + k) (omega arith) b ∙ sym (get_or-drop from l k blank))
    where
      below : (k : ℕ) → k < to - from → from + k < to
      below k h = omega (arith, h, order)

  pub placed_is : es ≡ placed ys l from to
  placed_is =
      sym (take-append-drop to es) ∙ (λ t. (sym (take-append-drop from z) t) ++ rest t) ∙ (λ t. (front t ++ middle t) ++ drop to ys) ∙ append_assoc (take from ys) (drop from l) (drop to ys)
