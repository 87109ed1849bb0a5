-- Searches by place along a list of entries.
--     first_entry     the first place at which a test of the entry there holds is the first entry's for which it holds
--     some_any        there is such a place exactly where the test holds for some entry
--     overlap_site    what overlaps a period is of its site
-- Assumes nothing.
use mathlib.Core.Path.{◌≡◌, refl, sym, ap, ◌∙◌}
use mathlib.Core.List.{List, [], ◌∷◌}
use mathlib.Core.Bool.{Bool, true, false, ◌&&◌, ◌||◌, cond}
use Prim.Native.Nat.{ℕ, suc, ◌+◌}
use native.Mathlib.Nat.{add-zero, zero-add, add-suc, suc-add}
use native.Mathlib.Omega.{arith}
use borrow.Author.Tests.{eqb-true, lt-ltb}
use lib.Dec.{eqb, ltb}
use Prim.Native.Nat.compare.{suc-suc}
use lib.ListN.{length}
use Rattle.lists.specs.Below.{first_from, first_below}
use Rattle.lists.specs.First.{first_where}
use Rattle.lists.specs.Selections.{any}
use Rattle.lists.proofs.Reflected.{both_of}
use Rattle.calendar.specs.Periods.{shares_day}
use Rattle.entries.specs.declared.Entry.{Entry}
use Rattle.entries.specs.Entries.{entry_of, period}
use Rattle.soundness.specs.Sound.{is_live_period}
use Rattle.used_entries.specs.InsideSited.{overlaps_entry}

module _ (f : Entry → Bool) where
  first_from_lem : (g : ℕ → Bool) (es : List Entry) (i : ℕ) → ((k : ℕ) → g (i + k) ≡ f (entry_of es k)) → first_from g i (length es) ≡ i + first_where f es
  unfolding first_from first_where
  first_from_lem g [] i same = sym (add-zero i)
  first_from_lem g (e ∷ es) i same =
      ap (λ (t : Bool). cond t i (first_from g (suc i) (length es))) (ap g (sym (add-zero i)) ∙ same 0)
      ∙ go (f e) (first_from_lem g es (suc i) (λ k. ap g (suc-add i k ∙ sym (add-suc i k)) ∙ same (suc k)))
    where
      rest : ℕ
      rest = first_where f es

      go : (t : Bool) → first_from g (suc i) (length es) ≡ suc i + rest → cond t i (first_from g (suc i) (length es)) ≡ i + cond t 0 (suc rest)
      go true more = sym (add-zero i)
      go false more = more ∙ suc-add i rest ∙ sym (add-suc i rest)

  pub first_entry : (es : List Entry) → first_below (λ (p : ℕ). f (entry_of es p)) (length es) ≡ first_where f es
  unfolding first_below
  first_entry es = first_from_lem (λ (p : ℕ). f (entry_of es p)) es 0 (λ k. ap (λ (p : ℕ). f (entry_of es p)) (zero-add k)) ∙ zero-add _

  some_where : (es : List Entry) → ltb (first_where f es) (length es) ≡ any f es
  unfolding first_where
  some_where [] = refl
  some_where (e ∷ es) = go (f e) (some_where es)
    where
      go : (t : Bool) → ltb (first_where f es) (length es) ≡ any f es → ltb (cond t 0 (suc (first_where f es))) (suc (length es)) ≡ (t || any f es)
      go true more = lt-ltb 0 (suc (length es)) (omega arith)
      go false more = rw suc-suc more

  pub some_any : (es : List Entry) (first : ℕ) → first ≡ first_below (λ (p : ℕ). f (entry_of es p)) (length es) → ltb first (length es) ≡ any f es
  some_any es first e = ap (λ (m : ℕ). ltb m (length es)) (e ∙ first_entry es) ∙ some_where es

pub overlap_site : (a e : Entry) → overlaps_entry a e ≡ true → e.site ≡ a.site
unfolding overlaps_entry
overlap_site a e t =
    let live_there = ((both_of (is_live_period e && eqb e.site a.site) (shares_day (period e) (period a))).0 t).0 in
    eqb-true _ _ ((both_of (is_live_period e) (eqb e.site a.site)).0 live_there).1
