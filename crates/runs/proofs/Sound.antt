-- The run that was copied into the words, and the entries that the words are.
--     loaded_cases    they have the same used entries, or neither is sound
--     loaded_alike    so what is said of the used entries of a sound ledger, and else something fixed, is said of both alike
-- Assumes nothing.
use mathlib.Core.Path.{◌≡◌, sym, subst, ap, ◌∙◌}
use mathlib.Core.Bool.{Bool, false, cond}
use mathlib.Core.List.{List}
use Prim.Native.Nat.{ℕ, ◌≤◌}
use lib.IntN.{ℤ}
use lib.ListN.{length, take}
use Rattle.lists.proofs.Selections.{cases}
use Rattle.entries.specs.declared.Entry.{Entry}
use Rattle.runs.specs.InsideWords.{entries_of}
use Rattle.runs.proofs.Words.{length_entries, take_entries}
use Rattle.soundness.specs.Sound.{is_sound, sizes_fit}
use Rattle.runs.specs.InsideRoom.{read_count}
use Rattle.soundness.proofs.Meaning.{past_used}
use Rattle.soundness.proofs.Sizes.{sizes_mean, sizes_amiss as run_amiss}
use Rattle.runs.proofs.Sizes.{sizes_amiss}

module _ (ns : List ℕ) (zs : List ℤ) (ys : List Entry) (used : ℕ) (loaded : entries_of ns zs (read_count (length ys) used) ≡ take (read_count (length ys) used) ys) where
  abbrev es : List Entry
  es = entries_of ns zs (length ys)

  pub loaded_cases {ξ} : {X : Type ξ} → (length ys ≤ 8192 → used ≤ length ys → take used es ≡ take used ys → X) → (is_sound es used ≡ false → is_sound ys used ≡ false → X) → X
  loaded_cases same unsound =
      cases (sizes_fit (length ys) used)
      (λ e. let fit = (sizes_mean (length ys) used).0 e in
      same fit.0 fit.1 (take_entries ns zs used (length ys) fit.1 ∙ subst (λ (b : Bool). entries_of ns zs (cond b used 0) ≡ take (cond b used 0) ys) e loaded))
      (λ e. unsound (sizes_amiss ns zs (length ys) used e) (run_amiss ys used e))

  pub loaded_alike : {X : Type 0} (f : List Entry → X) (other : X) → cond (is_sound es used) (f (take used es)) other ≡ cond (is_sound ys used) (f (take used ys)) other
  loaded_alike {X} f other =
      loaded_cases (λ _ _ same. λ t. cond (past_used es ys used same (length_entries ns zs (length ys)) t) (f (same t)) other)
      (λ e e'. ap (λ (b : Bool). cond b (f (take used es)) other) e ∙ sym (ap (λ (b : Bool). cond b (f (take used ys)) other) e'))
