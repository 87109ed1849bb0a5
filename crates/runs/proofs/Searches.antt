-- A search by place along the entries that the words are.
--     first_entry     the first place at which a test of the entry there holds is the first entry's for which it holds
-- Assumes nothing.
use mathlib.Core.Path.{◌≡◌, sym, ◌∙◌, ap}
use mathlib.Core.List.{List}
use mathlib.Core.Bool.{Bool}
use Prim.Native.Nat.{ℕ}
use lib.IntN.{ℤ}
use Rattle.lists.specs.Below.{first_below}
use Rattle.lists.specs.First.{first_where}
use Rattle.lists.proofs.Below.{first_same}
use Rattle.entries.specs.declared.Entry.{Entry}
use Rattle.entries.specs.Entries.{entry_of}
use Rattle.used_entries.proofs.Sites.{first_entry as first_of_list}
use Rattle.runs.specs.InsideWords.{entry_at, entries_of}
use Rattle.runs.proofs.Words.{length_entries, entry_of_lem}

module _ (words : List ℕ) (amounts : List ℤ) where
  module _ (f : Entry → Bool) where
    pub first_entry : (n : ℕ) → first_below (λ (p : ℕ). f (entry_at words amounts p)) n ≡ first_where f (entries_of words amounts n)
    first_entry n =
        let es = entries_of words amounts n in
        first_same (λ (p : ℕ). f (entry_at words amounts p)) (λ (p : ℕ). f (entry_of es p)) n (λ j h. ap f (sym (entry_of_lem words amounts n j h)))
        ∙ ap (first_below (λ (p : ℕ). f (entry_of es p))) (sym (length_entries words amounts n)) ∙ first_of_list f es
