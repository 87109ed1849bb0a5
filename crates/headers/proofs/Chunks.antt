-- What `any` answers of the whole chunks of n elements of a slice.
--     chunk_some    whether a chunk passes the test
-- Assumes nothing.
use mathlib.Core.Path.{◌≡◌, sym, ap, subst, ◌∙◌}
use mathlib.Core.Bool.{Bool, true, false}
use mathlib.Core.List.{List, []}
use Prim.Native.Nat.{ℕ, ◌<◌, ◌*◌, ◌/◌}
use native.Mathlib.Omega.{arith}
use lib.ListN.{length, take, drop}
use native.Mathlib.Nat.{mul_comm}
use denote.Ref.{Bor}
use denote.Param.Members.{Mut, Called}
use Rattle.std.specs.Prelude.{Option, Some, None, ⊤, MatchOption, MatchBool, IsTrue, IsSomeAnd, IfSome}
use Rattle.std.specs.Option.{option_map}
use Rattle.std.specs.Iterator.Runs.{Run, AnyItemGives, AllItemsGive, CallKeepsClosure, IsChunksExactRun}
use Rattle.std.proofs.lemmas.Nat.{le-div}
use Rattle.lists.specs.Below.{some_below}
use Rattle.lists.proofs.Below.{some_is, none_some}

item_both : {X : Type 0} {P Q : X → Type 0} (o : Option X) → IsSomeAnd o P → IfSome o Q → (x : X) × P x × Q x
item_both (Some x) p q = (x, p, q)
item_both None p q = absurd p

item_there : {X : Type 0} {P Q : X → Type 0} (o : Option X) {y : X} → option_map (λ z. z) o ≡ Some y → IfSome o P → IfSome o Q → (x : X) × P x × Q x
item_there (Some x) e p q = (x, p, q)
item_there {X} None e p q = absurd (subst (λ (o : Option X). MatchOption o ⊤ (λ z. ⊥)) e tt)

module _ {S A F : Type 0} {steps : S → Option (Bor (List A)) → S → Type 0} (g : Mut F (Bor (List A) × Unit {0}) Bool) (f : F) (test : List A → Bool) (p : Run steps) (n : ℕ) (xs : List A) where
  -- the chunk at place k passes
  abbrev pub passes : ℕ → Bool
  passes k = test (take n (drop (n * k) xs))

  pub chunk_some : 0 < n → IsChunksExactRun p n xs → CallKeepsClosure g f → ((x : Bor (List A)) (b : Bool) → Called g f (x, tt) b f → test x.now ≡ b) → (r : Bool)
      → MatchBool r (AnyItemGives p g f true) (IsTrue p.whole × AllItemsGive p g f false)
      → r ≡ some_below passes (length xs / n)
  chunk_some pos run keeps told true any =
      let at = any keeps in
      let item = item_both (p.at at.0) at.2 (run.2 at.0) in
      let place : n * at.0 ≡ at.0 * n = mul_comm n at.0 in
      sym (some_is passes (length xs / n) at.0 (omega (arith, at.1, le-div p.len (length xs) n pos run.0))
      (ap (λ (k : ℕ). test (take n (drop k xs))) place ∙ ap test (sym item.2.2.0) ∙ told item.0 true item.1))
  chunk_some pos run keeps told false none =
      let all = none.1 keeps in
      sym (none_some passes (length xs / n) (λ k h.
      let item = item_there (p.at k) (p.reads k blank (omega (arith, h, run.1 none.0))) (run.2 k) (all k) in
      let place : n * k ≡ k * n = mul_comm n k in
      ap (λ (k : ℕ). test (take n (drop k xs))) place ∙ ap test (sym item.1.2.0) ∙ told item.0 false item.2))
    where
      blank : Bor (List A)
      blank = record { ref_ptr = (0, 0); now = [] }
