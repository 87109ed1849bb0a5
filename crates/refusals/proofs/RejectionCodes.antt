-- Laws of the rejection codes.
--     code_told                   what holds of every test and code of a list holds of a number and the code that the list gives it
--     code_test, code_range       a number that has a code is at most 40, and the code has four digits, of which the first is 6
--     code_above                  a number above 40 has no code
--     codes_at                    the rule of the table of codes
--     codes_zero, codes_some      what an entry of the table tells of the code
-- Assumes nothing.
use mathlib.Core.Path.{◌≡◌, refl, sym, ◌∙◌, ap}
use mathlib.Core.List.{List, [], ◌∷◌}
use mathlib.Core.Bool.{Bool, true, false, cond, ◌&&◌}
use Prim.Native.Nat.{ℕ, ◌≤◌, ◌<◌}
use native.Mathlib.Omega.{arith}
use borrow.Author.Tests.{eqb-true}
use lib.Dec.{T, eqb, leb, ltb, leb→le, ltb→lt}
use lib.ListN.{get_or}
use Rattle.lists.specs.InsideTabulate.{tabulate}
use Rattle.lists.proofs.Table.{and_left, and_right, tabulate_at}
use Rattle.std.specs.Prelude.{Option, Some, None}
use Rattle.refusals.specs.Codes.{rejection_codes, code_in, code_of}

-- ---- one law for what all the tests and codes of a list have in common
-- p passes at each test and its code
abbrev pub every_code : (ℕ → ℕ → Bool) → List (ℕ × ℕ) → Bool
every_code p [] = true
every_code p (t ∷ rest) = p t.0 t.1 && every_code p rest

pub code_told : (p : ℕ → ℕ → Bool) (l : List (ℕ × ℕ)) → T (every_code p l) → (n c : ℕ) → code_in l n ≡ Some c → T (p n c)
unfolding code_in
code_told p [] a n c e = let z : ◌≡◌ {A = ℕ} 0 1 = cc in absurd (omega arith)
code_told p (t ∷ rest) a n c e = go (eqb n t.0) refl e (code_told p rest (and_right (p t.0 t.1) (every_code p rest) a) n c)
  where
    go : (b : Bool) → eqb n t.0 ≡ b → cond b (Some t.1) (code_in rest n) ≡ Some c → (code_in rest n ≡ Some c → T (p n c)) → T (p n c)
    go true m h later =
        let same : n ≡ t.0 = eqb-true n t.0 m in
        let code : c ≡ t.1 = cc in
        rw (same, code) (and_left (p t.0 t.1) (every_code p rest) a)
    go false m h later = later h

pub code_test : (n c : ℕ) → code_of n ≡ Some c → n ≤ 40
unfolding code_of
code_test n c e = leb→le n 40 (code_told (λ (test code : ℕ). leb test 40) rejection_codes tt n c e)

pub code_range : (n c : ℕ) → code_of n ≡ Some c → (6000 < c) × (c < 7000)
unfolding code_of
code_range n c e = (
  ltb→lt 6000 c (code_told (λ (test code : ℕ). ltb 6000 code) rejection_codes tt n c e),
  ltb→lt c 7000 (code_told (λ (test code : ℕ). ltb code 7000) rejection_codes tt n c e),
)

pub code_above : (n : ℕ) → 40 < n → code_of n ≡ None
code_above n h = go (code_of n) refl
  where
    go : (r : Option ℕ) → code_of n ≡ r → r ≡ None
    go (Some c) e = absurd (omega (arith, code_test n c e))
    go None e = refl

-- ---- the table: its entry for a number is the number's code, or 0
abbrev pub entry_for : Option ℕ → ℕ
entry_for (Some c) = c
entry_for None = 0

unfoldable pub code_table : List ℕ
code_table = tabulate (λ (k : ℕ). entry_for (code_of k)) 41 0

-- the number's entry is 0, or it isn't
module _ (n : ℕ) (few : n ≤ 40) where
  pub codes_at : get_or code_table n 0 ≡ entry_for (code_of n)
  unfolding code_table
  codes_at = tabulate_at (λ (k : ℕ). entry_for (code_of k)) 41 n (omega arith)

  pub codes_zero : get_or code_table n 0 ≡ 0 → None ≡ code_of n
  codes_zero none = go (code_of n) refl (sym codes_at ∙ none)
    where
      go : (r : Option ℕ) → code_of n ≡ r → entry_for r ≡ 0 → None ≡ r
      go (Some c) e same = absurd (omega (arith, (code_range n c e).0))
      go None e same = refl

  pub codes_some : (get_or code_table n 0 ≡ 0 → ⊥) → Some (get_or code_table n 0) ≡ code_of n
  codes_some some = go (code_of n) codes_at
    where
      go : (r : Option ℕ) → get_or code_table n 0 ≡ entry_for r → Some (get_or code_table n 0) ≡ r
      go (Some c) same = ap Some same
      go None same = absurd (some same)
