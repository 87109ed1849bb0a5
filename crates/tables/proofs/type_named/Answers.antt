-- `tables::type_named` meets its contract: each arm of the match answers the place of its number among the letters of the types' names.
-- Assumes nothing.
use Rattle.tables.specs.Types.{letters, type_letters, type_named}
use Rattle.lists.specs.First.{first_where, is_byte}
use lib.ListN.{length}
use borrow.Author.Tests.{eq-eqb, ne_eqb}
use mathlib.Core.List.{List}
use mathlib.Core.Path.{◌≡◌, refl, sym, ◌∙◌, ap}
use Prim.Native.Nat.{ℕ, ◌+◌, ◌*◌}
use Rattle.tables.proofs.type_named.Goals as goal

-- the type of two letters that are the number n
named : (s : List ℕ) (n : ℕ) → length s ≡ 2 → letters s ≡ n → first_where (is_byte n) type_letters ≡ type_named s
unfolding type_named
named s n two e = rw (eq-eqb (length s) 2 two) (ap (λ (m : ℕ). first_where (is_byte m) type_letters) (sym e))

-- a number that is none of the nine
unnamed : (n : ℕ) → (n ≡ 17992 → ⊥) → (n ≡ 21320 → ⊥) → (n ≡ 21576 → ⊥) → (n ≡ 17493 → ⊥) → (n ≡ 17476 → ⊥) → (n ≡ 17485 → ⊥) → (n ≡ 17224 → ⊥) → (n ≡ 20291 → ⊥) → (n ≡ 18004 → ⊥) → first_where (is_byte n) type_letters ≡ 9
unfolding first_where
unnamed n no0 no1 no2 no3 no4 no5 no6 no7 no8 =
    simp (
      ne_eqb 17992 n (λ e. no0 (sym e)),
      ne_eqb 21320 n (λ e. no1 (sym e)),
      ne_eqb 21576 n (λ e. no2 (sym e)),
      ne_eqb 17493 n (λ e. no3 (sym e)),
      ne_eqb 17476 n (λ e. no4 (sym e)),
      ne_eqb 17485 n (λ e. no5 (sym e)),
      ne_eqb 17224 n (λ e. no6 (sym e)),
      ne_eqb 20291 n (λ e. no7 (sym e)),
      ne_eqb 18004 n (λ e. no8 (sym e)),
    )

pub returns-then-s-ne2 : goal.returns-then-s-ne2
unfolding type_named
returns-then-s-ne2 c = simp (ne_eqb _ _ c.if-s-ne2.true)

pub returns-in-17992 : goal.returns-in-17992
unfolding first_where
returns-in-17992 c =
    let named_here : (n : ℕ) → c.from.result * 256 + c.from-2.result ≡ n → first_where (is_byte n) type_letters ≡ type_named c.args.s.now = λ n e. named c.args.s.now n c.if-s-ne2.false (rw (c.from.ensures, c.from-2.ensures) at e) in
    named_here 17992 c.in-17992.is

pub returns-in-21320 : goal.returns-in-21320
unfolding first_where
returns-in-21320 c =
    let named_here : (n : ℕ) → c.from.result * 256 + c.from-2.result ≡ n → first_where (is_byte n) type_letters ≡ type_named c.args.s.now = λ n e. named c.args.s.now n c.if-s-ne2.false (rw (c.from.ensures, c.from-2.ensures) at e) in
    named_here 21320 c.in-21320.is

pub returns-in-21576 : goal.returns-in-21576
unfolding first_where
returns-in-21576 c =
    let named_here : (n : ℕ) → c.from.result * 256 + c.from-2.result ≡ n → first_where (is_byte n) type_letters ≡ type_named c.args.s.now = λ n e. named c.args.s.now n c.if-s-ne2.false (rw (c.from.ensures, c.from-2.ensures) at e) in
    named_here 21576 c.in-21576.is

pub returns-in-17493 : goal.returns-in-17493
unfolding first_where
returns-in-17493 c =
    let named_here : (n : ℕ) → c.from.result * 256 + c.from-2.result ≡ n → first_where (is_byte n) type_letters ≡ type_named c.args.s.now = λ n e. named c.args.s.now n c.if-s-ne2.false (rw (c.from.ensures, c.from-2.ensures) at e) in
    named_here 17493 c.in-17493.is

pub returns-in-17476 : goal.returns-in-17476
unfolding first_where
returns-in-17476 c =
    let named_here : (n : ℕ) → c.from.result * 256 + c.from-2.result ≡ n → first_where (is_byte n) type_letters ≡ type_named c.args.s.now = λ n e. named c.args.s.now n c.if-s-ne2.false (rw (c.from.ensures, c.from-2.ensures) at e) in
    named_here 17476 c.in-17476.is

pub returns-in-17485 : goal.returns-in-17485
unfolding first_where
returns-in-17485 c =
    let named_here : (n : ℕ) → c.from.result * 256 + c.from-2.result ≡ n → first_where (is_byte n) type_letters ≡ type_named c.args.s.now = λ n e. named c.args.s.now n c.if-s-ne2.false (rw (c.from.ensures, c.from-2.ensures) at e) in
    named_here 17485 c.in-17485.is

pub returns-in-17224 : goal.returns-in-17224
unfolding first_where
returns-in-17224 c =
    let named_here : (n : ℕ) → c.from.result * 256 + c.from-2.result ≡ n → first_where (is_byte n) type_letters ≡ type_named c.args.s.now = λ n e. named c.args.s.now n c.if-s-ne2.false (rw (c.from.ensures, c.from-2.ensures) at e) in
    named_here 17224 c.in-17224.is

pub returns-in-20291 : goal.returns-in-20291
unfolding first_where
returns-in-20291 c =
    let named_here : (n : ℕ) → c.from.result * 256 + c.from-2.result ≡ n → first_where (is_byte n) type_letters ≡ type_named c.args.s.now = λ n e. named c.args.s.now n c.if-s-ne2.false (rw (c.from.ensures, c.from-2.ensures) at e) in
    named_here 20291 c.in-20291.is

pub returns-in-18004 : goal.returns-in-18004
unfolding first_where
returns-in-18004 c =
    let named_here : (n : ℕ) → c.from.result * 256 + c.from-2.result ≡ n → first_where (is_byte n) type_letters ≡ type_named c.args.s.now = λ n e. named c.args.s.now n c.if-s-ne2.false (rw (c.from.ensures, c.from-2.ensures) at e) in
    named_here 18004 c.in-18004.is

pub returns-in_default : goal.returns-in_default
returns-in_default c =
    let named_here : (n : ℕ) → c.from.result * 256 + c.from-2.result ≡ n → first_where (is_byte n) type_letters ≡ type_named c.args.s.now = λ n e. named c.args.s.now n c.if-s-ne2.false (rw (c.from.ensures, c.from-2.ensures) at e) in
    let n = c.from.result * 256 + c.from-2.result in
    sym (unnamed n c.in_default.in_default-own.rest.0.0.0.0.0.0.0.0.1 c.in_default.in_default-own.rest.0.0.0.0.0.0.0.1 c.in_default.in_default-own.rest.0.0.0.0.0.0.1 c.in_default.in_default-own.rest.0.0.0.0.0.1 c.in_default.in_default-own.rest.0.0.0.0.1 c.in_default.in_default-own.rest.0.0.0.1 c.in_default.in_default-own.rest.0.0.1 c.in_default.in_default-own.rest.0.1 c.in_default.in_default-own.rest.1) ∙ named_here n refl
