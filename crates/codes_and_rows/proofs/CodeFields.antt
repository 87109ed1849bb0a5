-- The fields of test 7, by tests on the type, and what test 7 says of the numbers of a record's fields.
--     table_at, small_at    a list of fields is a rule at each type, and 0 past its end; its fields are below a bound
--     commodity_field, unit_field, cancel_field, exemption_field    the four lists
--     code_fields_small     a field of them is below 24
--     either_asked          the answer for one of the four codes
--     wrong_commodity, wrong_unit, wrong_cancel, last_code    the answer for all, by those in turn
-- Assumes nothing.
use mathlib.Core.Path.{◌≡◌, refl, sym, ◌∙◌}
use mathlib.Core.List.{List}
use mathlib.Core.Bool.{Bool, true, false, cond, ◌||◌}
use Prim.Native.Nat.{ℕ, ◌≤◌, ◌<◌}
use native.Mathlib.Omega.{arith}
use native.Mathlib.Decide.{dec_lt}
use borrow.Author.Tests.{ne_eqb, le-ltb}
use lib.Dec.{T, eqb, ltb, eqb→eq, ltb→lt}
use lib.ListN.{length, get_or, get_or-eq_default}
use Rattle.lists.proofs.Table.{every, every_at}
use Rattle.lists.specs.Written.{written}
use Rattle.format.specs.Format.{commodity_fields, unit_fields, cancel_fields, exemption_fields}
use Rattle.readings.specs.InsideLeadingBytes.{packed}
use Rattle.codes_and_rows.specs.InsideNumbers.{is_either, codes_stand}

-- ---- lists of fields
pub table_at : (f : ℕ → ℕ) (xs : List ℕ) → T (every (λ (k x : ℕ). eqb x (f k)) 0 xs) → ((k : ℕ) → length xs ≤ k → f k ≡ 0) → (k : ℕ) → get_or xs k 0 ≡ f k
table_at f xs all past k = go (dec_lt k (length xs))
  where
    go : Dec (k < length xs) → get_or xs k 0 ≡ f k
    go (yes h) = eqb→eq (get_or xs k 0) (f k) (every_at (λ (j x : ℕ). eqb x (f j)) xs (length xs) k h all refl)
    go (no h) = get_or-eq_default xs 0 {n = k} (omega (arith, h)) ∙ sym (past k (omega (arith, h)))

pub small_at : (n : ℕ) (xs : List ℕ) → T (every (λ (k x : ℕ). ltb x n) 0 xs) → 0 < n → (k : ℕ) → get_or xs k 0 < n
small_at n xs all some k = go (dec_lt k (length xs))
  where
    go : Dec (k < length xs) → get_or xs k 0 < n
    go (yes h) = ltb→lt (get_or xs k 0) n (every_at (λ (j x : ℕ). ltb x n) xs (length xs) k h all refl)
    go (no h) = rw (get_or-eq_default xs 0 {n = k} (omega (arith, h))) some

pub commodity_field : (type : ℕ) → get_or commodity_fields type 0 ≡ cond (eqb type 0) 6 0
commodity_field = table_at (λ (type : ℕ). cond (eqb type 0) 6 0) commodity_fields tt (λ type h. rw (ne_eqb type 0 (λ e. omega (arith, e))))

pub unit_field : (type : ℕ) → get_or unit_fields type 0 ≡ cond (eqb type 3) 17 (cond (ltb type 1) 0 (cond (ltb type 3) 13 0))
unit_field =
    table_at (λ (type : ℕ). cond (eqb type 3) 17 (cond (ltb type 1) 0 (cond (ltb type 3) 13 0))) unit_fields tt
    (λ type h. rw (ne_eqb type 3 (λ e. omega (arith, e)), le-ltb type 1 (omega arith), le-ltb type 3 (omega arith)))

pub cancel_field : (type : ℕ) → get_or cancel_fields type 0 ≡ cond (eqb type 7) 6 (cond (ltb type 2) 0 (cond (ltb type 7) 7 0))
cancel_field =
    table_at (λ (type : ℕ). cond (eqb type 7) 6 (cond (ltb type 2) 0 (cond (ltb type 7) 7 0))) cancel_fields tt
    (λ type h. rw (ne_eqb type 7 (λ e. omega (arith, e)), le-ltb type 2 (omega arith), le-ltb type 7 (omega arith)))

pub exemption_field : (type : ℕ) → get_or exemption_fields type 0 ≡ cond (eqb type 6) 19 (cond (eqb type 7) 11 0)
exemption_field =
    table_at (λ (type : ℕ). cond (eqb type 6) 19 (cond (eqb type 7) 11 0)) exemption_fields tt
    (λ type h. rw (ne_eqb type 6 (λ e. omega (arith, e)), ne_eqb type 7 (λ e. omega (arith, e))))

pub record CodeFieldsSmall (type : ℕ) : Type 0 where
  pub commodity : get_or commodity_fields type 0 < 24
  pub unit : get_or unit_fields type 0 < 24
  pub cancel : get_or cancel_fields type 0 < 24
  pub exemption : get_or exemption_fields type 0 < 24

pub code_fields_small : (type : ℕ) → CodeFieldsSmall type
code_fields_small type =
    record {
      commodity = small_at 24 commodity_fields tt (omega arith) type;
      unit = small_at 24 unit_fields tt (omega arith) type;
      cancel = small_at 24 cancel_fields tt (omega arith) type;
      exemption = small_at 24 exemption_fields tt (omega arith) type;
    }

-- ---- test 7
pub either_asked : (table numbers one two : List ℕ) (type : ℕ) {k n m : ℕ} {answer : Bool} → k ≡ get_or table type 0 → n ≡ packed one → m ≡ packed two
    → answer ≡ (eqb k 0 || (eqb (get_or numbers k 0) n || eqb (get_or numbers k 0) m)) → is_either (get_or table type 0) numbers one two ≡ answer
unfolding is_either
either_asked table numbers one two type found p q asked = rw (asked, found, p, q)

module _ (unit : List ℕ) (type : ℕ) (numbers : List ℕ) where
  pub wrong_commodity : is_either (get_or commodity_fields type 0) numbers (written "EL") (written "NG") ≡ false → codes_stand unit type numbers ≡ false
  unfolding codes_stand
  wrong_commodity e = rw e

  module _ (commodity : is_either (get_or commodity_fields type 0) numbers (written "EL") (written "NG") ≡ true) where
    pub wrong_unit : is_either (get_or unit_fields type 0) numbers unit unit ≡ false → codes_stand unit type numbers ≡ false
    unfolding codes_stand
    wrong_unit e = rw (commodity, e)

    module _ (units : is_either (get_or unit_fields type 0) numbers unit unit ≡ true) where
      pub wrong_cancel : is_either (get_or cancel_fields type 0) numbers (written "Y") (written "N") ≡ false → codes_stand unit type numbers ≡ false
      unfolding codes_stand
      wrong_cancel e = rw (commodity, units, e)

      pub last_code : is_either (get_or cancel_fields type 0) numbers (written "Y") (written "N") ≡ true
          → codes_stand unit type numbers ≡ is_either (get_or exemption_fields type 0) numbers (written "Y") (written "N")
      unfolding codes_stand
      last_code e = rw (commodity, units, e)
