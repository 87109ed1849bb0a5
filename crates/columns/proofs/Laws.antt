-- What callers learn of columns.
--     number_kept                      what stands in a column, less one, is the field's number
--     number_none                      and 0 says that the field has none
--     number_small                     a number that is read has at most 15 digits
--     charge_bound, usage_bound        and so have the amounts of a line, as they count
--     column_at_lem, charge_at_lem, usage_at_lem                  which is that of the line at its place
-- Assumes nothing.
use mathlib.Core.Path.{◌≡◌, refl, sym, ◌∙◌, ap}
use mathlib.Core.List.{List, [], ◌∷◌, map}
use Prim.Native.Nat.{ℕ, zero, suc, ◌+◌, ◌^◌, ◌<◌}
use native.Mathlib.Nat.{le_of_suc-le-suc}
use native.Mathlib.Omega.{arith}
use lib.Dec.{lit≤}
use lib.IntN.{nat_abs}
use lib.ListN.{length, get_or, take, length-map}
use Rattle.std.specs.Prelude.{Option, Some, None}
use Rattle.digits.specs.Digits.{digits_of}
use Rattle.digits.proofs.Laws.{ten_room, digits_say, digits_bound}
use Rattle.amounts.specs.declared.Amount.{Amount}
use Rattle.amounts.specs.declared.Amount.TheVariants.{Missing}
use Rattle.amounts.specs.Amounts.{or_zero}
use Rattle.amounts.specs.InsideSaid.{said_by, amounts_said}
use Rattle.amounts.proofs.Laws.{counted_bound}
use Rattle.columns.specs.Columns.{number_in_column, field_in, charge, usage, number_in, charge_in, usage_in}
use Rattle.columns.specs.InsideColumns.{column_at, ColumnsRead}

-- ---- numbers in columns
less_one : {A : Type 0} (value : ℕ → A) (m n : ℕ) → m + 1 ≡ suc n → value m ≡ value n
less_one value m n e = ap value (omega (arith, e))

pub number_kept : (x : Option ℕ) (n : ℕ) → number_in_column x ≡ suc n → x ≡ Some n
number_kept (Some m) n e = less_one Some m n e
number_kept None n e = absurd (omega (arith, e))

pub number_none : (x : Option ℕ) → number_in_column x ≡ 0 → x ≡ None
number_none (Some m) e = absurd (omega (arith, e))
number_none None e = refl

pub number_small : (s : List ℕ) (n : ℕ) → digits_of s ≡ Some n → n < 10 ^ 15
number_small s n e = ten_room (length s) (digits_bound s n e) (digits_say s n e).few

-- ---- amounts
pub charge_bound : (line : List ℕ) → nat_abs (or_zero (charge_in line)) < 10 ^ 15
unfolding charge_in
charge_bound line = ten_room 11 (counted_bound 11 2 (field_in charge line)) (lit≤ tt)

pub usage_bound : (line : List ℕ) → nat_abs (or_zero (usage_in line)) < 10 ^ 15
unfolding usage_in
usage_bound line = ten_room 14 (counted_bound 14 4 (field_in usage line)) (lit≤ tt)

-- ---- columns
pub map_at : {A B : Type 0} (f : A → B) (d : A) (e : B) (xs : List A) (i : ℕ) → i < length xs → get_or (map f xs) i e ≡ f (get_or xs i d)
map_at f d e [] i h = absurd (omega arith)
map_at f d e (x ∷ xs) zero h = refl
map_at f d e (x ∷ xs) (suc i) h = map_at f d e xs i (le_of_suc-le-suc h)

module _ {A : Type 0} (f : List ℕ → A) (lines : List (List ℕ)) (column : List A) (same : column ≡ map f lines) where
  as_long : length column ≡ length lines
  as_long = ap length same ∙ length-map lines f

  in_line : (d : A) (i : ℕ) → i < length lines → get_or column i d ≡ f (get_or lines i [])
  in_line d i h = ap (λ (l : List A). get_or l i d) same ∙ map_at f [] d lines i h

module _ {lines : List (List ℕ)} {words chargeColumn usageColumn : List ℕ} (r : ColumnsRead lines words chargeColumn usageColumn) (n : ℕ) (e : n ≡ length lines) where
  module _ (i : ℕ) (h : i < n) where
    pub column_at_lem : (column : ℕ) → column < 8 → get_or (column_at (length chargeColumn) column n words) i 0 ≡ number_in column (get_or lines i [])
    column_at_lem column l = rw e (in_line (number_in column) lines _ (r.numbers column l) 0 i (omega (arith, e)))

    amount_at_lem : (f : List ℕ → Amount) (column : List ℕ) → amounts_said (take (length lines) column) ≡ map f lines → said_by (get_or (take n column) i 0) ≡ f (get_or lines i [])
    amount_at_lem f column same =
        let long : length (take (length lines) column) ≡ length lines = sym (length-map (take (length lines) column) said_by) ∙ as_long f lines _ same in
        rw e (sym (map_at said_by 0 Missing (take (length lines) column) i (omega (arith, e, long))) ∙ in_line f lines _ same Missing i (omega (arith, e)))

    pub charge_at_lem : said_by (get_or (take n chargeColumn) i 0) ≡ charge_in (get_or lines i [])
    charge_at_lem = amount_at_lem charge_in chargeColumn r.charges

    pub usage_at_lem : said_by (get_or (take n usageColumn) i 0) ≡ usage_in (get_or lines i [])
    usage_at_lem = amount_at_lem usage_in usageColumn r.usages
