-- What tests 11, 12 and 33 say. Each law is a pair: what a passed test tells, and what makes it pass.
--     ours_is       test 11: field 4 of FH is nine digits whose value is the retailer
--     listed_is     test 12: field 5 of FH is one of the distributors' groups of four bytes
--     counts_is     test 33: field 4 of FT, in whole units, is the number of records
-- Assumes nothing.
use mathlib.Core.Path.{◌≡◌, refl, ◌∙◌, ap}
use mathlib.Core.List.{List}
use mathlib.Core.Bool.{true}
use Prim.Native.Nat.{ℕ, ◌/◌}
use native.Mathlib.Omega.{arith}
use borrow.Author.Tests.{eq-eqb, eqb-true}
use lib.ListN.{length}
use lib.IntN.{pos}
use Rattle.lists.specs.Bytes.{same_bytes}
use Rattle.lists.proofs.Below.{some_holds, some_is}
use Rattle.lists.proofs.Bytes.{same_is, is_same}
use Rattle.std.specs.Prelude.{Option, Some, None}
use Rattle.digits.specs.Digits.{fixed_digits_of}
use Rattle.amounts.specs.Amounts.{amount_of, or_zero}
use Rattle.totals.proofs.Laws.{same_is as amounts-equal, is_same as equal-amounts}
use Rattle.records.specs.Records.{field}
use Rattle.headers.specs.Headers.{is_value, is_ours, is_listed, counts_records}
use Rattle.headers.specs.Meaning.{Listed}
use Rattle.headers.specs.InsideSteps.{is_group}

-- ---- test 11
pub is_value_lem : (n : ℕ) (read : Option ℕ) → is_value n read ≡ true → read ≡ Some n
is_value_lem n (Some m) e = ap Some (eqb-true m n e)
is_value_lem n None e = let z : ◌≡◌ {A = ℕ} 0 1 = cc in absurd (omega arith)

pub value_is : (n : ℕ) (read : Option ℕ) → read ≡ Some n → is_value n read ≡ true
value_is n read e = ap (is_value n) e ∙ eq-eqb n n refl

module _ (retailer : ℕ) (header : List ℕ) where
  pub ours_is : (is_ours retailer header ≡ true → fixed_digits_of 9 (field 4 header) ≡ Some retailer)
      × (fixed_digits_of 9 (field 4 header) ≡ Some retailer → is_ours retailer header ≡ true)
  unfolding is_ours
  ours_is = let read = fixed_digits_of 9 (field 4 header) in (is_value_lem retailer read, value_is retailer read)

-- ---- test 12
module _ (distributors header : List ℕ) where
  pub listed_is : (is_listed distributors header ≡ true → Listed distributors header) × (Listed distributors header → is_listed distributors header ≡ true)
  unfolding is_listed
  listed_is =
      let sender = field 5 header in (
        λ e. let found = some_holds (is_group distributors sender) (length distributors / 4) e in (found.0, found.1, same_is _ _ found.2),
        λ found.
            some_is (is_group distributors sender) (length distributors / 4) found.0 found.1
            (ap (λ (bytes : List ℕ). same_bytes bytes sender) found.2 ∙ is_same sender),
      )

-- ---- test 33
module _ (trailer : List ℕ) (n : ℕ) where
  pub counts_is : (counts_records trailer n ≡ true → or_zero (amount_of 9 0 (field 4 trailer)) ≡ pos n)
      × (or_zero (amount_of 9 0 (field 4 trailer)) ≡ pos n → counts_records trailer n ≡ true)
  unfolding counts_records
  counts_is = let count = or_zero (amount_of 9 0 (field 4 trailer)) in (amounts-equal count (pos n), equal-amounts count (pos n))
