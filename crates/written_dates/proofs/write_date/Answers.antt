-- `written_dates::write_date` meets its contract: it writes the eight digits of the number that `date_number` makes.
-- Assumes nothing.
use mathlib.Core.Path.{◌≡◌, ◌∙◌, ap}
use mathlib.Core.List.{List}
use Prim.Native.Nat.{ℕ}
use Rattle.writing.specs.Decimals.{digits_in}
use Rattle.writing.specs.InsideWriting.{written_at}
use Rattle.written_dates.specs.InsideDates.{date_number_of, date_digits}
use Rattle.written_dates.proofs.write_date.Goals as goal

written : (out : List ℕ) (at day n : ℕ) → n ≡ date_number_of day → written_at out at (digits_in 8 n) ≡ written_at out at (date_digits day)
unfolding date_digits
written out at day n e = ap (λ (k : ℕ). written_at out at (digits_in 8 k)) e

pub returns : goal.returns
returns c =
    c.write_digits.ensures ∙ written c.args.out.now c.args.at c.args.day _ c.date_number.ensures
