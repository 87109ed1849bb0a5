-- The first day of each month, as a constant of the code holds them.
-- Assumes nothing.
use Rattle.std.specs.Prelude.{ℕ, zero, suc, ◌+◌, List, [], ◌∷◌}
use Rattle.calendar.specs.Calendar.{month_days}

-- n entries of the table from month i on, which starts on day `day`
unfoldable pub days_from : ℕ → ℕ → ℕ → List ℕ
days_from zero i day = []
days_from (suc n) i day = day ∷ days_from n (suc i) (day + month_days i)

unfoldable pub first_days : List ℕ
first_days = days_from 1200 0 0
