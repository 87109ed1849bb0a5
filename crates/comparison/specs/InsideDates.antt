-- What the comparison tests get of a date that is written: a number, and the bytes afterwards.
-- Assumes nothing.
use Rattle.std.specs.Prelude.{ℕ, List, cond, leb, ltb, length}
use Rattle.writing.specs.InsideWriting.{written_at}
use Rattle.written_dates.specs.InsideDates.{date_digits}

-- 106 past the last day, 109 where there is no room, and else 0
unfoldable pub date_number : ℕ → List ℕ → ℕ
date_number day out = cond (leb day 36524) (cond (ltb (length out) 8) 109 0) 106

unfoldable pub date_after : ℕ → List ℕ → List ℕ
date_after day out = cond (leb day 36524) (cond (ltb (length out) 8) out (written_at out 0 (date_digits day))) out
