-- Document 01, "The file": "Periods hold both their start day and their end day."
-- Assumes nothing.
use Rattle.std.specs.Prelude.{ℕ, ◌≤◌, min, max, Bool, leb}
use Rattle.calendar.specs.declared.Period.{Period}

-- the period has the day, both ends in
abbrev pub HasDay : Period → ℕ → Type 0
HasDay p d = (p.start ≤ d) × (d ≤ p.end)

-- two periods share a day: the later start is not after the earlier end (proofs/Periods, `shares_day_lem`: some day is in both)
unfoldable pub shares_day : Period → Period → Bool
shares_day p q = leb (max p.start q.start) (min p.end q.end)
