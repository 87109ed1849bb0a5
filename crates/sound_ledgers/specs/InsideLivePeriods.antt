-- The live periods of a ledger, and that no two of a site share a day: document 01, "live periods of a site share no day".
-- Assumes nothing.
use Rattle.std.specs.Prelude.{ℕ, ◌<◌, ◌≡◌, Bool, List}
use Rattle.calendar.specs.Periods.{HasDay}
use Rattle.apart.specs.InsideGathered.{day_number}
use Rattle.entries.specs.declared.Entry.{Entry}
use Rattle.entries.specs.Entries.{entry_of, period}
use Rattle.soundness.specs.Meaning.{LivePeriod}
use Rattle.soundness.specs.Sound.{is_live_period}

-- the entry at a place is a live period
abbrev pub live_at : List Entry → ℕ → Bool
live_at es i = is_live_period (entry_of es i)

-- its first and its last day, with its site, as numbers
abbrev pub first_day : List Entry → ℕ → ℕ
first_day es i = day_number (entry_of es i).site (entry_of es i).start

abbrev pub last_day : List Entry → ℕ → ℕ
last_day es i = day_number (entry_of es i).site (entry_of es i).end

abbrev pub LiveApart : List Entry → ℕ → Type 0
LiveApart es used =
    (i j d : ℕ) → i < j → j < used → LivePeriod (entry_of es i) → LivePeriod (entry_of es j) → (entry_of es i).site ≡ (entry_of es j).site
    → HasDay (period (entry_of es i)) d → HasDay (period (entry_of es j)) d → ⊥
