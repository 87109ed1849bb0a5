-- The used entries of a ledger in chains by their sites, and what is looked for along the chain of a site.
-- Assumes nothing.
use Rattle.std.specs.Prelude.{Bool, ◌&&◌, List, ℕ, eqb, length}
use Rattle.calendar.specs.Periods.{shares_day}
use Rattle.entries.specs.declared.Entry.{Entry}
use Rattle.entries.specs.Entries.{entry_of, period}
use Rattle.soundness.specs.Sound.{is_live_period}
use Rattle.buckets.specs.InsideChains.{Chained}

-- the site of the entry at a place
abbrev pub site_in : List Entry → ℕ → ℕ
site_in es p = (entry_of es p).site

abbrev pub BySite : List Entry → List ℕ → List ℕ → Type 0
BySite es heads links = Chained (site_in es) (length es) heads links

-- e is a live period of a's site that shares a day with it
unfoldable pub overlaps_entry : Entry → Entry → Bool
overlaps_entry a e = is_live_period e && eqb e.site a.site && shares_day (period e) (period a)
