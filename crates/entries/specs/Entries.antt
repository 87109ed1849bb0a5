-- The ledger's entries. Document 01, "The ledger": "An entry has sender, commodity (1 EL, 2 NG), kind (1 file, 2 period, 3 one-time charge),
-- Record ID, site, start and end day, charge, usage, state (1 live, 2 held, 3 cancelled, 4 cancel) and the Record ID it cancels."
-- Assumes nothing.
use Rattle.std.specs.Prelude.{ℕ, Bool, List, eqb, pos, get_or}
use Rattle.calendar.specs.declared.Period.{Period}
use Rattle.entries.specs.declared.Entry.{Entry}

-- the entry of zeros: what `get_or` gives past the end
abbrev pub blank : Entry
blank =
    record {
      sender = 0;
      commodity = 0;
      kind = 0;
      id = 0;
      site = 0;
      start = 0;
      end = 0;
      charge = pos 0;
      usage = pos 0;
      state = 0;
      cancels = 0;
    }

-- the entry at a place of a ledger
abbrev pub entry_of : List Entry → ℕ → Entry
entry_of es i = get_or es i blank

-- ---- what an entry is
abbrev pub is_live : Entry → Bool
is_live e = eqb e.state 1

abbrev pub is_held : Entry → Bool
is_held e = eqb e.state 2

abbrev pub is_period : Entry → Bool
is_period e = eqb e.kind 2

-- its days, from the start day to the end day
abbrev pub period : Entry → Period
period e = record { start = e.start; end = e.end }

-- ---- "A cancel turns the record that it names into state 3"
abbrev pub in_state : Entry → ℕ → Entry
in_state e s =
    record {
      sender = e.sender;
      commodity = e.commodity;
      kind = e.kind;
      id = e.id;
      site = e.site;
      start = e.start;
      end = e.end;
      charge = e.charge;
      usage = e.usage;
      state = s;
      cancels = e.cancels;
    }
