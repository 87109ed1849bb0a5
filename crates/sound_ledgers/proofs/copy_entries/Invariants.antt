-- `sound_ledgers::copy_entries` meets its contract. The loop's invariant: the entries passed fit, their keys and states are in the columns, and their live periods are gathered.
-- Assumes nothing.
use Rattle.lists.specs.InsideColumn.{Copied}
use Rattle.apart.specs.InsideGathered.{Gathering}
use Rattle.sound_ledgers.specs.InsideLivePeriods.{live_at, first_day, last_day}
use Rattle.sound_ledgers.specs.InsideKeys.{Keyed, state_at}
use Rattle.sound_ledgers.proofs.copy_entries.Given as goal

abbrev pub invariant-loop-i : goal.invariant-loop-i
invariant-loop-i l =
    let es = l.entries in Keyed es l.i l.keys × Copied (state_at es) l.i l.states × Gathering (live_at es) (first_day es) (last_day es) l.firsts l.lasts l.i l.live
