-- What the functions that write an accepted file's entries leave.
-- Assumes nothing.
use Rattle.std.specs.Prelude.{◌≡◌, ◌&&◌, cond, List, ℕ, ltb, length, set, take, drop}
use Rattle.lists.specs.First.{first_where}
use Rattle.entries.specs.declared.Entry.{Entry}
use Rattle.entries.specs.Entries.{entry_of, is_period, in_state}
use Rattle.used_entries.specs.InsideSited.{overlaps_entry}

-- ---- a run of entries
-- the first r places are l, and those past them are as they were
pub record Leaves (run run' : List Entry) (r : ℕ) (l : List Entry) : Type 0 where
  pub entries : take r run' ≡ l
  pub past : drop r run' ≡ drop r run

-- ---- one entry of the source
-- a cancel's entry at a place, and the entry that it names in state 3
abbrev pub with_cancel : List Entry → ℕ → ℕ → Entry → List Entry
with_cancel run used place e = set (set run place (in_state (entry_of run place) 3)) used e

-- an original's state after the entries l
unfoldable pub state_after : List Entry → Entry → ℕ
state_after l e = cond (is_period e && ltb (first_where (overlaps_entry e) l) (length l)) 2 1

abbrev pub original_after : List Entry → Entry → Entry
original_after l e = in_state e (state_after l e)

abbrev pub with_original : List Entry → ℕ → Entry → List Entry
with_original run used e = set run used (original_after (take used run) e)
