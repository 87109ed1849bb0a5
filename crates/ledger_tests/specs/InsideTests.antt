-- What the tests that read the ledger rest on and leave.
-- Assumes nothing.
use Rattle.std.specs.Prelude.{◌≡◌, Bool, not, ◌&&◌, ◌||◌, cond, List, ℕ, ◌<◌, eqb, ltb, length, get_or, set}
use Rattle.entries.specs.declared.Entry.{Entry}
use Rattle.entries.specs.Entries.{entry_of, in_state}
use Rattle.file_bills.specs.InsideBills.{is_cancel}

-- ---- looking for it
-- the entries at places that are marked are cancelled, the others are those of l
pub record Marked (l now : List Entry) (marks : List ℕ) : Type 0 where
  pub long : length now ≡ length l
  pub each : (p : ℕ) → p < length l → entry_of now p ≡ cond (eqb (get_or marks p 0) 0) (entry_of l p) (in_state (entry_of l p) 3)

-- a cancel that names the entry at a place, which is below n
abbrev pub names : Entry → ℕ → ℕ → Bool
names c place n = is_cancel c && ltb place n

-- what is answered of the TH or OC c at k, and what is left of the marks and the column: where it is a cancel and names an entry, that entry is marked and
-- its place is noted. `place` is that of the first entry that it names and that isn't marked, or n.
pub record Tried (c : Entry) (place n k : ℕ) (marks named marks' named' : List ℕ) (r : Bool) : Type 0 where
  pub answers : r ≡ (not (is_cancel c) || ltb place n)
  pub marks_left : marks' ≡ cond (names c place n) (set marks place 1) marks
  pub named_left : named' ≡ cond (names c place n) (set named k place) named
