-- What was copied back into a lent run of entries.
-- Assumes nothing.
use Rattle.std.specs.Prelude.{ℕ, List, ◌++◌, take, drop}
use Rattle.entries.specs.declared.Entry.{Entry}

-- a run with the entries es in the places before `to`, but for those before `from`
abbrev pub placed : List Entry → List Entry → ℕ → ℕ → List Entry
placed run es from to = take from run ++ (drop from es ++ drop to run)
