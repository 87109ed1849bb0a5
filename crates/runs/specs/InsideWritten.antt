-- Which places of the run Book looked at when it was done: it wrote those that had another entry.
-- Assumes nothing.
use Rattle.std.specs.Prelude.{◌&&◌, cond, List, ℕ, ◌+◌, eqb, ltb, leb, length, get_or}
use Rattle.entries.specs.declared.Entry.{Entry}
use Rattle.entries.specs.Entries.{blank}
use Rattle.lent_ledger.specs.declared.BookReply.{BookReply}

-- up to which place: of a refusal none
abbrev pub written_to : BookReply → ℕ → ℕ
written_to reply used = cond (eqb reply.number 0) (used + reply.added) 0

-- from which place on, of the entries up to there: those added, and all where the first record added is a cancel
abbrev pub written_from : List Entry → ℕ → ℕ
written_from es used = cond (leb (length es) used) 0 (cond (ltb (used + 1) (length es) && eqb (get_or es (used + 1) blank).state 4) 0 used)
