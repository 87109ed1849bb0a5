-- The used entries of a ledger in chains by their keys, a key being made of the sender and the Record ID.
-- Assumes nothing.
use Rattle.std.specs.Prelude.{List, ℕ, length}
use Rattle.entries.specs.declared.Entry.{Entry}
use Rattle.sound_ledgers.specs.InsideKeys.{key_at}
use Rattle.buckets.specs.InsideChains.{Chained}

abbrev pub ByKey : List Entry → List ℕ → List ℕ → Type 0
ByKey es heads links = Chained (key_at es) (length es) heads links
