-- The keys and the states of a ledger's entries, in columns.
-- Assumes nothing.
use Rattle.std.specs.Prelude.{ℕ, ◌+◌, ◌*◌, ◌%◌, ◌<◌, ◌≡◌, List}
use Rattle.lists.specs.InsideColumn.{Copied}
use Rattle.entries.specs.declared.Entry.{Entry}
use Rattle.entries.specs.Entries.{entry_of}
use Rattle.soundness.specs.Meaning.{EntryFits}

-- ---- "no sender and Record ID pair repeats"
-- one number for a sender and a Record ID: a sender of 4 digits has 14 bits, and an ID of 15 digits 50
unfoldable pub key_of : ℕ → ℕ → ℕ
key_of sender id = sender % 16384 * 1125899906842624 + id % 1125899906842624

abbrev pub key_at : List Entry → ℕ → ℕ
key_at es i = key_of (entry_of es i).sender (entry_of es i).id

-- each of the first m entries fits by itself, and its key is in the column
pub record Keyed (es : List Entry) (m : ℕ) (keys : List ℕ) : Type 0 where
  pub fit : (i : ℕ) → i < m → EntryFits (entry_of es i)
  pub copied : Copied (key_at es) m keys

abbrev pub KeysDiffer : List Entry → ℕ → Type 0
KeysDiffer es used = (i j : ℕ) → i < j → j < used → (entry_of es i).sender ≡ (entry_of es j).sender → (entry_of es i).id ≡ (entry_of es j).id → ⊥

abbrev pub state_at : List Entry → ℕ → ℕ
state_at es i = (entry_of es i).state
