-- What the marks of a ledger's cancels show.
-- Assumes nothing.
use Rattle.std.specs.Prelude.{ℕ, ◌+◌, ◌<◌, ◌≡◌, List, length, get_or}
use Rattle.entries.specs.declared.Entry.{Entry}
use Rattle.entries.specs.Entries.{entry_of}
use Rattle.soundness.specs.Meaning.{Names, Opposite, Paired}
use Rattle.sound_ledgers.specs.InsideKeys.{Keyed, KeysDiffer}

-- the keys of the entries, no two of which have the same sender and Record ID
pub record KeysOf (es : List Entry) (keys : List ℕ) : Type 0 where
  pub one_each : length keys ≡ length es
  pub keyed : Keyed es (length es) keys
  pub differ : KeysDiffer es (length es)

-- ---- "cancels and cancelled entries pair off as 39 and 40 require, the cancelled one earlier"
-- the cancel at i cancels the entry at j, before it
pub record Cancels (es : List Entry) (i j : ℕ) : Type 0 where
  pub earlier : j < i
  pub cancel : (entry_of es i).state ≡ 4
  pub cancelled : (entry_of es j).state ≡ 3
  pub names : Names (entry_of es i) (entry_of es j)
  pub opposite : Opposite (entry_of es i) (entry_of es j)

-- each cancel of the first m entries has left its mark, its place and one, at the entry that it cancels; and there is no other mark
pub record Marked (es : List Entry) (m : ℕ) (marks : List ℕ) : Type 0 where
  pub each : (i : ℕ) → i < m → (entry_of es i).state ≡ 4 → (j : ℕ) × Cancels es i j × (get_or marks j 0 ≡ i + 1)
  pub only : (j : ℕ) → (get_or marks j 0 ≡ 0 → ⊥) → (i : ℕ) × (i < m) × Cancels es i j

-- of the first m entries, whose states are given, each cancelled one has a mark
abbrev pub WithMarks : (ℕ → ℕ) → ℕ → List ℕ → Type 0
WithMarks state m marks = (j : ℕ) → j < m → state j ≡ 3 → get_or marks j 0 ≡ 0 → ⊥

pub record PairedOff (es : List Entry) (used : ℕ) : Type 0 where
  pub cancel_paired : (i : ℕ) → i < used → (entry_of es i).state ≡ 4 → (j : ℕ) × Paired es used i j
  pub cancelled_paired : (j : ℕ) → j < used → (entry_of es j).state ≡ 3 → (i : ℕ) × (i < used) × Paired es used i j
