-- What it is for a ledger to be sound, in terms of entries, places and days: document 01, "The ledger", "A ledger is sound if ..".
-- `is_sound` says true of a run and a used count exactly where they are `Sound` (proofs/Meaning, `sound_means`).
-- Assumes nothing.
use Rattle.std.specs.Prelude.{ℕ, ◌^◌, ◌≤◌, ◌<◌, ◌≡◌, ◌⊎◌, ◌↔◌, List, pos, neg_ℤ, nat_abs, length}
use Rattle.calendar.specs.Periods.{HasDay}
use Rattle.entries.specs.declared.Entry.{Entry}
use Rattle.entries.specs.Entries.{entry_of, period}

-- what is asked of each entry by itself
pub record EntryFits (e : Entry) : Type 0 where
  -- "senders have at most 4 digits, sites 13, IDs and amounts 15"
  pub sender : e.sender < 10 ^ 4
  pub site : e.site < 10 ^ 13
  pub id : e.id < 10 ^ 15
  pub cancels : e.cancels < 10 ^ 15
  pub charge : nat_abs e.charge < 10 ^ 15
  pub usage : nat_abs e.usage < 10 ^ 15
  -- "commodities, kinds, states and days are in range, state 0 being for file entries and no others"
  pub commodity : (e.commodity ≡ 1) ⊎ (e.commodity ≡ 2)
  pub kind : (e.kind ≡ 1) ⊎ (e.kind ≡ 2) ⊎ (e.kind ≡ 3)
  pub state : e.state ≤ 4
  pub start : e.start ≤ 36524
  pub end : e.end ≤ 36524
  pub file_state : (e.state ≡ 0) ↔ (e.kind ≡ 1)
  -- "no start day is after its end day"
  pub in_order : e.start ≤ e.end
  -- "what a kind lacks is 0, as is the cancelled ID outside state 4"
  pub only_periods : (e.kind ≡ 2 → ⊥) → (e.start ≡ 0) × (e.end ≡ 0) × (e.usage ≡ pos 0)
  pub file_site : e.kind ≡ 1 → e.site ≡ 0
  pub only_cancels : (e.state ≡ 4 → ⊥) → e.cancels ≡ 0

abbrev pub LivePeriod : Entry → Type 0
LivePeriod e = (e.state ≡ 1) × (e.kind ≡ 2)

-- "the same sender, commodity, kind, site and (for a period) days"; the days of any other kind are 0
pub record Alike (a b : Entry) : Type 0 where
  pub sender : a.sender ≡ b.sender
  pub commodity : a.commodity ≡ b.commodity
  pub kind : a.kind ≡ b.kind
  pub site : a.site ≡ b.site
  pub start : a.start ≡ b.start
  pub end : a.end ≡ b.end

-- the cancel c names e, as test 39 asks
pub record Names (c e : Entry) : Type 0 where
  pub id : e.id ≡ c.cancels
  pub alike : Alike c e

-- its charge and usage are the opposites of e's, as test 40 asks
pub record Opposite (c e : Entry) : Type 0 where
  pub charge : e.charge ≡ neg_ℤ c.charge
  pub usage : e.usage ≡ neg_ℤ c.usage

-- the cancel at i has cancelled the entry at j, before it, and no other cancel names that entry
pub record Paired (run : List Entry) (used i j : ℕ) : Type 0 where
  pub earlier : j < i
  pub cancel : (entry_of run i).state ≡ 4
  pub cancelled : (entry_of run j).state ≡ 3
  pub names : Names (entry_of run i) (entry_of run j)
  pub opposite : Opposite (entry_of run i) (entry_of run j)
  pub only : (k : ℕ) → k < used → (entry_of run k).state ≡ 4 → Names (entry_of run k) (entry_of run j) → k ≡ i

-- a run, of which the first entries, as many as are used, make the ledger
pub record Sound (run : List Entry) (used : ℕ) : Type 0 where
  -- "the run has at most 8,192 entries and the used count doesn't exceed it"
  pub few : length run ≤ 8192
  pub room : used ≤ length run
  pub fit : (i : ℕ) → i < used → EntryFits (entry_of run i)
  -- "no sender and Record ID pair repeats"
  pub keys : (i j : ℕ) → i < j → j < used → (entry_of run i).sender ≡ (entry_of run j).sender → (entry_of run i).id ≡ (entry_of run j).id → ⊥
  -- "live periods of a site share no day"
  pub apart : (i j d : ℕ) → i < j → j < used → LivePeriod (entry_of run i) → LivePeriod (entry_of run j) → (entry_of run i).site ≡ (entry_of run j).site
      → HasDay (period (entry_of run i)) d → HasDay (period (entry_of run j)) d → ⊥
  -- "cancels and cancelled entries pair off as 39 and 40 require, the cancelled one earlier"
  pub cancel_paired : (i : ℕ) → i < used → (entry_of run i).state ≡ 4 → (j : ℕ) × Paired run used i j
  pub cancelled_paired : (j : ℕ) → j < used → (entry_of run j).state ≡ 3 → (i : ℕ) × (i < used) × Paired run used i j
