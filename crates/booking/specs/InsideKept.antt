-- The used entries of a sound ledger, in the terms in which booking is proved to keep them so (proofs/Kept): the same as soundness' own
-- `Sound` says of them (proofs/KeptMeaning).
-- Assumes nothing.
use Rattle.std.specs.Prelude.{ℕ, ◌≤◌, ◌<◌, ◌≡◌, List, neg_ℤ, length}
use Rattle.entries.specs.declared.Entry.{Entry}
use Rattle.entries.specs.Entries.{entry_of}
use Rattle.soundness.specs.Meaning.{EntryFits}

-- a live period of the site that has the day
pub record LiveOn (e : Entry) (site day : ℕ) : Type 0 where
  pub live : e.state ≡ 1
  pub period : e.kind ≡ 2
  pub of_site : e.site ≡ site
  pub from : e.start ≤ day
  pub to : day ≤ e.end

-- a cancel, and a cancelled entry that it names, as tests 39 and 40 require
pub record Paired (c e : Entry) : Type 0 where
  pub cancel : c.state ≡ 4
  pub cancelled : e.state ≡ 3
  pub reference : c.cancels ≡ e.id
  pub sender : c.sender ≡ e.sender
  pub commodity : c.commodity ≡ e.commodity
  pub kind : c.kind ≡ e.kind
  pub site : c.site ≡ e.site
  pub start : c.start ≡ e.start
  pub end : c.end ≡ e.end
  pub charge : c.charge ≡ neg_ℤ e.charge
  pub usage : c.usage ≡ neg_ℤ e.usage

-- the used entries
pub record EntriesSound (es : List Entry) : Type 0 where
  pub fits : (i : ℕ) → i < length es → EntryFits (entry_of es i)
  -- "no sender and Record ID pair repeats;"
  pub keys : (i j : ℕ) → i < j → j < length es → (entry_of es i).sender ≡ (entry_of es j).sender → (entry_of es i).id ≡ (entry_of es j).id → ⊥
  -- "live periods of a site share no day;"
  pub apart : (i j site day : ℕ) → i < j → j < length es → LiveOn (entry_of es i) site day → LiveOn (entry_of es j) site day → ⊥
  -- "cancels and cancelled entries pair off as 39 and 40 require, the cancelled one earlier."
  pub cancel_paired : (i : ℕ) → i < length es → (entry_of es i).state ≡ 4 → (j : ℕ) × (j < i) × Paired (entry_of es i) (entry_of es j)
  pub cancelled_paired : (j : ℕ) → j < length es → (entry_of es j).state ≡ 3 → (i : ℕ) × (j < i) × (i < length es) × Paired (entry_of es i) (entry_of es j)
  -- a cancelled entry has one cancel (and a cancel has one cancelled entry, by `keys`)
  pub one_cancel : (i k j : ℕ) → i < length es → k < length es → j < length es → Paired (entry_of es i) (entry_of es j) → Paired (entry_of es k) (entry_of es j) → i ≡ k
