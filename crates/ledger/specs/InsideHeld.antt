-- The held entry at a place of a ledger, as a dispute is written from it.
-- Assumes nothing.
use Rattle.std.specs.Prelude.{ℕ, cond, ◌&&◌, List, ltb, Result, Ok, Err}
use Rattle.entries.specs.declared.Entry.{Entry}
use Rattle.entries.specs.Entries.{blank, entry_of, is_held}
use Rattle.soundness.specs.Sound.{is_sound}
use Rattle.ledger.specs.declared.Refusal.{Refusal}
use Rattle.ledger.specs.InsideResults.{number_of}

-- the number of the refusal, and the entry where it is 0
pub record HeldResult : Type 0 where
  pub number : ℕ
  pub entry : Entry

abbrev pub held_reply : ℕ → Entry → HeldResult
held_reply number e = record { number = number; entry = e }

-- 105, 108, or the entry at a place among those in use that is held
unfoldable pub held_result : List Entry → ℕ → ℕ → HeldResult
held_result run used place =
    cond (is_sound run used) (cond (ltb place used && is_held (entry_of run place)) (held_reply 0 (entry_of run place)) (held_reply 108 blank)) (held_reply 105 blank)

-- of each case of the answer
abbrev pub held_result_of : Result Entry Refusal → HeldResult
held_result_of (Ok e) = held_reply 0 e
held_result_of (Err e) = held_reply (number_of e) blank
