-- What Totals, Find and the held entry at a place say of the entries that were copied of a run: the answers are those of the run itself.
-- Assumes nothing.
use mathlib.Core.Path.{◌≡◌, sym, ap, ◌∙◌}
use mathlib.Core.Bool.{cond, ◌&&◌}
use Rattle.std.specs.Prelude.{None}
use mathlib.Core.List.{List}
use Prim.Native.Nat.{ℕ}
use lib.IntN.{ℤ}
use lib.ListN.{length, take}
use lib.Seq.{get_or-take}
use lib.Dec.{ltb}
use borrow.Author.Tests.{ltb-true}
use Rattle.lists.proofs.Selections.{cases}
use Rattle.entries.specs.declared.Entry.{Entry}
use Rattle.entries.specs.Entries.{blank, entry_of, is_held}
use Rattle.runs.specs.InsideWords.{entries_of}
use Rattle.soundness.specs.Sound.{is_sound}
use Rattle.runs.specs.InsideRoom.{read_count}
use Rattle.ledger.specs.Ledger.{sums_of, no_sums, totals_result, is_askable, place_of, place_within, find_result_of, find_result}
use Rattle.ledger.specs.Replies.{totals_reply, find_reply}
use Rattle.ledger.specs.InsideHeld.{HeldResult, held_reply, held_result}
use Rattle.runs.proofs.Sound.{loaded_alike}

module _ (ns : List ℕ) (zs : List ℤ) (ys : List Entry) (used : ℕ) (loaded : entries_of ns zs (read_count (length ys) used) ≡ take (read_count (length ys) used) ys) where
  abbrev es : List Entry
  es = entries_of ns zs (length ys)

  pub totals_loaded : totals_reply (totals_result es used) ≡ totals_reply (totals_result ys used)
  unfolding totals_result
  totals_loaded =
      ap totals_reply
      (loaded_alike ns zs ys used loaded (λ l. record { number = 0; live = sums_of 1 l; held = sums_of 2 l }) (record { number = 105; live = no_sums; held = no_sums }))

  pub find_loaded : (site day : ℕ) → find_reply (find_result es used site day) ≡ find_reply (find_result ys used site day)
  unfolding find_result
  find_loaded site day =
      ap find_reply
      (loaded_alike ns zs ys used loaded (λ l. cond (is_askable site day) (find_result_of 0 (place_within (place_of site day l) (length l))) (find_result_of 106 None)) (find_result_of 105 None))

  -- what is said of the entry at a place, in a sound ledger: only an entry in use is looked at
  module _ (place : ℕ) where
    abbrev said_of : Entry → HeldResult
    said_of e = cond (ltb place used && is_held e) (held_reply 0 e) (held_reply 108 blank)

    in_use : (l : List Entry) → said_of (entry_of l place) ≡ said_of (entry_of (take used l) place)
    in_use l = cases (ltb place used) (λ h. ap said_of (sym (get_or-take used l place blank (ltb-true place used h)))) (λ h. rw h)

    sound_or : (l : List Entry) → held_result l used place ≡ cond (is_sound l used) (said_of (entry_of (take used l) place)) (held_reply 105 blank)
    unfolding held_result
    sound_or l = ap (λ (r : HeldResult). cond (is_sound l used) r (held_reply 105 blank)) (in_use l)

    pub held_loaded : held_result es used place ≡ held_result ys used place
    held_loaded = sound_or es ∙ (loaded_alike ns zs ys used loaded (λ l. said_of (entry_of l place)) (held_reply 105 blank) ∙ sym (sound_or ys))
