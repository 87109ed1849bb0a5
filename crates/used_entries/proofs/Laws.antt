-- What is looked for among entries by their keys.
--     named_none     a cancel without a Reference ID names no entry
-- Assumes nothing.
use mathlib.Core.Path.{◌≡◌, refl}
use mathlib.Core.Bool.{Bool, true, false, ◌&&◌}
use mathlib.Core.List.{List}
use Prim.Native.Nat.{ℕ}
use lib.Dec.{eqb}
use lib.ListN.{length, get_or}
use Rattle.lists.proofs.Below.{none_is_end}
use Rattle.entries.specs.declared.Entry.{Entry}
use Rattle.entries.specs.Entries.{entry_of}
use Rattle.soundness.specs.Sound.{same_subject}
use Rattle.booking.specs.Booking.{is_live_or_held}
use Rattle.used_entries.specs.InsideSearches.{names_as, named_first}

-- ---- a cancel without a Reference ID
pub named_none : (es : List Entry) (marks : List ℕ) (c : Entry) → named_first es marks 0 c ≡ length es
unfolding named_first names_as
named_none es marks c = none_is_end _ (length es) (λ p h. never (eqb (get_or marks p 0) 0) (is_live_or_held (entry_of es p)) (same_subject c (entry_of es p)))
  where
    never : (a b s : Bool) → (a && (b && false && s)) ≡ false
    never true true s = refl
    never true false s = refl
    never false b s = refl
