-- A TH or OC as an entry.
--     source_cancel    it says whether it is a cancel
--     source_as        a cancel is in state 4, and an original in state 1
-- Assumes nothing.
use mathlib.Core.Path.{◌≡◌, refl, ap, ◌∙◌}
use mathlib.Core.Bool.{Bool, true, false, cond}
use lib.Dec.{eqb}
use Rattle.bill_files.specs.Accepted.{Bill}
use Rattle.entries.specs.declared.Entry.{Entry}
use Rattle.booking.specs.Booking.{entry}
use Rattle.file_bills.specs.InsideBills.{source_entry, is_cancel}

pub source_cancel : (b : Bill) (e : Entry) → e ≡ source_entry b → is_cancel e ≡ b.cancel
source_cancel b e same = ap is_cancel same ∙ go b.cancel
  where
    go : (t : Bool) → eqb (cond t 4 1) 4 ≡ t
    go true = refl
    go false = refl

pub source_as : (b : Bill) (e : Entry) (t : Bool) → e ≡ source_entry b → b.cancel ≡ t → e ≡ entry b (cond t 4 1)
source_as b e t same c = same ∙ ap (λ (x : Bool). entry b (cond x 4 1)) c
