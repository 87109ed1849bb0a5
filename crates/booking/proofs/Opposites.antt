-- Test 40's opposite amounts: a sum of zero, said of two records.
-- Assumes nothing.
use mathlib.Core.Path.{◌≡◌, refl, sym, ap, ◌∙◌}
use mathlib.Core.Bool.{Bool, true}
use Prim.Native.Nat.{ℕ}
use lib.IntN.{ℤ, neg_ℤ, neg_ℤ-neg_ℤ}
use Rattle.bill_files.specs.Accepted.{Bill}
use Rattle.soundness.specs.Sound.{opposite}
use Rattle.soundness.proofs.Meaning.{opposite_means}
use Rattle.booking.specs.Booking.{entry}
use Rattle.booking.specs.Guarantee.{Opposite}

pub opposite_of_lem : (a b : ℤ) → b ≡ neg_ℤ a → a ≡ neg_ℤ b
opposite_of_lem a b e = sym (neg_ℤ-neg_ℤ a) ∙ ap neg_ℤ (sym e)

-- the record c has the opposite amounts of the record b: in whatever state their entries are
abbrev pub opposes : Bill → Bill → Bool
opposes c b = opposite (entry c 4) (entry b 1)

pub opposes_entry : (c b : Bill) (n : ℕ) → opposite (entry c 4) (entry b n) ≡ opposes c b
unfolding opposite
opposes_entry c b n = refl

pub opposite_amounts : (c b : Bill) → opposes c b ≡ true → Opposite c b
opposite_amounts c b e =
    let opposites = (opposite_means (entry c 4) (entry b 1)).0 e in
    (opposite_of_lem c.charge b.charge opposites.charge, opposite_of_lem c.usage b.usage opposites.usage)
