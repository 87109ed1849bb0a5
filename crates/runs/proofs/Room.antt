-- Room for entries in the words.
--     room_fewer    room for more is room for fewer
--     room_zeros    the room of columns of zeros
--     has_room      what columns have room for
-- Assumes nothing.
use mathlib.Core.Path.{◌≡◌}
use mathlib.Core.List.{List}
use Prim.Native.Nat.{ℕ, ◌≤◌}
use native.Mathlib.Omega.{arith}
use lib.IntN.{ℤ, pos}
use lib.ListN.{length, replicate, length-replicate}
use Rattle.runs.specs.InsideWords.{words_for, amounts_for, RoomFor}

pub room_fewer : {m n : ℕ} {words : List ℕ} {amounts : List ℤ} → m ≤ n → RoomFor n words amounts → RoomFor m words amounts
room_fewer h room = record { in_words = omega arith; in_amounts = omega arith }

pub room_zeros : (n : ℕ) → RoomFor n (replicate (words_for n) 0) (replicate (amounts_for n) (pos 0))
room_zeros n = record { in_words = omega (arith, length-replicate {A = ℕ} (words_for n) 0); in_amounts = omega (arith, length-replicate {A = ℤ} (amounts_for n) (pos 0)) }

-- columns as long as so many entries take have room for them
pub has_room : (size : ℕ) (ns : List ℕ) (zs : List ℤ) (k : ℕ) → length ns ≡ words_for size → length zs ≡ amounts_for size → k ≤ size → RoomFor k ns zs
has_room size ns zs k e₁ e₂ h = record { in_words = omega (arith, e₁, h); in_amounts = omega (arith, e₂, h) }
