-- Laws of a dispute's line.
--     chosen, one_shown    the Record ID stands in just one of two fields
--     start_length, line_start          the start of a line, and the rest of it
--     first_length, last_length, dispute_length_lem    how many bytes they have
-- Assumes nothing.
use mathlib.Core.Path.{◌≡◌, refl, sym, ap}
use mathlib.Core.List.{List, [], ◌∷◌, ◌++◌, append_assoc}
use mathlib.Core.Bool.{Bool, true, false, not}
use Prim.Native.Nat.{ℕ, ◌+◌}
use native.Mathlib.Omega.{arith}
use lib.ListN.{length, drop, length-append}
use Rattle.writing.specs.Decimals.{digits_in, digit_count, plain_digits}
use Rattle.writing.proofs.Numbers.{digits_in_length, plain_length}
use Rattle.written_lines.specs.Lines.{line_of}
use Rattle.written_lines.proofs.Puts.{bytes_of, line_length}
use Rattle.dispute_lines.specs.declared.Dispute.{Dispute}
use Rattle.dispute_lines.specs.InsideHalves.{id_shown, first_fields, last_fields, start_of}
use Rattle.std.specs.Prelude.{Option}
use Rattle.std.specs.Bool.{then_some}
use Rattle.dispute_lines.specs.Line.{shown_id, dispute_line}

-- the ID of which a choice was made
pub chosen : (b : Bool) (n : ℕ) (id : Option ℕ) → id ≡ then_some b n → id_shown id ≡ shown_id b n
unfolding shown_id
chosen true n id e = rw e
chosen false n id e = rw e

one_shown : (b : Bool) (n : ℕ) → length (shown_id (not b) n) + length (shown_id b n) ≡ length (plain_digits n)
unfolding shown_id
one_shown true n = omega arith
one_shown false n = omega arith

pub start_length : (ls : List (List ℕ)) → length (start_of ls) ≡ bytes_of ls
unfolding start_of
start_length [] = refl
start_length (l ∷ ls) = omega (arith, length-append l (44 ∷ start_of ls), start_length ls)

line_from : (ls : List (List ℕ)) (m : List ℕ) (ms : List (List ℕ)) → line_of 44 (ls ++ (m ∷ ms)) ≡ start_of ls ++ line_of 44 (m ∷ ms)
unfolding line_of start_of
line_from [] m ms = refl
line_from (l ∷ []) m ms = sym (append_assoc l (44 ∷ []) (line_of 44 (m ∷ ms)))
line_from (l ∷ k ∷ ls) m ms = rw (line_from (k ∷ ls) m ms) (sym (append_assoc l (44 ∷ start_of (k ∷ ls)) (line_of 44 (m ∷ ms))))

pub last_length : (d : Dispute) → length (line_of 44 (last_fields d)) ≡ 22 + length (shown_id (not d.once) d.id) + length (shown_id d.once d.id)
last_length d =
    omega (
      arith,
      line_length 44 (digits_in 13 d.site) (drop 1 (last_fields d)),
      digits_in_length 13 d.site,
      digits_in_length 4 d.code,
    )

module _ (d : Dispute) (created : List ℕ) where
  pub line_start : dispute_line d created ≡ start_of (first_fields d created) ++ line_of 44 (last_fields d)
  line_start = line_from (first_fields d created) (digits_in 13 d.site) (drop 1 (last_fields d))

  pub first_length : length (start_of (first_fields d created))
      ≡ 20 + length (plain_digits d.transaction) + length created + length (plain_digits d.file) + 2
  first_length =
      omega (arith, start_length (first_fields d created), digits_in_length 9 d.retailer, digits_in_length 4 d.distributor)

  pub dispute_length_lem : length created ≡ 14
      → length (dispute_line d created) ≡ digit_count d.transaction + digit_count d.file + digit_count d.id + 58
  dispute_length_lem h =
      omega (
        arith,
        ap length line_start,
        length-append (start_of (first_fields d created)) (line_of 44 (last_fields d)),
        first_length,
        last_length d,
        plain_length d.transaction,
        plain_length d.file,
        one_shown d.once d.id,
        plain_length d.id,
      )
