-- `desk_answer::write_accepted` meets its contract: the line is written piece by piece, and no number has more than 20 digits.
-- Assumes nothing.
use native.Mathlib.Omega.{arith}
use mathlib.Core.List.{[], ◌∷◌, ◌++◌}
use mathlib.Core.Path.{refl, sym, ◌∙◌}
use Rattle.lists.specs.Written.{written}
use Rattle.writing.specs.Decimals.{plain_digits}
use Rattle.writing.proofs.Numbers.{plain_short}
use Rattle.writing.proofs.Places.{piece}
use Rattle.desk_answer.specs.Line.{parted, accepted_line}
use Rattle.desk_answer.proofs.Lines.{number_piece, accepted_length}
use Rattle.desk_answer.proofs.write_accepted.Goals as goal

pub write_number-to-requires : goal.write_number-to-requires
write_number-to-requires c = omega (arith, plain_short c.args.added)

pub write_number-requires : goal.write_number-requires
write_number-requires c =
    omega (arith, plain_short c.args.added, plain_short c.args.held, c.write_number-to.ensures.1)

pub returns : goal.returns
unfolding accepted_line parted
returns c =
    let rest = plain_digits c.args.held ++ (10 ∷ []) in (
      sym
          (piece c.args.out.now 0 c.write_bytes.new.out (written "accepted ") (plain_digits c.args.added ++ (32 ∷ rest)) 9 (omega arith) c.write_bytes.ensures refl
          ∙ number_piece c.write_bytes.new.out c.write_number-to.new.out 9 c.args.added 32 c.write_number-to.result rest (omega arith) c.write_number-to.ensures.0 c.write_number-to.ensures.1
          ∙ sym c.write_number.ensures.0),
      omega (arith, accepted_length c.args.added c.args.held, c.write_number.ensures.1, c.write_number-to.ensures.1),
    )
