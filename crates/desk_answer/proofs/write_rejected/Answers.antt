-- `desk_answer::write_rejected` meets its contract: the line is written piece by piece, and no number has more than 20 digits.
-- Assumes nothing.
use native.Mathlib.Omega.{arith}
use mathlib.Core.Path.{refl, sym, ◌∙◌}
use mathlib.Core.List.{[], ◌∷◌, ◌++◌}
use Rattle.lists.specs.Written.{written}
use Rattle.writing.specs.Decimals.{plain_digits}
use Rattle.writing.proofs.Places.{piece}
use Rattle.writing.proofs.Numbers.{plain_short}
use Rattle.desk_answer.specs.Line.{parted, rejected_line}
use Rattle.desk_answer.proofs.Lines.{number_piece, rejected_length}
use Rattle.desk_answer.proofs.write_rejected.Goals as goal

pub write_number-past_number-requires : goal.write_number-past_number-requires
write_number-past_number-requires c = omega (arith, plain_short c.args.number)

pub write_number-past_code-requires : goal.write_number-past_code-requires
write_number-past_code-requires c =
    omega (arith, plain_short c.args.number, plain_short c.args.code, c.write_number-past_number.ensures.1)

pub write_number-requires : goal.write_number-requires
write_number-requires c =
    omega (arith, plain_short c.args.number, plain_short c.args.code, plain_short c.args.line, c.write_number-past_code.ensures.1, c.write_number-past_number.ensures.1)

pub returns : goal.returns
unfolding parted rejected_line
returns c =
    let past_code = plain_digits c.args.line ++ (10 ∷ []) in
    let past_number = plain_digits c.args.code ++ (32 ∷ past_code) in (
      sym
          (piece c.args.out.now 0 c.write_bytes.new.out (written "rejected ") (plain_digits c.args.number ++ (32 ∷ past_number)) 9 (omega arith) c.write_bytes.ensures refl
          ∙ number_piece c.write_bytes.new.out c.write_number-past_number.new.out 9 c.args.number 32 c.write_number-past_number.result past_number (omega arith) c.write_number-past_number.ensures.0 c.write_number-past_number.ensures.1
          ∙ number_piece c.write_number-past_number.new.out c.write_number-past_code.new.out c.write_number-past_number.result c.args.code 32 c.write_number-past_code.result past_code (omega (arith, plain_short c.args.number, c.write_number-past_number.ensures.1)) c.write_number-past_code.ensures.0 c.write_number-past_code.ensures.1
          ∙ sym c.write_number.ensures.0),
      omega (arith, rejected_length c.args.number c.args.code c.args.line, c.write_number.ensures.1, c.write_number-past_code.ensures.1, c.write_number-past_number.ensures.1),
    )
