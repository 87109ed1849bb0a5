-- `desk_answer::write_answer` meets its contract.
-- Assumes nothing.
use mathlib.Core.Path.{◌∙◌, ap}
use lib.ListN.{length}
use Rattle.booking.specs.Booking.{Result, result_of}
use Rattle.writing.specs.InsideWriting.{written_at}
use Rattle.desk_answer.specs.Line.{line_of}
use Rattle.desk_answer.proofs.Lines.{line_short}
use native.Mathlib.Omega.{arith}
use Rattle.desk_answer.proofs.write_answer.Goals as goal

pub returns : goal.returns
returns c = record { out_after = c.write_line.ensures.0 ∙ ap (λ (r : Result). written_at c.args.out.now 0 (line_of r)) c.answer.ensures; value = (c.write_line.ensures.1 ∙ ap (λ (r : Result). length (line_of r)) c.answer.ensures, omega (arith, c.write_line.ensures.1, line_short (result_of c.answer.result))) }
