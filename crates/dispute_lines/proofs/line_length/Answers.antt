-- `dispute_lines::line_length` meets its contract.
-- Assumes nothing.
use native.Mathlib.Omega.{arith}
use Rattle.writing.proofs.Numbers.{count_few}
use Rattle.dispute_lines.proofs.Lines.{dispute_length_lem}
use Rattle.dispute_lines.proofs.line_length.Goals as goal

pub overflow_add-result : goal.overflow_add-result
overflow_add-result c =
    omega (arith, count_few c.args.d.transaction, count_few c.args.d.file, c.digit_count.ensures, c.digit_count-2.ensures)

pub overflow_add-result-2 : goal.overflow_add-result-2
overflow_add-result-2 c =
    omega (arith, count_few c.args.d.transaction, count_few c.args.d.file, count_few c.args.d.id, c.digit_count.ensures, c.digit_count-2.ensures, c.digit_count-3.ensures)

pub overflow_add-result-3 : goal.overflow_add-result-3
overflow_add-result-3 c =
    omega (arith, count_few c.args.d.transaction, count_few c.args.d.file, count_few c.args.d.id, c.digit_count.ensures, c.digit_count-2.ensures, c.digit_count-3.ensures)

pub returns : goal.returns
returns c created h =
    omega (arith, dispute_length_lem c.args.d created h, c.digit_count.ensures, c.digit_count-2.ensures, c.digit_count-3.ensures)
