-- `written_lines::put_plain` meets its contract: the digits are written, and the byte that ends them is stored after them.
-- Assumes nothing.
use native.Mathlib.Omega.{arith}
use Rattle.writing.specs.Decimals.{plain_digits}
use Rattle.written_lines.proofs.Puts.{put_of}
use Rattle.written_lines.proofs.put_plain.Goals as goal

pub returns : goal.returns
returns c = put_of c.args.out.now c.write_plain-to.new.out (plain_digits c.args.n) c.args.at _ c.args.end (omega arith) c.write_plain-to.ensures.0 c.write_plain-to.ensures.1
