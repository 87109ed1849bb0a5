-- `written_lines::put_digits` meets its contract: the digits are written, and the byte that ends them is stored after them.
-- Assumes nothing.
use native.Mathlib.Omega.{arith}
use Prim.Native.Nat.{◌+◌}
use Rattle.writing.proofs.Numbers.{digits_in_length}
use Rattle.writing.specs.Decimals.{digits_in}
use Rattle.written_lines.proofs.Puts.{put_of}
use Rattle.written_lines.proofs.put_digits.Goals as goal

pub returns : goal.returns
returns c =
    let l = digits_in_length c.args.width c.args.n in
    put_of c.args.out.now c.write_digits.new.out (digits_in c.args.width c.args.n) c.args.at (c.args.at + c.args.width) c.args.end (omega arith) c.write_digits.ensures (omega arith)
