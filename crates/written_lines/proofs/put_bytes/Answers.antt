-- `written_lines::put_bytes` meets its contract: the bytes are written, and the byte that ends them is stored after them.
-- Assumes nothing.
use native.Mathlib.Omega.{arith}
use mathlib.Core.Path.{refl}
use Rattle.written_lines.proofs.Puts.{put_of}
use Rattle.written_lines.proofs.put_bytes.Goals as goal

pub returns : goal.returns
returns c = put_of c.args.out.now c.write_bytes.new.out c.args.bytes.now c.args.at _ c.args.end (omega arith) c.write_bytes.ensures refl
