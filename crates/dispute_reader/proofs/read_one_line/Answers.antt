-- `dispute_reader::read_one_line` meets its contract: the bytes are one line, whose place is found, or they are none or more.
-- Assumes nothing.
use mathlib.Core.Path.{◌∙◌}
use mathlib.Core.List.{List}
use mathlib.Core.Logic.{⊎_elim}
use Prim.Native.Nat.{ℕ, ◌<◌}
use native.Mathlib.Omega.{arith}
use lib.ListN.{length, length-replicate}
use Rattle.records.specs.Text.{lines_of}
use Rattle.dispute_reader.proofs.OneLine.{lines_other, line_only}
use Rattle.dispute_reader.proofs.read_one_line.Goals as goal

pub returns-in_default : goal.returns-in_default
returns-in_default c =
    let bytes : List ℕ = c.args.bytes.now in
    let many : 1 < length (lines_of bytes) =
    let room = length-replicate {A = ℕ} 1 0 in
    ⊎_elim (λ h. omega (arith, h, c.find_lines.auto.starts, room)) (λ h. omega (arith, h, c.find_lines.auto.ends, room)) c.in_default.ensures in
    lines_other bytes (λ e. omega (arith, e, many))

pub returns-then-n-ne1 : goal.returns-then-n-ne1
returns-then-n-ne1 c = lines_other c.args.bytes.now (λ e. omega (arith, e, c.in-Some.ensures.count, c.if-n-ne1.true))

pub returns : goal.returns
returns c = c.read_line.ensures ∙ line_only c.in-Some.ensures (omega (arith, c.if-n-ne1.false))
