-- `first_unformatted` meets its contract. The loop's invariant: no line before i fails test 2.
-- Assumes nothing.
use Prim.Native.Nat.{ℕ}
use mathlib.Core.Bool.{false}
use mathlib.Core.Path.{◌≡◌, sym, ◌∙◌, ap}
use native.Mathlib.Omega.{arith}
use borrow.Author.Count.{below_more}
use lib.ListN.{get_or}
use Rattle.format.specs.Format.{line_at, unformatted, first_unformatted}
use Rattle.records.proofs.Placed.{placed_at}
use Rattle.records.specs.Text.{lines_of}
use Rattle.records.specs.InsidePlacedLines.{At}
use Rattle.line_reader.proofs.Unread.{first_here, first_none}
use Rattle.line_reader.proofs.first_unformatted.Goals as goal

pub is_unformatted-requires : goal.is_unformatted-requires
is_unformatted-requires c =
    let place : At c.args.lines.now.bytes.now (get_or c.args.lines.now.starts.now c.loop-i.i 0) (get_or c.args.lines.now.ends.now c.loop-i.i 0) (line_at (lines_of c.args.lines.now.bytes.now) c.loop-i.i) = placed_at c.args.lines.now.placed c.loop-i.i c.loop-i-test.true in
    (place.low, place.high)

pub returns-then-is_unformatted : goal.returns-then-is_unformatted
unfolding first_unformatted
returns-then-is_unformatted c =
    let place : At c.args.lines.now.bytes.now (get_or c.args.lines.now.starts.now c.loop-i.i 0) (get_or c.args.lines.now.ends.now c.loop-i.i 0) (line_at (lines_of c.args.lines.now.bytes.now) c.loop-i.i) = placed_at c.args.lines.now.placed c.loop-i.i c.loop-i-test.true in
    let asked : unformatted (line_at (lines_of c.args.lines.now.bytes.now) c.loop-i.i) ≡ c.is_unformatted.result = sym (c.is_unformatted.ensures ∙ ap unformatted place.same) in
    first_here unformatted (lines_of c.args.lines.now.bytes.now) c.loop-i.i c.loop-i.invariant (omega (arith, c.args.lines.now.placed.count)) (asked ∙ c.if-is_unformatted.true)

pub loop-i-preserved : goal.loop-i-preserved
loop-i-preserved c =
    let place : At c.args.lines.now.bytes.now (get_or c.args.lines.now.starts.now c.loop-i.i 0) (get_or c.args.lines.now.ends.now c.loop-i.i 0) (line_at (lines_of c.args.lines.now.bytes.now) c.loop-i.i) = placed_at c.args.lines.now.placed c.loop-i.i c.loop-i-test.true in
    let asked : unformatted (line_at (lines_of c.args.lines.now.bytes.now) c.loop-i.i) ≡ c.is_unformatted.result = sym (c.is_unformatted.ensures ∙ ap unformatted place.same) in
    below_more (λ (j : ℕ). unformatted (line_at (lines_of c.args.lines.now.bytes.now) j) ≡ false) c.loop-i.i c.loop-i.invariant (asked ∙ c.if-is_unformatted.false)

pub returns : goal.returns
unfolding first_unformatted
returns c = omega (arith, first_none unformatted (lines_of c.args.lines.now.bytes.now) c.loop-i.i c.loop-i.invariant (omega (arith, c.args.lines.now.placed.count)))
