-- `has_unprintable` meets its contract. The loop's invariant: each byte passed is printable.
-- Assumes nothing.
use Rattle.records.specs.InsidePlacedLines.{part}
use native.Mathlib.Nat.{le_refl}
use Prim.Native.Nat.{◌+◌, ◌-◌, ◌*◌}
use mathlib.Core.Path.{sym, ◌∙◌}
use lib.ListN.{length}
use Rattle.lists.proofs.Parts.{part_at}
use Rattle.format.proofs.Blocks.{block_some, block_passed, block_last}
use native.Mathlib.Omega.{arith}
use Rattle.format.proofs.has_unprintable.Invariants.{unprintable}
use Rattle.format.proofs.has_unprintable.Goals as goal

pub returns-then-block_has_unprintable : goal.returns-then-block_has_unprintable
returns-then-block_has_unprintable c =
    let s = c.args.s.now in
    let i = c.loop-k.k * 32 in
    sym (block_some unprintable s (part s i (i + 32)) i 32 (λ k h. part_at s i (i + 32) k 0 (omega arith)) (length s) (omega arith) (sym c.block_has_unprintable.ensures ∙ c.if-block_has_unprintable.true))

pub loop-k-preserved : goal.loop-k-preserved
loop-k-preserved c =
    let s = c.args.s.now in
    let i = c.loop-k.k * 32 in
    λ k h.
    block_passed unprintable s (part s i (i + 32)) i 32 (λ k h. part_at s i (i + 32) k 0 (omega arith)) i (le_refl i) c.loop-k.invariant (sym c.block_has_unprintable.ensures ∙ c.if-block_has_unprintable.false)
    k (omega (arith, h))

pub returns : goal.returns
returns c =
    let s = c.args.s.now in
    let q = length s - 32 in
    c.block_has_unprintable-2.ensures
    ∙ block_last unprintable s (part s q (length s)) q 32 (λ k h. part_at s q (length s) k 0 (omega arith)) (length s) (c.loop-k.k * 32) (omega arith) (omega arith) c.loop-k.invariant
