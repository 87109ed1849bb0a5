-- `records::find_lines` meets its contract. The loop's invariant: the lines so far have their places, and the rest are those of the bytes that are left.
-- Assumes nothing.
use Rattle.records.proofs.Placed.{going_more, going_end, going_count}
use Rattle.records.proofs.Cut.{lines_step, lines_some, lines_none}
use Rattle.records.specs.Text.{lines_of}
use Rattle.lists.proofs.Parts.{part_rest}
use Rattle.lists.proofs.First.{first_le}
use Rattle.lists.specs.First.{first_where, is_byte}
use lib.ListN.{length, drop, length-set, length-drop, drop_of_length-le}
use Prim.Native.Nat.{ℕ, ◌+◌, ◌≤◌, ◌<◌}
use mathlib.Core.Logic.{inl, inr}
use mathlib.Core.Path.{◌≡◌, ap}
use native.Mathlib.Omega.{arith}
use Rattle.records.proofs.find_lines.Goals as goal

pub returns-then-starts-n : goal.returns-then-starts-n
returns-then-starts-n c =
    let more : c.loop-a.n < length (lines_of c.args.file.now) =
    omega (arith, going_count c.loop-a.invariant.2, lines_some (drop c.loop-a.a c.args.file.now) (rw length-drop (omega arith))) in
    inl (omega (arith, more))

pub returns-then-ends-n : goal.returns-then-ends-n
returns-then-ends-n c =
    let more : c.loop-a.n < length (lines_of c.args.file.now) =
    omega (arith, going_count c.loop-a.invariant.2, lines_some (drop c.loop-a.a c.args.file.now) (rw length-drop (omega arith))) in
    inr (omega (arith, more))

pub overflow_add-e : goal.overflow_add-e
overflow_add-e c =
    let found : c.find_far.result ≡ first_where (is_byte 10) (drop c.loop-a.a c.args.file.now) = simp part_rest at c.find_far.ensures in
    let near : c.loop-a.a + c.find_far.result ≤ length c.args.file.now =
    let f = drop c.loop-a.a c.args.file.now in
    omega (arith, found, first_le (is_byte 10) f, length-drop c.loop-a.a c.args.file.now) in
    omega (arith, near)

pub line_end-stop-requires : goal.line_end-stop-requires
line_end-stop-requires c =
    let found : c.find_far.result ≡ first_where (is_byte 10) (drop c.loop-a.a c.args.file.now) = simp part_rest at c.find_far.ensures in
    let near : c.loop-a.a + c.find_far.result ≤ length c.args.file.now =
    let f = drop c.loop-a.a c.args.file.now in
    omega (arith, found, first_le (is_byte 10) f, length-drop c.loop-a.a c.args.file.now) in
    omega (arith, near)

pub overflow_add-a : goal.overflow_add-a
overflow_add-a c =
    let found : c.find_far.result ≡ first_where (is_byte 10) (drop c.loop-a.a c.args.file.now) = simp part_rest at c.find_far.ensures in
    let near : c.loop-a.a + c.find_far.result ≤ length c.args.file.now =
    let f = drop c.loop-a.a c.args.file.now in
    omega (arith, found, first_le (is_byte 10) f, length-drop c.loop-a.a c.args.file.now) in
    omega (arith, near)

pub loop-a-preserved : goal.loop-a-preserved
loop-a-preserved c =
    let found : c.find_far.result ≡ first_where (is_byte 10) (drop c.loop-a.a c.args.file.now) = simp part_rest at c.find_far.ensures in
    let near : c.loop-a.a + c.find_far.result ≤ length c.args.file.now =
    let f = drop c.loop-a.a c.args.file.now in
    omega (arith, found, first_le (is_byte 10) f, length-drop c.loop-a.a c.args.file.now) in (
      simp length-set c.loop-a.invariant.0,
      simp length-set c.loop-a.invariant.1,
      going_more c.loop-a.invariant.2 c.loop-a.a c.line_end-stop.result _ (omega arith) (omega arith) c.line_end-stop.ensures.low (omega (arith, near))
          (lines_step c.args.file.now c.loop-a.a (c.loop-a.a + c.find_far.result) c.line_end-stop.result (omega arith) (ap (λ (k : ℕ). c.loop-a.a + k) (found)) c.line_end-stop.ensures),
    )

pub returns : goal.returns
returns c =
    going_end (rw (drop_of_length-le c.args.file.now {i = c.loop-a.a} (omega arith), lines_none) at c.loop-a.invariant.2)
