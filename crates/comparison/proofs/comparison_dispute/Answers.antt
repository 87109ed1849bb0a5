-- `comparison::comparison_dispute` meets its contract.
-- Assumes nothing.
use borrow.Author.Tests.{lt-leb, le-leb, eq-eqb, ne_eqb}
use native.Mathlib.Omega.{arith}
use mathlib.Core.List.{List}
use mathlib.Core.Path.{◌≡◌, ◌∙◌, ap}
use Prim.Native.Nat.{ℕ}
use lib.ListN.{length}
use Rattle.writing.specs.InsideWriting.{written_at}
use Rattle.dispute_lines.specs.declared.Dispute.{Dispute}
use Rattle.dispute_lines.specs.Line.{dispute_line}
use Rattle.comparison.specs.InsideDisputes.{line_said, is_written}
use Rattle.comparison.proofs.comparison_dispute.Goals as goal

pub returns-then-numbers-lt7 : goal.returns-then-numbers-lt7
unfolding is_written
returns-then-numbers-lt7 c = let e = lt-leb _ _ c.if-numbers-lt7.true in record { length = rw e; written = rw e }

pub returns-then-created-ne14 : goal.returns-then-created-ne14
unfolding is_written
returns-then-created-ne14 c = let e = ne_eqb _ _ c.if-created-ne14.true in let m = le-leb _ _ c.if-numbers-lt7.false in record { length = rw (m, e); written = rw (m, e) }

pub returns-then-out-line_length : goal.returns-then-out-line_length
unfolding is_written
returns-then-out-line_length c =
    let size : c.line_length.result ≡ length (line_said c.args.numbers.now c.args.created.now) =
    c.line_length.ensures c.args.created.now c.if-created-ne14.false ∙ ap (λ (d : Dispute). length (dispute_line d c.args.created.now)) c.dispute_of-d.ensures in
    let n = le-leb _ _ c.if-numbers-lt7.false in
    let m = eq-eqb _ _ c.if-created-ne14.false in
    let e = lt-leb (length (line_said c.args.numbers.now c.args.created.now)) (length c.args.out.now) (omega (arith, c.if-out-line_length.true, size)) in record { length = rw (n, m, e); written = rw (n, m, e) }

pub returns : goal.returns
unfolding is_written
returns c =
    let size : c.line_length.result ≡ length (line_said c.args.numbers.now c.args.created.now) =
    c.line_length.ensures c.args.created.now c.if-created-ne14.false ∙ ap (λ (d : Dispute). length (dispute_line d c.args.created.now)) c.dispute_of-d.ensures in
    let n = le-leb _ _ c.if-numbers-lt7.false in
    let m = eq-eqb _ _ c.if-created-ne14.false in
    let e = le-leb (length (line_said c.args.numbers.now c.args.created.now)) (length c.args.out.now) (omega (arith, c.if-out-line_length.false, size)) in
    let line : dispute_line c.dispute_of-d.result c.args.created.now ≡ line_said c.args.numbers.now c.args.created.now = ap (λ (d : Dispute). dispute_line d c.args.created.now) c.dispute_of-d.ensures in record { length = rw (n, m, e) (c.write_dispute.ensures.1 ∙ ap length line); written = rw (n, m, e) (c.write_dispute.ensures.0 ∙ ap (λ (x : List ℕ). written_at c.args.out.now 0 x) line) }
