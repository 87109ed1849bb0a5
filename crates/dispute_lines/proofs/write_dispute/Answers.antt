-- `dispute_lines::write_dispute` meets its contract: the start of the line and the rest of it are the line.
-- Assumes nothing.
use native.Mathlib.Omega.{arith}
use mathlib.Core.List.{List}
use mathlib.Core.Path.{◌≡◌, sym, ◌∙◌, ap}
use Prim.Native.Nat.{ℕ, ◌+◌}
use lib.ListN.{length, length-append}
use Rattle.writing.specs.InsideWriting.{written_at}
use Rattle.writing.proofs.Places.{piece}
use Rattle.written_lines.specs.Lines.{line_of}
use Rattle.dispute_lines.specs.declared.Dispute.{Dispute}
use Rattle.dispute_lines.specs.InsideHalves.{first_fields, last_fields, start_of}
use Rattle.dispute_lines.specs.Line.{dispute_line}
use Rattle.dispute_lines.proofs.Lines.{line_start}
use Rattle.dispute_lines.proofs.write_dispute.Goals as goal

halves : (d : Dispute) (created : List ℕ) → length (dispute_line d created) ≡ length (start_of (first_fields d created)) + length (line_of 44 (last_fields d))
halves d created = ap length (line_start d created) ∙ length-append (start_of (first_fields d created)) (line_of 44 (last_fields d))

pub put_first_fields-at-requires : goal.put_first_fields-at-requires
put_first_fields-at-requires c = omega (arith, halves c.args.d c.args.created.now, c.requires)

pub put_last_fields-requires : goal.put_last_fields-requires
put_last_fields-requires c =
    omega (arith, halves c.args.d c.args.created.now, c.requires, c.put_first_fields-at.ensures.1, c.put_first_fields-at.auto.out)

pub returns : goal.returns
returns c =
    let line = ap (λ (l : List ℕ). written_at c.args.out.now 0 l) (line_start c.args.d c.args.created.now) in (
      sym
          (line
          ∙ piece c.args.out.now 0 c.put_first_fields-at.new.out (start_of (first_fields c.args.d c.args.created.now)) (line_of 44 (last_fields c.args.d)) c.put_first_fields-at.result (omega arith) c.put_first_fields-at.ensures.0 (omega (arith, c.put_first_fields-at.ensures.1))
          ∙ sym c.put_last_fields.ensures.0),
      omega (arith, halves c.args.d c.args.created.now, c.put_first_fields-at.ensures.1, c.put_last_fields.ensures.1),
    )
