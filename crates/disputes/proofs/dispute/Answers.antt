-- `disputes::dispute` meets its contract: the refusals of what is asked for, then 109, then the line.
-- Assumes nothing.
use native.Mathlib.Omega.{arith}
use Rattle.disputes.specs.InsideHeldEntry.{found_of}
use Rattle.disputes.specs.Disputes.{supplied}
use Rattle.disputes.proofs.Answers.{first_109, refused_by, asked_written}
use Rattle.disputes.proofs.dispute.Goals as goal

pub returns-in-Ok : goal.returns-in-Ok
returns-in-Ok c =
    let s = supplied c.args.retailer c.args.distributors.now c.args.transaction.now c.args.created.now c.args.file.now in
    let size = c.line_length.ensures c.args.created.now c.in-Ok.ensures.moment in
    refused_by s (found_of c.args.found) c.args.out.now 109 _
    (first_109 s (found_of c.args.found) c.args.out.now c.in-Ok.d c.in-Ok.ensures (omega (arith, size, c.if-out-line_length.true)))
    (λ q. omega arith) c.refused.ensures

pub returns-in-Ok-2 : goal.returns-in-Ok-2
returns-in-Ok-2 c =
    let s = supplied c.args.retailer c.args.distributors.now c.args.transaction.now c.args.created.now c.args.file.now in
    let size = c.line_length.ensures c.args.created.now c.in-Ok.ensures.moment in
    asked_written s (found_of c.args.found) c.args.out.now c.in-Ok.d c.in-Ok.ensures _ _
    (omega (arith, size, c.if-out-line_length.false)) c.write_dispute.ensures.1 c.write_dispute.ensures.0
