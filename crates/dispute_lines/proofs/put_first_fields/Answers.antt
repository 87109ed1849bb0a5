-- `dispute_lines::put_first_fields` meets its contract: six fields, put one after another.
-- Assumes nothing.
use native.Mathlib.Omega.{arith}
use mathlib.Core.Path.{sym, ◌∙◌}
use Rattle.writing.proofs.Numbers.{digits_in_length}
use Rattle.writing.proofs.Places.{written_none}
use Rattle.written_lines.proofs.Puts.{put}
use Rattle.dispute_lines.specs.InsideHalves.{start_of}
use Rattle.dispute_lines.proofs.Lines.{first_length}
use Rattle.dispute_lines.proofs.put_first_fields.Goals as goal

pub put_bytes-at2-requires : goal.put_bytes-at2-requires
put_bytes-at2-requires c =
    omega (arith, first_length c.args.d c.args.created.now)

pub put_plain-at3-requires : goal.put_plain-at3-requires
put_plain-at3-requires c =
    omega (arith, first_length c.args.d c.args.created.now)

pub put_digits-at4-requires : goal.put_digits-at4-requires
put_digits-at4-requires c =
    omega (arith, first_length c.args.d c.args.created.now)

pub put_digits-at5-requires : goal.put_digits-at5-requires
put_digits-at5-requires c =
    omega (arith, first_length c.args.d c.args.created.now, digits_in_length 9 c.args.d.retailer)

pub put_bytes-at6-requires : goal.put_bytes-at6-requires
put_bytes-at6-requires c =
    omega (arith, first_length c.args.d c.args.created.now, digits_in_length 9 c.args.d.retailer, digits_in_length 4 c.args.d.distributor)

pub put_plain-requires : goal.put_plain-requires
put_plain-requires c =
    omega (arith, first_length c.args.d c.args.created.now, digits_in_length 9 c.args.d.retailer, digits_in_length 4 c.args.d.distributor)

pub returns : goal.returns
unfolding start_of
returns c =
    let size = first_length c.args.d c.args.created.now in
    let nine = digits_in_length 9 c.args.d.retailer in
    let four = digits_in_length 4 c.args.d.distributor in (
      sym
          (put c.put_bytes-at2.ensures _ (omega arith)
          ∙ put c.put_plain-at3.ensures _ (omega arith)
          ∙ put c.put_digits-at4.ensures _ (omega arith)
          ∙ put c.put_digits-at5.ensures _ (omega arith)
          ∙ put c.put_bytes-at6.ensures _ (omega arith)
          ∙ put c.put_plain.ensures _ (omega arith)
          ∙ written_none _ _),
      omega arith,
    )
