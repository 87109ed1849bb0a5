-- `dispute_lines::put_last_fields` meets its contract: five fields, put one after another, of which the last ends the line.
-- Assumes nothing.
use native.Mathlib.Omega.{arith}
use mathlib.Core.Bool.{not}
use mathlib.Core.Path.{ap}
use lib.ListN.{length}
use Rattle.writing.proofs.Numbers.{digits_in_length}
use Rattle.written_lines.proofs.Puts.{last, more, puts_line, puts_next}
use Rattle.dispute_lines.proofs.Lines.{last_length, chosen}
use Rattle.dispute_lines.proofs.put_last_fields.Goals as goal

pub put_digits-at8-requires : goal.put_digits-at8-requires
put_digits-at8-requires c = omega (arith, last_length c.args.d)

pub put_id-at9-requires : goal.put_id-at9-requires
put_id-at9-requires c =
    let period = chosen (not c.args.d.once) c.args.d.id _ c.then_some.ensures in
    omega (arith, last_length c.args.d, digits_in_length 13 c.args.d.site, ap length period)

pub put_bytes-at10-requires : goal.put_bytes-at10-requires
put_bytes-at10-requires c =
    let period = chosen (not c.args.d.once) c.args.d.id _ c.then_some.ensures in
    omega (arith, last_length c.args.d, digits_in_length 13 c.args.d.site, ap length period)

pub put_id-at11-requires : goal.put_id-at11-requires
put_id-at11-requires c =
    let period = chosen (not c.args.d.once) c.args.d.id _ c.then_some.ensures in
    let charge = chosen c.args.d.once c.args.d.id _ c.then_some-2.ensures in
    omega (arith, last_length c.args.d, digits_in_length 13 c.args.d.site, ap length period, ap length charge)

pub put_digits-requires : goal.put_digits-requires
put_digits-requires c =
    let period = chosen (not c.args.d.once) c.args.d.id _ c.then_some.ensures in
    let charge = chosen c.args.d.once c.args.d.id _ c.then_some-2.ensures in
    omega (arith, last_length c.args.d, digits_in_length 13 c.args.d.site, ap length period, ap length charge)

pub returns : goal.returns
returns c =
    let period = chosen (not c.args.d.once) c.args.d.id _ c.then_some.ensures in
    let charge = chosen c.args.d.once c.args.d.id _ c.then_some-2.ensures in
    let puts = more c.put_digits-at8.ensures (more (rw period at c.put_id-at9.ensures) (more c.put_bytes-at10.ensures (more (rw charge at c.put_id-at11.ensures) (last c.put_digits.ensures)))) in
    let size = last_length c.args.d in
    let thirteen = digits_in_length 13 c.args.d.site in
    let four = digits_in_length 4 c.args.d.code in
    (puts_line puts (omega (arith)), omega (arith, puts_next puts))
