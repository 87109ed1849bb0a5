-- `readings::read_date_time` meets its contract: the field up to the first comma fits.
-- Assumes nothing.
use Rattle.std.proofs.Common.{◌≤◌, length, sym, refl, ◌∙◌, arith, length-take-le}
use Rattle.lists.specs.First.{is_byte}
use Rattle.lists.proofs.First.{first_le}
use Rattle.fields.specs.declared.FieldType.TheVariants.{DateTime}
use Rattle.readings.specs.InsideReadings.{Says}
use Rattle.readings.proofs.Fields.{field_read}
use Rattle.readings.proofs.read_date_time.Goals as goal

pub slice_bounds-is_date_time-end : goal.slice_bounds-is_date_time-end
slice_bounds-is_date_time-end c =
    let inside : c.find-len.result ≤ length c.args.s.now = omega (arith, first_le (is_byte 44) c.args.s.now, c.find-len.ensures) in
    sym (length-take-le c.find-len.result c.args.s.now inside)

pub returns-then-is_date_time : goal.returns-then-is_date_time
unfolding Says
returns-then-is_date_time c = field_read DateTime c.args.s.now _ c.find-len.result 0 c.find-len.ensures (sym c.is_date_time.ensures ∙ c.if-is_date_time.true) tt refl refl
