-- `readings::read_fixed` meets its contract: what is no ID of eight digits is no date.
-- Assumes nothing.
use Rattle.std.proofs.Common.{◌≡◌, ℕ, false, subst}
use Rattle.fields.specs.declared.FieldType.TheVariants.{Digits}
use Rattle.fields.specs.Fields.{fits_type}
use Rattle.readings.specs.InsideLeadingBytes.{leading_field}
use Rattle.readings.proofs.Ids.{date_not}
use Rattle.readings.proofs.read_fixed.Goals.{then-is_date, else-is_date}
use Rattle.readings.proofs.read_fixed.Goals as goal

pub returns-in_err-id : goal.returns-in_err-id
returns-in_err-id c =
    rw c.from_residual.ensures
    (elim c.if-is_date.branch [
      | then-is_date w ↦ rw w.if-is_date.true (date_not c.args.s.now (subst (λ (d : ℕ). fits_type (Digits d) (leading_field c.args.s.now) ≡ false) w.digits-is c.in_err-id.ensures))
      | else-is_date w ↦ rw w.if-is_date.false (subst (λ (d : ℕ). fits_type (Digits d) (leading_field c.args.s.now) ≡ false) w.digits-is c.in_err-id.ensures)
    ])
