-- `readings::read_digits` meets its contract: an ID of the right length, or an empty field.
-- Assumes nothing.
use Rattle.std.proofs.Common.{sym, ◌∙◌, ⊎_elim, arith}
use mathlib.Core.Bool.{true≢false}
use Rattle.readings.proofs.AmountsMissed.{told_not}
use Rattle.readings.proofs.Missed.{fixed_id, fixed_length}
use Rattle.readings.proofs.Ends.{field_length}
use Rattle.readings.proofs.Ids.{id_empty, fixed_read}
use Rattle.readings.specs.InsideLeadingBytes.{leading_field}
use Rattle.fields.specs.declared.FieldType.TheVariants.{Digits}
use Rattle.readings.proofs.read_digits.Goals as goal
use Rattle.readings.proofs.read_digits.Goals.{then-id-eq0-via-then-id-eq0, then-id-eq0-via-else-id-eq0+then-id-width}

pub returns-in_err-id : goal.returns-in_err-id
returns-in_err-id c =
    rw c.from_residual.ensures (told_not _ (λ fits. absurd (true≢false (sym (fixed_id (leading_field c.args.s.now) c.args.width fits) ∙ c.in_err-id.ensures))))

pub returns-then-id-eq0 : goal.returns-then-id-eq0
returns-then-id-eq0 c =
    elim c.then-id-eq0.branch [
      | then-id-eq0-via-then-id-eq0 w ↦ id_empty c.args.s.now c.in_ok-id.id c.in_ok-id.ensures (Digits c.args.width) w.if-id-eq0.true
      | then-id-eq0-via-else-id-eq0+then-id-width w ↦ fixed_read c.args.s.now c.in_ok-id.id c.in_ok-id.ensures (omega arith) c.args.width w.if-id-width.true
    ]

pub returns : goal.returns
returns c =
    let length_of = c.in_ok-id.ensures.ends ∙ sym (field_length c.args.s.now) in
    told_not _ (λ fits. ⊎_elim (λ none. c.if-id-eq0.false (length_of ∙ none)) (λ same. c.if-id-width.false (length_of ∙ same)) (fixed_length (leading_field c.args.s.now) c.args.width fits))
