-- `readings::id_of` meets its contract: the digits at the start end the field, so they are its ID, or the field is empty.
-- Assumes nothing.
use Rattle.std.proofs.Common.{ℕ, sym, subst, refl, arith}
use Rattle.readings.proofs.Ids.{id_bound, id_read}
use Rattle.readings.proofs.AmountsMissed.{told_not}
use Rattle.readings.proofs.Missed.{id_ends}
use Rattle.readings.proofs.Ends.{end_ends}
use Rattle.readings.proofs.Fields.{empty_read}
use Rattle.readings.specs.InsideLeadingBytes.{Ends}
use Rattle.fields.specs.declared.FieldType.TheVariants.{RecordId}
use Rattle.readings.proofs.id_of.Goals as goal

pub returns-then-not-ends_at : goal.returns-then-not-ends_at
returns-then-not-ends_at c =
    told_not _ (λ f. c.ends_at.ensures.1 c.if-not-ends_at.true (subst (λ (k : ℕ). Ends c.args.s.now k) (sym (id_ends c.args.s.now c.args.run c.requires f)) (end_ends c.args.s.now)))

pub returns-then-len-eq0 : goal.returns-then-len-eq0
returns-then-len-eq0 c =
    empty_read RecordId c.args.s.now _ (subst (λ (k : ℕ). Ends c.args.s.now k) c.if-len-eq0.true (c.ends_at.ensures.0 c.if-not-ends_at.false)) refl refl

pub overflow_add-result : goal.overflow_add-result
overflow_add-result c = record { fits = omega (arith, id_bound c.args.s.now c.args.run c.requires.read) }

pub returns : goal.returns
returns c = id_read c.args.s.now c.args.run c.requires.read _ (c.ends_at.ensures.0 c.if-not-ends_at.false) (omega arith) refl refl
