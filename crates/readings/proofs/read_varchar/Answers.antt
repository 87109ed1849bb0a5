-- `readings::read_varchar` meets its contract: the bytes at the start end the field, or else the field goes to the first comma and says no number.
-- Assumes nothing.
use Rattle.std.proofs.Common.{refl, arith}
use Rattle.readings.specs.InsideLeadingBytes.{leading_field}
use Rattle.readings.proofs.AmountsMissed.{told_not}
use Rattle.readings.proofs.Missed.{varchar_length, text_ends}
use Rattle.readings.proofs.Ends.{field_length, ends_there}
use Rattle.readings.proofs.Texts.{varchar_read, long_read}
use Rattle.readings.proofs.read_varchar.Goals as goal

pub returns-then-short-width : goal.returns-then-short-width
returns-then-short-width c =
    varchar_read c.args.s.now c.leading_text-run.result c.leading_text-run.ensures (c.ends_at.ensures.0 c.if-ends_at.true) c.args.width _ refl refl c.if-short-width.true

pub returns-then-ends_at : goal.returns-then-ends_at
returns-then-ends_at c =
    let ends = ends_there c.args.s.now c.leading_text-run.result.len (c.ends_at.ensures.0 c.if-ends_at.true) c.leading_text-run.ensures.before in
    told_not _ (λ fits. omega (arith, varchar_length (leading_field c.args.s.now) c.args.width fits, field_length c.args.s.now, ends, c.if-short-width.false))

pub returns-then-width-le4 : goal.returns-then-width-le4
returns-then-width-le4 c =
    told_not _
    (λ fits.
    c.ends_at.ensures.1 c.if-ends_at.false
    (text_ends c.args.s.now c.leading_text-run.result c.leading_text-run.ensures (omega (arith, varchar_length (leading_field c.args.s.now) c.args.width fits, field_length c.args.s.now, c.if-width-le4.true))))

pub returns-then-len-width : goal.returns-then-len-width
returns-then-len-width c = long_read c.args.s.now c.find-len.result c.args.width _ c.find-len.ensures c.if-len-width.true (omega arith) refl

pub returns : goal.returns
returns c = told_not _ (λ fits. omega (arith, varchar_length (leading_field c.args.s.now) c.args.width fits, field_length c.args.s.now, c.find-len.ensures, c.if-len-width.false))
