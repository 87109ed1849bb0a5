-- `readings::read_char` meets its contract: the bytes at the start end the field, and are as many as the width.
-- Assumes nothing.
use Rattle.std.proofs.Common.{ℕ, sym, ◌∙◌, subst, refl, ⊎_elim, arith}
use Rattle.fields.specs.declared.FieldType.TheVariants.{Char}
use Rattle.readings.specs.InsideLeadingBytes.{Ends, leading_field}
use Rattle.readings.proofs.AmountsMissed.{told_not}
use Rattle.readings.proofs.Missed.{char_length, text_ends}
use Rattle.readings.proofs.Ends.{field_length, ends_there}
use Rattle.readings.proofs.Texts.{char_read}
use Rattle.readings.proofs.Fields.{empty_read}
use Rattle.readings.proofs.read_char.Goals as goal

pub returns-then-not-ends_at : goal.returns-then-not-ends_at
returns-then-not-ends_at c =
    told_not _
    (λ fits.
    c.ends_at.ensures.1 c.if-not-ends_at.true
    (text_ends c.args.s.now c.leading_text-run.result c.leading_text-run.ensures
    (⊎_elim (λ none. omega (arith, field_length c.args.s.now, none)) (λ same. omega (arith, field_length c.args.s.now, same, c.requires)) (char_length (leading_field c.args.s.now) c.args.width fits))))

pub returns-then-len-eq0 : goal.returns-then-len-eq0
returns-then-len-eq0 c = empty_read (Char c.args.width) c.args.s.now _ (subst (λ (k : ℕ). Ends c.args.s.now k) c.if-len-eq0.true (c.ends_at.ensures.0 c.if-not-ends_at.false)) refl refl

pub returns-then-len-width : goal.returns-then-len-width
returns-then-len-width c =
    char_read c.args.s.now c.leading_text-run.result c.leading_text-run.ensures (c.ends_at.ensures.0 c.if-not-ends_at.false) c.args.width _ refl refl c.if-len-width.true

pub returns : goal.returns
returns c =
    let ends = ends_there c.args.s.now c.leading_text-run.result.len (c.ends_at.ensures.0 c.if-not-ends_at.false) c.leading_text-run.ensures.before in
    told_not _
    (λ fits.
    ⊎_elim (λ none. c.if-len-eq0.false (ends ∙ sym (field_length c.args.s.now) ∙ none)) (λ same. c.if-len-width.false (ends ∙ sym (field_length c.args.s.now) ∙ same)) (char_length (leading_field c.args.s.now) c.args.width fits))
