-- `dispute_reader::digits_said` meets its contract: the tests that led to each answer are those of the type.
-- Assumes nothing.
use Rattle.std.specs.Prelude.{is_some}
use mathlib.Core.Path.{◌≡◌, sym, ◌∙◌, ap}
use mathlib.Core.Logic.{◌⊎◌, inl, inr}
use lib.ListN.{length}
use Rattle.dispute_reader.proofs.OneField.{field_empty, field_number, fits_short, fits_read}
use Rattle.dispute_reader.proofs.digits_said.Goals.{else-width-ne0-via-else-width-ne0, else-width-ne0-via-then-width-ne0+else-s-width}
use Rattle.dispute_reader.proofs.digits_said.Goals as goal

pub returns-then-is_empty : goal.returns-then-is_empty
returns-then-is_empty c = field_empty _ _ (sym c.is_empty.ensures ∙ c.if-is_empty.true)

pub returns-then-s-width : goal.returns-then-s-width
returns-then-s-width c = fits_short _ _ (sym c.is_empty.ensures ∙ c.if-is_empty.false) c.if-width-ne0.true c.if-s-width.true

pub returns-in_err-value : goal.returns-in_err-value
returns-in_err-value c =
    let wide : (c.args.width ≡ 0) ⊎ (length c.args.s.now ≡ c.args.width) = elim c.else-width-ne0.branch [ else-width-ne0-via-then-width-ne0+else-s-width w ↦ inr w.if-s-width.false | else-width-ne0-via-else-width-ne0 w ↦ inl w.if-width-ne0.false ] in
    rw c.from_residual.ensures
    (fits_read _ _ (sym c.is_empty.ensures ∙ c.if-is_empty.false) wide ∙ ap is_some (sym c.digits.ensures ∙ c.in_err-value.was))

pub returns : goal.returns
returns c =
    let wide : (c.args.width ≡ 0) ⊎ (length c.args.s.now ≡ c.args.width) = elim c.else-width-ne0.branch [ else-width-ne0-via-then-width-ne0+else-s-width w ↦ inr w.if-s-width.false | else-width-ne0-via-else-width-ne0 w ↦ inl w.if-width-ne0.false ] in
    let some = sym c.is_empty.ensures ∙ c.if-is_empty.false in
    let read = sym c.digits.ensures ∙ c.in_ok-value.was in
    field_number _ _ _ some (fits_read _ _ some wide ∙ ap is_some read) read
