-- `codes_stand` meets its contract: the four codes are tried in turn, and the constants of the code are the numbers of their texts.
-- Assumes nothing.
use Rattle.codes_and_rows.proofs.CodeFields.{either_asked, wrong_commodity, wrong_unit, wrong_cancel, last_code}
use Rattle.codes_and_rows.specs.InsideNumbers.{is_either, unit_of_number}
use Rattle.readings.specs.InsideLeadingBytes.{packed, packed_after}
use Rattle.format.specs.Format.{commodity_fields, unit_fields, cancel_fields, exemption_fields}
use Rattle.lists.specs.Written.{written}
use lib.ListN.{get_or}
use mathlib.Core.Path.{◌≡◌, refl, sym, ◌∙◌}
use borrow.Author.Tests.{eq-eqb, ne_eqb}
use Rattle.codes_and_rows.proofs.codes_stand.Goals.{else-commodity-eq-EL, then-commodity-eq-EL}
use Rattle.codes_and_rows.proofs.codes_stand.Goals as goal

pub returns-then-not-is_either : goal.returns-then-not-is_either
unfolding packed_after
returns-then-not-is_either c =
    let commodity : is_either (get_or commodity_fields c.args.record_type 0) c.args.numbers.now (written "EL") (written "NG") ≡ c.is_either.result =
    either_asked commodity_fields c.args.numbers.now (written "EL") (written "NG") c.args.record_type c.commodity_field.ensures refl refl c.is_either.ensures in
    sym (wrong_commodity _ _ _ (commodity ∙ c.if-not-is_either.true))

pub returns-then-not-is_either-2 : goal.returns-then-not-is_either-2
unfolding packed_after unit_of_number
returns-then-not-is_either-2 c =
    let commodity : is_either (get_or commodity_fields c.args.record_type 0) c.args.numbers.now (written "EL") (written "NG") ≡ c.is_either.result =
    either_asked commodity_fields c.args.numbers.now (written "EL") (written "NG") c.args.record_type c.commodity_field.ensures refl refl c.is_either.ensures in
    let unit : c.if-commodity-eq-EL.unit ≡ packed (unit_of_number c.args.commodity) = elim c.if-commodity-eq-EL.branch [ then-commodity-eq-EL w ↦ w.unit-is ∙ rw (eq-eqb _ _ w.if-commodity-eq-EL.true) | else-commodity-eq-EL w ↦ w.unit-is ∙ rw (ne_eqb _ _ w.if-commodity-eq-EL.false) ] in
    let units_stand : is_either (get_or unit_fields c.args.record_type 0) c.args.numbers.now (unit_of_number c.args.commodity) (unit_of_number c.args.commodity) ≡ c.is_either-2.result =
    either_asked unit_fields c.args.numbers.now (unit_of_number c.args.commodity) (unit_of_number c.args.commodity) c.args.record_type c.unit_field.ensures (unit) (unit) c.is_either-2.ensures in
    sym (wrong_unit _ _ _ (commodity ∙ c.if-not-is_either.false) (units_stand ∙ c.if-not-is_either-2.true))

pub returns-then-not-is_either-3 : goal.returns-then-not-is_either-3
unfolding packed_after unit_of_number
returns-then-not-is_either-3 c =
    let commodity : is_either (get_or commodity_fields c.args.record_type 0) c.args.numbers.now (written "EL") (written "NG") ≡ c.is_either.result =
    either_asked commodity_fields c.args.numbers.now (written "EL") (written "NG") c.args.record_type c.commodity_field.ensures refl refl c.is_either.ensures in
    let unit : c.if-commodity-eq-EL.unit ≡ packed (unit_of_number c.args.commodity) = elim c.if-commodity-eq-EL.branch [ then-commodity-eq-EL w ↦ w.unit-is ∙ rw (eq-eqb _ _ w.if-commodity-eq-EL.true) | else-commodity-eq-EL w ↦ w.unit-is ∙ rw (ne_eqb _ _ w.if-commodity-eq-EL.false) ] in
    let units_stand : is_either (get_or unit_fields c.args.record_type 0) c.args.numbers.now (unit_of_number c.args.commodity) (unit_of_number c.args.commodity) ≡ c.is_either-2.result =
    either_asked unit_fields c.args.numbers.now (unit_of_number c.args.commodity) (unit_of_number c.args.commodity) c.args.record_type c.unit_field.ensures (unit) (unit) c.is_either-2.ensures in
    let cancel : is_either (get_or cancel_fields c.args.record_type 0) c.args.numbers.now (written "Y") (written "N") ≡ c.is_either-3.result =
    either_asked cancel_fields c.args.numbers.now (written "Y") (written "N") c.args.record_type c.cancel_field.ensures refl refl c.is_either-3.ensures in
    sym (wrong_cancel _ _ _ (commodity ∙ c.if-not-is_either.false) (units_stand ∙ c.if-not-is_either-2.false) (cancel ∙ c.if-not-is_either-3.true))

pub returns : goal.returns
unfolding packed_after unit_of_number
returns c =
    let commodity : is_either (get_or commodity_fields c.args.record_type 0) c.args.numbers.now (written "EL") (written "NG") ≡ c.is_either.result =
    either_asked commodity_fields c.args.numbers.now (written "EL") (written "NG") c.args.record_type c.commodity_field.ensures refl refl c.is_either.ensures in
    let unit : c.if-commodity-eq-EL.unit ≡ packed (unit_of_number c.args.commodity) = elim c.if-commodity-eq-EL.branch [ then-commodity-eq-EL w ↦ w.unit-is ∙ rw (eq-eqb _ _ w.if-commodity-eq-EL.true) | else-commodity-eq-EL w ↦ w.unit-is ∙ rw (ne_eqb _ _ w.if-commodity-eq-EL.false) ] in
    let units_stand : is_either (get_or unit_fields c.args.record_type 0) c.args.numbers.now (unit_of_number c.args.commodity) (unit_of_number c.args.commodity) ≡ c.is_either-2.result =
    either_asked unit_fields c.args.numbers.now (unit_of_number c.args.commodity) (unit_of_number c.args.commodity) c.args.record_type c.unit_field.ensures (unit) (unit) c.is_either-2.ensures in
    let cancel : is_either (get_or cancel_fields c.args.record_type 0) c.args.numbers.now (written "Y") (written "N") ≡ c.is_either-3.result =
    either_asked cancel_fields c.args.numbers.now (written "Y") (written "N") c.args.record_type c.cancel_field.ensures refl refl c.is_either-3.ensures in
    let exemption : is_either (get_or exemption_fields c.args.record_type 0) c.args.numbers.now (written "Y") (written "N") ≡ c.is_either-4.result =
    either_asked exemption_fields c.args.numbers.now (written "Y") (written "N") c.args.record_type c.exemption_field.ensures refl refl c.is_either-4.ensures in
    sym (last_code _ _ _ (commodity ∙ c.if-not-is_either.false) (units_stand ∙ c.if-not-is_either-2.false) (cancel ∙ c.if-not-is_either-3.false) ∙ exemption)
