-- `readings::read_field` meets its contract: each arm reads the type that the code stands for.
-- Assumes nothing.
use Rattle.tables.specs.InsideCodes.{type_of_code}
use Rattle.std.proofs.Common.{◌-◌, ◌/◌, ◌%◌, leb, inl, inr, ⊎_elim, ne_eqb, leb-true}
use Rattle.digits.proofs.Laws.{both_true}
use Rattle.readings.specs.InsideReadings.{is_narrow}
use Rattle.readings.proofs.read_field.Goals as goal

pub read_number-requires : goal.read_number-requires
unfolding is_narrow type_of_code
read_number-requires c =
    let narrow = both_true (leb (c.args.code / 256 % 256 - c.args.code % 256) 15) (leb (c.args.code % 256) 15) (rw c.in-2.is at c.requires) in
    (leb-true _ 15 narrow.0, leb-true _ 15 narrow.1)

pub read_char-requires : goal.read_char-requires
unfolding is_narrow type_of_code
read_char-requires c =
    leb-true (c.args.code / 256 % 256) 4 (rw c.in-5.is at c.requires)

pub returns-in-1 : goal.returns-in-1
unfolding type_of_code
returns-in-1 c = ⊎_elim (λ kind. rw kind (rw kind at c.read_fixed.ensures)) (λ kind. rw kind (rw kind at c.read_fixed.ensures)) c.in-1.is

pub returns-in-2 : goal.returns-in-2
unfolding type_of_code
returns-in-2 c = rw c.in-2.is c.read_number.ensures

pub returns-in-4 : goal.returns-in-4
unfolding type_of_code
returns-in-4 c = rw c.in-4.is c.read_date_time.ensures

pub returns-in-5 : goal.returns-in-5
unfolding type_of_code
returns-in-5 c = rw c.in-5.is c.read_char.ensures

pub returns-in-6 : goal.returns-in-6
unfolding type_of_code
returns-in-6 c = rw c.in-6.is c.read_varchar.ensures

pub returns-in_default : goal.returns-in_default
unfolding type_of_code
returns-in_default c =
    let kind = c.args.code / 65536 in
    rw (
      ne_eqb kind 1 (λ e. c.in_default.in_default-own.rest.0.0.0.0.1 (inl e)),
      ne_eqb kind 2 c.in_default.in_default-own.rest.0.0.0.1,
      ne_eqb kind 3 (λ e. c.in_default.in_default-own.rest.0.0.0.0.1 (inr e)),
      ne_eqb kind 4 c.in_default.in_default-own.rest.0.0.1,
      ne_eqb kind 5 c.in_default.in_default-own.rest.0.1,
      ne_eqb kind 6 c.in_default.in_default-own.rest.1,
    ) c.read_id.ensures
