-- `disputes::asked` meets its contract: 104, 105, 3 and 108 in their order, then the dispute that is made of what was read.
-- Assumes nothing.
use Rattle.std.specs.Prelude.{Result}
use Rattle.std.proofs.lemmas.Result.{err_from_is_err_and}
use mathlib.Core.Path.{◌≡◌, sym, ◌∙◌, ap, subst}
use lib.Dec.{eqb}
use Prim.Native.Nat.{ℕ}
use Rattle.entries.specs.declared.Entry.{Entry}
use Rattle.ledger.specs.declared.Refusal.{Refusal}
use Rattle.refusals.specs.Refusals.{outcome}
use Rattle.disputes.specs.declared.Refusal.{Refusal as Refused}
use Rattle.disputes.specs.InsideHeldEntry.{number_of, refusal_of, found_of}
use Rattle.disputes.specs.Disputes.{supplied, some_unfit}
use Rattle.disputes.proofs.SuppliedFields.{Passed, ids_passed}
use Rattle.disputes.proofs.Answers.{refused_held, dispute_made, first_104, first_105, first_3, first_108}
use Rattle.disputes.proofs.asked.Goals as goal

pub returns-then-not-settings_fit : goal.returns-then-not-settings_fit
returns-then-not-settings_fit c =
    λ out. first_104 (supplied c.args.retailer c.args.distributors.now c.args.transaction.now c.args.created.now c.args.file.now) (found_of c.args.found) out
    (sym c.settings_fit.ensures ∙ c.if-not-settings_fit.true)

pub returns-then-is_unsound : goal.returns-then-is_unsound
returns-then-is_unsound c =
    λ out. first_105 (supplied c.args.retailer c.args.distributors.now c.args.transaction.now c.args.created.now c.args.file.now) (found_of c.args.found) out
    (sym c.settings_fit.ensures ∙ c.if-not-settings_fit.false) (sym c.is_unsound.ensures ∙ c.if-is_unsound.true)

pub returns-in_err-ids : goal.returns-in_err-ids
unfolding some_unfit
returns-in_err-ids c =
    let p = err_from_is_err_and c.from_residual.result c.from_residual.ensures.1 in
    let ids = ids_passed c.args.transaction.now c.args.created.now c.args.file.now c.ids_of.result c.ids_of.ensures in
    let read = subst (Passed c.args.transaction.now c.args.created.now c.args.file.now) (sym c.ok_or.ensures.value ∙ c.in_err-ids.was) ids in
    rw (p.1, p.2, read.1)
    (λ out. first_3 (supplied c.args.retailer c.args.distributors.now c.args.transaction.now c.args.created.now c.args.file.now) (found_of c.args.found) out
    (sym c.settings_fit.ensures ∙ c.if-not-settings_fit.false) (sym c.is_unsound.ensures ∙ c.if-is_unsound.false) read.0)

pub returns-in_err-entry : goal.returns-in_err-entry
unfolding some_unfit
returns-in_err-entry c =
    let p = err_from_is_err_and c.from_residual-in_err-entry.result c.from_residual-in_err-entry.ensures.1 in
    let ids = ids_passed c.args.transaction.now c.args.created.now c.args.file.now c.ids_of.result c.ids_of.ensures in
    let read = subst (Passed c.args.transaction.now c.args.created.now c.args.file.now) (sym c.ok_or.ensures.value ∙ c.in_ok-ids.was) ids in
    let number : (found_of c.args.found).number ≡ number_of (refusal_of c.in_err-entry.field-0.0) = ap (λ (f : Result Entry Refusal). (found_of f).number) c.in_err-entry.was in
    let none = refused_held c.in_err-entry.field-0.0 (ap (λ (n : ℕ). eqb n 105) (sym number) ∙ sym c.is_unsound.ensures ∙ c.if-is_unsound.false) in
    rw (p.1, p.2)
    (λ out. first_108 (supplied c.args.retailer c.args.distributors.now c.args.transaction.now c.args.created.now c.args.file.now) (found_of c.args.found) out
    (sym c.settings_fit.ensures ∙ c.if-not-settings_fit.false) (sym c.is_unsound.ensures ∙ c.if-is_unsound.false) read.fits
    (number ∙ ap number_of none)
    ∙ ap (λ (e : Refused). outcome (number_of e) 0) (sym none))

pub returns : goal.returns
unfolding some_unfit
returns c =
    let ids = ids_passed c.args.transaction.now c.args.created.now c.args.file.now c.ids_of.result c.ids_of.ensures in
    let read = subst (Passed c.args.transaction.now c.args.created.now c.args.file.now) (sym c.ok_or.ensures.value ∙ c.in_ok-ids.was) ids in
    record {
      settings = sym c.settings_fit.ensures ∙ c.if-not-settings_fit.false;
      fields = read.fits;
      held = ap (λ (f : Result Entry Refusal). (found_of f).number) c.in_ok-entry.was;
      moment = read.moment;
      same =
          dispute_made (supplied c.args.retailer c.args.distributors.now c.args.transaction.now c.args.created.now c.args.file.now) c.in_ok-entry.entry _ _ _
          (ap (λ (f : Result Entry Refusal). (found_of f).entry) c.in_ok-entry.was) read.first read.second;
    }
