-- Answers to the goals of `ledger_tests::first_refusal`: test 8, then those of the cancels, then those of what is to be stored.
-- Assumes nothing.
use mathlib.Core.Path.{refl, sym, ◌∙◌}
use Rattle.buckets.proofs.Laws.{zeros}
use Rattle.std.proofs.lemmas.Result.{on_ok_weaker}
use Rattle.refusals.proofs.Results.{refused, numbered}
use Rattle.file_bills.specs.InsideBills.{file_in}
use Rattle.ledger_tests.proofs.Order.{has_file_is, refused_file, refused_cancels, refused_storage}
use Rattle.ledger_tests.proofs.first_refusal.Goals as goal

pub index_keys-requires-clause-by_index : goal.index_keys-requires-clause-by_index
index_keys-requires-clause-by_index c = zeros 8192

pub returns-then-has_file-clause-value : goal.returns-then-has_file-clause-value
returns-then-has_file-clause-value c =
    let file = file_in c.args.file.now in
    refused_file c.args.places c.args.entries.now file (sym (has_file_is c.args.entries.now file c.args.header c.has_file.result c.requires.header_value.0 c.has_file.ensures) ∙ c.if-has_file.true)
    c.refused.ensures

pub returns-in_err-cancels_refusal-clause-value : goal.returns-in_err-cancels_refusal-clause-value
returns-in_err-cancels_refusal-clause-value c =
    let file = file_in c.args.file.now in
    let is = c.in_err-cancels_refusal.ensures in
    refused c.from_residual.result _ c.from_residual.ensures.1
    (record {
      first =
          refused_cancels c.args.places c.args.entries.now file
          (sym (has_file_is c.args.entries.now file c.args.header c.has_file.result c.requires.header_value.0 c.has_file.ensures) ∙ c.if-has_file.false)
          is.value is.numbered;
    })

pub returns-in_err-cancels_refusal-clause-numbered : goal.returns-in_err-cancels_refusal-clause-numbered
returns-in_err-cancels_refusal-clause-numbered c = numbered c.from_residual.result _ c.from_residual.ensures.1 c.in_err-cancels_refusal.ensures.numbered

pub returns-clause-value : goal.returns-clause-value
returns-clause-value c =
    let file = file_in c.args.file.now in
    refused_storage c.args.places c.args.entries.now file
    (sym (has_file_is c.args.entries.now file c.args.header c.has_file.result c.requires.header_value.0 c.has_file.ensures) ∙ c.if-has_file.false)
    c.in_ok-cancels_refusal.ensures.value refl c.storage_refusal.ensures.value

pub returns-clause-named : goal.returns-clause-named
returns-clause-named c = on_ok_weaker c.storage_refusal.result (λ room. (c.in_ok-cancels_refusal.ensures.named, room)) c.storage_refusal.ensures.n_bound
