-- `book::book_bills` meets its contract: the tests that read the ledger, and then the entries.
-- Assumes nothing.
use mathlib.Core.Path.{ap}
use Rattle.buckets.proofs.Laws.{zeros}
use lib.ListN.{length}
use Rattle.std.proofs.lemmas.Result.{err_from_is_err_and}
use Rattle.refusals.specs.declared.Outcome.{Outcome}
use Rattle.booking.specs.Booking.{input_of}
use Rattle.book.proofs.Answers.{refuses, accepts}
use Rattle.book.proofs.Refusing.{refused_ledger}
use Rattle.book.proofs.book_bills.Goals as goal

pub returns-in_err-first_refusal : goal.returns-in_err-first_refusal
returns-in_err-first_refusal c = λ retailer distributors t.
    let input = input_of retailer distributors c.args.file.now c.args.run.now c.args.used in
    let p = err_from_is_err_and c.from_residual.result c.from_residual.ensures.1 in
    let e = c.in_err-first_refusal.ensures in
    rw (p.1, p.2) (refuses input (refused_ledger input t e.value) e.numbered)

pub write_entries-written-requires-clause-by_index : goal.write_entries-written-requires-clause-by_index
write_entries-written-requires-clause-by_index c = (zeros 8192, c.requires.header_value.0)

pub returns : goal.returns
returns c = λ retailer distributors t.
    let input = input_of retailer distributors c.args.file.now c.args.run.now c.args.used in
    let written = c.write_entries-written in
    accepts input (length c.args.bills.now) written.result.used written.result.held c.accepted.result _ c.accepted.ensures
    (ap (λ (o : Outcome). o.number) (refused_ledger input t c.in_ok-first_refusal.ensures.value))
    c.requires.sizes.1 c.requires.header_value.1.source.count written.ensures.used_value written.ensures.fact written.ensures.held_value
