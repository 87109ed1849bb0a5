-- `headers::is_among` meets its contract: `any` finds the group that is the sender among the whole groups of four bytes.
-- Assumes nothing.
use Rattle.std.proofs.Common.{◌≡◌, ◌/◌, ◌*◌, take, drop, rules, tests, length}
use Rattle.std.specs.Slice.Iter.{chunks_exact_size, chunks_exact_rest}
use mathlib.Core.Path.{ap, ◌∙◌}
use native.Mathlib.Omega.{arith}
use Rattle.lists.specs.Below.{some_below}
use Rattle.digits.specs.Digits.{fixed_digits_of}
use Rattle.headers.specs.Headers.{is_value}
use Rattle.headers.proofs.Laws.{value_equal}
use Rattle.headers.proofs.Chunks.{chunk_some}
use Rattle.headers.proofs.is_among.Goals as goal

pub returns : goal.returns
returns c =
    let run = c.any.ensures.runs in
    let four : chunks_exact_size run.0.from ≡ 4 = ap chunks_exact_size run.1 ∙ c.chunks_exact.ensures.size in
    let whole : chunks_exact_rest run.0.from ≡ c.args.distributors.now = ap chunks_exact_rest run.1 ∙ c.chunks_exact.ensures.rest in
    let read = c.chunks_exact.ensures.runs run.0 run.0.seen (omega (arith, four)) in
    let found = chunk_some _ _ (λ x. is_value c.args.sender (fixed_digits_of 4 x)) run.0 (chunks_exact_size run.0.from) (chunks_exact_rest run.0.from) (omega (arith, four)) read (λ a r q k. search (rules, tests)) (λ x b k. search (value_equal, rules, tests)) c.any.result run.2 in
    found ∙ (λ t. some_below (λ g. is_value c.args.sender (fixed_digits_of 4 (take (four t) (drop (four t * g) (whole t))))) (length (whole t) / four t))
