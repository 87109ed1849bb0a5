-- `has_unprintable_byte` meets its contract: `any` finds a byte that is not 32 to 126.
-- Assumes nothing.
use Rattle.std.proofs.Common.{◌≡◌, true, false, not, rules, tests}
use Rattle.std.proofs.lemmas.Iterator.{cases_from_any, YieldsList-from_slice}
use Rattle.lists.proofs.Found.{any_some}
use Rattle.format.specs.Format.{is_printable}
use Rattle.format.proofs.has_unprintable_byte.Goals as goal

pub returns : goal.returns
returns c =
    let s = c.args.s.now in
    any_some (λ b. not (is_printable b)) s 0 c.any.result
    (cases_from_any _ _ _ (λ b. not (is_printable b) ≡ true) (λ b. not (is_printable b) ≡ false) c.any.ensures.ran (YieldsList-from_slice s cc) (λ x q k. search (rules, tests)) (λ x q k. search (rules, tests)))
