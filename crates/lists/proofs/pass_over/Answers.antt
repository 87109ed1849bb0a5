-- `lists::pass_over` meets its contract. The loop's invariant: no byte passed so far is the one that is looked for.
-- Assumes nothing.
use Rattle.std.proofs.Common.{◌≡◌, ◌+◌, ◌*◌, ◌≤◌, ℕ, length, sym, ◌∙◌, ap, subst, arith}
use Rattle.std.proofs.Math.Nat.{le-div_iff_mul-le}
use Rattle.lists.specs.First.{is_byte}
use Rattle.lists.proofs.First.{Passed, passed_over}
use Rattle.lists.proofs.Parts.{part_length, part_at}
use Rattle.lists.proofs.pass_over.Goals as goal

pub loop-k-preserved : goal.loop-k-preserved
loop-k-preserved c =
    let a = c.args in
    let s = a.s.now in
    let k = c.loop-k.k in
    let start = k * a.width in
    let ends : (k + 1) * a.width ≤ length s = (le-div_iff_mul-le c.requires).0 (omega arith) in
    let within : start + a.width ≤ length s = omega (arith, ends) in
    let next : start + a.width ≡ (k + 1) * a.width = omega arith in
    subst (λ (i : ℕ). Passed (is_byte a.b) s i) next
    (passed_over (is_byte a.b) s 0 start a.width within c.loop-k.invariant
    (λ j h. ap (is_byte a.b) (sym (part_at s start (start + a.width) j 0 (omega arith))) ∙ c.block_has.ensures c.if-block_has.false j (omega (arith, part_length s start (start + a.width) within))))
