-- `lists::find_far` meets its contract: bytes are passed over twice, and the rest is searched.
-- Assumes nothing.
use mathlib.Core.Path.{◌≡◌}
use Prim.Native.Nat.{◌+◌}
use lib.ListN.{drop}
use Rattle.lists.specs.First.{first_where, is_byte}
use Rattle.lists.proofs.Parts.{part_rest}
use Rattle.lists.proofs.First.{Passed, passed_twice, passed_rest, first_le}
use native.Mathlib.Omega.{arith}
use Rattle.lists.proofs.find_far.Goals as goal

pub overflow_add-result : goal.overflow_add-result
overflow_add-result c =
    let found : c.pass_over-far.result + c.pass_over.result + c.find.result ≡ first_where (is_byte c.args.b) c.args.s.now =
    let a = c.args in
    let f = is_byte a.b in
    let far = c.pass_over-far.result in
    let near = c.pass_over.result in
    let passed : Passed f (drop far a.s.now) near = simp part_rest at c.pass_over.ensures.1 in
    passed_rest f a.s.now (far + near) c.find.result (passed_twice f a.s.now far near c.pass_over-far.ensures.1 passed) (simp part_rest at c.find.ensures) in
    omega (arith, found, first_le (is_byte c.args.b) c.args.s.now)
