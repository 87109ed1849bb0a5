-- `readings::scaled` meets its contract: where the digits are at most 15, the two products and their sum are below a power of ten, so none wraps.
-- Assumes nothing.
use Rattle.std.proofs.Common.{◌+◌, ◌*◌, ◌^◌, ◌<◌, arith}
use Rattle.amounts.proofs.Powers.{shift, join, whole_alone}
use Rattle.digits.proofs.Laws.{ten_room}
use Rattle.readings.proofs.scaled.Goals as goal

pub overflow_mul-result : goal.overflow_mul-result
overflow_mul-result c =
    rw c.ten_to.ensures (omega (arith, ten_room (c.args.whole + c.args.scale) (whole_alone c.args.w c.args.whole c.args.scale c.requires.0) (omega arith)))

pub overflow_mul-result-2 : goal.overflow_mul-result-2
overflow_mul-result-2 c =
    let moved : c.args.f * c.ten_to-2.result < 10 ^ c.args.scale =
    rw c.ten_to-2.ensures (shift c.args.f c.args.q c.args.scale c.requires.1 c.requires.2) in
    let total : c.args.w * c.ten_to.result + c.args.f * c.ten_to-2.result < 10 ^ 15 =
    rw c.ten_to.ensures (ten_room (c.args.whole + c.args.scale) (join c.args.w c.args.whole c.args.scale _ c.requires.0 (moved)) (omega arith)) in
    omega (arith, total)

pub overflow_add-result : goal.overflow_add-result
overflow_add-result c =
    let moved : c.args.f * c.ten_to-2.result < 10 ^ c.args.scale =
    rw c.ten_to-2.ensures (shift c.args.f c.args.q c.args.scale c.requires.1 c.requires.2) in
    let total : c.args.w * c.ten_to.result + c.args.f * c.ten_to-2.result < 10 ^ 15 =
    rw c.ten_to.ensures (ten_room (c.args.whole + c.args.scale) (join c.args.w c.args.whole c.args.scale _ c.requires.0 (moved)) (omega arith)) in
    omega (arith, total)

pub returns : goal.returns
returns c =
    let moved : c.args.f * c.ten_to-2.result < 10 ^ c.args.scale =
    rw c.ten_to-2.ensures (shift c.args.f c.args.q c.args.scale c.requires.1 c.requires.2) in
    let total : c.args.w * c.ten_to.result + c.args.f * c.ten_to-2.result < 10 ^ 15 =
    rw c.ten_to.ensures (ten_room (c.args.whole + c.args.scale) (join c.args.w c.args.whole c.args.scale _ c.requires.0 (moved)) (omega arith)) in
    (λ h. rw (c.ten_to.ensures, c.ten_to-2.ensures), total)
