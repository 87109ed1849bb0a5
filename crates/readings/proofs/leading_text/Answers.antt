-- `readings::leading_text` meets its contract. The loop's invariant: the bytes so far are no commas, and `value` is what they say to the base 256.
-- Assumes nothing.
use Rattle.std.proofs.Common.{ℕ, ◌+◌, ◌*◌, ◌<◌, get_or, sym, ap, ◌∙◌, zero-le, arith, lit<}
use Rattle.readings.proofs.LeadingTexts.{packed_none, packed_more, byte_more}
use Rattle.readings.proofs.Ends.{end_more}
use Rattle.readings.proofs.leading_text.Goals as goal

pub loop-len-init : goal.loop-len-init
loop-len-init c = (omega arith, omega arith, lit< tt, zero-le, sym packed_none)

pub loop-len-preserved : goal.loop-len-preserved
loop-len-preserved c =
    let b : get_or c.args.s.now c.loop-len.len 0 < 256 = omega (arith, c.type_inv.s c.loop-len.len) in (
      omega arith,
      omega arith,
      rw c.from.ensures (byte_more c.loop-len.len c.loop-len.invariant.2 b),
      end_more c.args.s.now c.loop-len.len c.loop-len.invariant.3 (omega arith) c.if-b-eq44.false,
      rw c.from.ensures (ap (λ (v : ℕ). v * 256 + get_or c.args.s.now c.loop-len.len 0) c.loop-len.invariant.4 ∙ sym (packed_more c.args.s.now c.loop-len.len (omega arith))),
    )
