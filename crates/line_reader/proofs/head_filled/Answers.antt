-- `head_filled` meets its contract: the two lengths are asked one after the other.
-- Assumes nothing.
use borrow.Author.Tests.{eq-eqb, ne_eqb}
use Rattle.line_reader.specs.InsideLineReader.{head_filled}
use Rattle.line_reader.proofs.head_filled.Goals as goal

pub returns-then-id_len-eq0 : goal.returns-then-id_len-eq0
unfolding head_filled
returns-then-id_len-eq0 c = simp (eq-eqb _ _ c.if-id_len-eq0.true)

pub returns-then-record_type-eq-FH : goal.returns-then-record_type-eq-FH
unfolding head_filled
returns-then-record_type-eq-FH c = simp (ne_eqb _ _ c.if-id_len-eq0.false, eq-eqb _ _ c.if-record_type-eq-FH.true)

pub returns : goal.returns
unfolding head_filled
returns c = simp (ne_eqb _ _ c.if-id_len-eq0.false, ne_eqb _ _ c.if-record_type-eq-FH.false)
