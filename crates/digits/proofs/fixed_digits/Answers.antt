-- `digits::fixed_digits` meets its contract: another number of bytes is none, and the rest is `digits`.
-- Assumes nothing.
use borrow.Author.Tests.{eq-eqb, ne_eqb}
use Rattle.digits.specs.Digits.{fixed_digits_of}
use Rattle.digits.proofs.fixed_digits.Goals as goal

pub returns-then-s-n : goal.returns-then-s-n
unfolding fixed_digits_of
returns-then-s-n c = simp (ne_eqb _ _ c.if-s-n.true)

pub returns : goal.returns
unfolding fixed_digits_of
returns c = simp (eq-eqb _ _ c.if-s-n.false, ← c.digits.ensures)
