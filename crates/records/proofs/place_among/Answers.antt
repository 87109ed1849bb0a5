-- `place_among` meets its contract: field k stands at the place after k - 1 others, and there is none at 0 or past the count.
-- Assumes nothing.
use Rattle.records.proofs.Laws.{number_none, number_there}
use mathlib.Core.Logic.{inl, inr}
use mathlib.Core.Path.{sym}
use Rattle.records.proofs.place_among.Goals as goal

pub returns-then-k-eq0 : goal.returns-then-k-eq0
returns-then-k-eq0 c =
    (sym (number_none c.args.count c.args.starts.now c.args.k (inl c.if-k-eq0.true)), sym (number_none c.args.count c.args.ends.now c.args.k (inl c.if-k-eq0.true)))

pub returns-then-count-k : goal.returns-then-count-k
returns-then-count-k c =
    (sym (number_none c.args.count c.args.starts.now c.args.k (inr c.if-count-k.true)), sym (number_none c.args.count c.args.ends.now c.args.k (inr c.if-count-k.true)))

pub returns : goal.returns
returns c =
    (sym (number_there c.args.count c.args.starts.now c.args.k c.if-k-eq0.false c.if-count-k.false), sym (number_there c.args.count c.args.ends.now c.args.k c.if-k-eq0.false c.if-count-k.false))
