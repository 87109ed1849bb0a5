-- `still_filled` meets its contract, by whether the field is empty.
-- Assumes nothing.
use Rattle.line_reader.proofs.Filled.{flag_empty, flag_some}
use mathlib.Core.Path.{refl}
use Rattle.line_reader.proofs.still_filled.Goals as goal

pub returns-then-len-eq0 : goal.returns-then-len-eq0
returns-then-len-eq0 c = flag_empty _ _ c.args.len c.if-len-eq0.true refl

pub returns : goal.returns
returns c = flag_some _ _ c.args.len c.if-len-eq0.false refl
