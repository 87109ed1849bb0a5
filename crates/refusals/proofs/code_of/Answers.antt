-- `refusals::code_of` meets its contract: the table of the code computes to the entries that the definition gives the numbers 0 to 40,
-- and a number above 40 has no code.
-- Assumes nothing.
use native.Mathlib.Omega.{arith}
use mathlib.Core.Path.{sym}
use Rattle.lists.specs.InsideTabulate.{tabulate}
use Rattle.refusals.specs.Codes.{code_in, code_of}
use Rattle.refusals.proofs.RejectionCodes.{code_table, code_above, codes_zero, codes_some}
use Rattle.refusals.proofs.code_of.Goals as goal

pub returns-then-test-gt40 : goal.returns-then-test-gt40
returns-then-test-gt40 c = sym (code_above _ c.if-test-gt40.true)

pub returns-then-code-eq0 : goal.returns-then-code-eq0
unfolding tabulate code_in code_of code_table
returns-then-code-eq0 c = codes_zero c.args.test (omega arith) c.if-code-eq0.true

pub returns : goal.returns
unfolding tabulate code_in code_of code_table
returns c = codes_some c.args.test (omega arith) c.if-code-eq0.false
