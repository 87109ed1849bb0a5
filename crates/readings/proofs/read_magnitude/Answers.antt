-- `readings::read_magnitude` meets its contract: the digits at the start are the whole part, and `read_places` reads the rest.
-- Assumes nothing.
use Rattle.std.proofs.Common.{arith}
use Rattle.readings.proofs.Runs.{run_longest}
use Rattle.readings.proofs.AmountsMissed.{told_not, whole_some, whole_few}
use Rattle.readings.proofs.read_magnitude.Goals as goal

pub returns-then-p-lt1 : goal.returns-then-p-lt1
returns-then-p-lt1 c =
    let run = c.leading_digits-run.result in
    let all = c.leading_digits-run.ensures in
    told_not _ (λ u. omega (arith, whole_some c.args.s.now run.len c.args.whole c.args.scale all.read.inside all.read.digits (run_longest c.args.s.now run all) c.requires.0 u, c.if-p-lt1.true))

pub returns-then-whole-p : goal.returns-then-whole-p
returns-then-whole-p c =
    let run = c.leading_digits-run.result in
    let all = c.leading_digits-run.ensures in
    told_not _ (λ u. omega (arith, whole_few c.args.s.now run.len c.args.whole c.args.scale all.read.inside all.read.digits (run_longest c.args.s.now run all) c.requires.0 u, c.if-whole-p.true))

pub read_places-requires : goal.read_places-requires
read_places-requires c =
    let all = c.leading_digits-run.ensures in (
      record {
        inside = all.read.inside;
        some = omega arith;
        few = omega arith;
        digits = all.read.digits;
        value = all.read.value;
        longest = run_longest c.args.s.now c.leading_digits-run.result all;
      },
      c.requires.0,
      c.requires.1,
    )
