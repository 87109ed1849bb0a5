-- `sound_ledgers::copy_entries` meets its contract. The loop's invariant: the entries passed fit, their keys and states are in the columns, and their live periods are gathered.
-- Assumes nothing.
use Rattle.std.proofs.Common.{sym, subst, ℕ, ◌+◌, set, arith}
use borrow.Author.Count.{below_none}
use Rattle.lists.proofs.Column.{copied_more}
use Rattle.apart.proofs.Gathering.{gathering_none}
use Rattle.entries.specs.Entries.{entry_of}
use Rattle.soundness.specs.Meaning.{EntryFits}
use Rattle.soundness.proofs.Meaning.{entry_means}
use Rattle.sound_ledgers.proofs.Gathered.{gathered_more}
use Rattle.sound_ledgers.specs.InsideLivePeriods.{live_at, first_day, last_day}
use Rattle.sound_ledgers.specs.InsideKeys.{Keyed, state_at}
use Rattle.sound_ledgers.proofs.Keys.{keyed_none, keyed_more, misfit}
use Rattle.sound_ledgers.proofs.copy_entries.Goals as goal

pub loop-i-init : goal.loop-i-init
loop-i-init c =
    let es = c.args.entries.now in
    (keyed_none es c.args.keys.now, below_none _, gathering_none (live_at es) (first_day es) (last_day es) c.args.firsts.now c.args.lasts.now)

pub returns-then-not-entry_fits : goal.returns-then-not-entry_fits
returns-then-not-entry_fits c = misfit c.args.entries.now _ c.loop-i.i c.loop-i-test.true (sym c.if-not-entry_fits.ensures)

pub overflow_cast-states : goal.overflow_cast-states
overflow_cast-states c =
    let fits = (entry_means (entry_of c.args.entries.now c.loop-i.i)).0 (sym c.if-not-entry_fits.ensures) in
    record { fits = omega (arith, fits.state) }

pub loop-i-preserved : goal.loop-i-preserved
loop-i-preserved c =
    let es = c.args.entries.now in
    let fits : EntryFits (entry_of es c.loop-i.i) = (entry_means (entry_of es c.loop-i.i)).0 (sym c.if-not-entry_fits.ensures) in
    let gathered = c.loop-i.invariant.2 in
    let within = c.loop-i.auto in (
      subst (λ (k : ℕ). Keyed es (c.loop-i.i + 1) (set c.loop-i.keys c.loop-i.i k)) (sym c.key.ensures)
          (keyed_more es c.loop-i.i c.loop-i.keys (omega (arith, c.loop-i-test.true, within.keys, c.requires.keys_in_bounds)) c.loop-i.invariant.0 fits),
      copied_more (state_at es) c.loop-i.i c.loop-i.states (omega (arith, c.loop-i-test.true, within.states, c.requires.keys_in_bounds)) c.loop-i.invariant.1,
      gathered_more es c.loop-i.i gathered
          (omega (arith, c.loop-i-test.true, gathered.few, within.firsts, c.requires.days_in_bounds)) (omega (arith, c.loop-i-test.true, gathered.few, within.lasts, c.requires.days_in_bounds))
          c.gather-live.ensures.firsts_after c.gather-live.ensures.lasts_after c.gather-live.ensures.value,
    )
