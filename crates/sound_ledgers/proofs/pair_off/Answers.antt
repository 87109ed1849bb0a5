-- `sound_ledgers::pair_off` meets its contract.
-- Assumes nothing.
use Rattle.std.proofs.Common.{sym, ◌∙◌, length, refl}
use Rattle.sound_ledgers.proofs.Pairing.{paired_off, unmarked}
use Rattle.sound_ledgers.proofs.pair_off.Goals as goal

pub returns-clause-paired_off : goal.returns-clause-paired_off
returns-clause-paired_off c = λ e.
    let es = c.args.entries.now in
    paired_off es (length es) _ c.requires.keyed.differ (c.if-not-mark_cancelled.ensures.marked refl)
    (λ j h cancelled. c.all_marked.ensures.with_marks e j h (c.requires.copied.0 j h ∙ cancelled))

pub returns-clause-unsound : goal.returns-clause-unsound
returns-clause-unsound c = λ e.
    let es = c.args.entries.now in
    unmarked es (length es) c.requires.keyed.differ _ (c.if-not-mark_cancelled.ensures.marked refl)
    (λ all. c.all_marked.ensures.missing e (λ j h cancelled. all j h (sym (c.requires.copied.0 j h) ∙ cancelled)))
