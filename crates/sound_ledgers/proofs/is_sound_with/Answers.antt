-- `sound_ledgers::is_sound_with` meets its contract: what the passes show makes the ledger sound, and where one of them fails it is not.
-- Assumes nothing.
use Rattle.std.proofs.Common.{length, arith, refl}
use Rattle.sound_ledgers.proofs.Keys.{keys_of, key_twice}
use Rattle.sound_ledgers.proofs.Gathered.{live_apart, live_meeting}
use Rattle.sound_ledgers.proofs.Laws.{shown_sound}
use Rattle.sound_ledgers.proofs.is_sound_with.Goals as goal

pub returns-then-first_repeated-entries-clause-unsound : goal.returns-then-first_repeated-entries-clause-unsound
returns-then-first_repeated-entries-clause-unsound g c = λ _.
    key_twice c.args.entries.now _ (omega arith) c.in-Some.ensures.0 c.first_repeated.ensures.value c.if-first_repeated-entries.true

pub pair_off-requires-clause-keyed : goal.pair_off-requires-clause-keyed
pair_off-requires-clause-keyed g c =
    keys_of c.args.entries.now _ (omega arith) c.in-Some.ensures.0 c.first_repeated.ensures.value c.if-first_repeated-entries.false

pub returns-clause-sound : goal.returns-clause-sound
returns-clause-sound g c = λ e.
    let es = c.args.entries.now in
    let copied = c.in-Some.ensures in
    let keys = keys_of es _ (omega arith) copied.0 c.first_repeated.ensures.value c.if-first_repeated-entries.false in
    shown_sound es _ (omega (arith, c.requires.few)) keys (c.if-not-pair_off.ensures.paired_off refl)
    (live_apart es (length es) _ _ _ copied.2 (c.all_apart.ensures.apart e))

pub returns-clause-unsound : goal.returns-clause-unsound
returns-clause-unsound g c = λ e.
    let es = c.args.entries.now in
    let copied = c.in-Some.ensures in
    live_meeting es (length es) _ _ _ copied.2 copied.0.fit (c.all_apart.ensures.meeting e)
