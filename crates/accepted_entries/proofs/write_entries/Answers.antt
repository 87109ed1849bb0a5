-- `accepted_entries::write_entries` meets its contract: the file entry, the cancels, the chains, the originals.
-- Assumes nothing.
use mathlib.Core.Path.{sym, ap, ◌∙◌}
use native.Mathlib.Omega.{arith}
use lib.ListN.{length, set, length-set}
use lib.Seq.{length-take-le}
use Rattle.entries.specs.declared.Entry.{Entry}
use Rattle.file_bills.specs.InsideBills.{file_in}
use Rattle.accepted_entries.proofs.Assembled.{assembled, originals_fit}
use Rattle.accepted_entries.proofs.Runs.{chain_room_same}
use Rattle.accepted_entries.proofs.write_entries.Goals as goal

pub slice_bounds-index_sites-end : goal.slice_bounds-index_sites-end
slice_bounds-index_sites-end c = omega (arith, originals_fit (file_in c.args.file.now) c.args.used _ _ c.args.run.now _ _ _ c.requires.source.0.count c.write_cancels-at.ensures.value c.requires.room_for.1 c.write_cancels-at.auto.run)

pub slice_bounds-index_sites-end-2 : goal.slice_bounds-index_sites-end-2
slice_bounds-index_sites-end-2 c = sym (length-take-le c.write_cancels-at.result c.write_cancels-at.new.run (slice_bounds-index_sites-end c))

pub write_originals-requires-clause-room_for : goal.write_originals-requires-clause-room_for
write_originals-requires-clause-room_for c = (
  chain_room_same (c.write_cancels-at.auto.run ∙ length-set c.args.run.now _ _) c.index_sites.auto.heads c.index_sites.auto.links c.requires.room_for.0,
  originals_fit (file_in c.args.file.now) c.args.used _ _ c.args.run.now _ _ _ c.requires.source.0.count c.write_cancels-at.ensures.value c.requires.room_for.1 c.write_cancels-at.auto.run,
)

pub returns : goal.returns
returns c =
    let file = file_in c.args.file.now in
    let all = assembled file (length c.args.bills.now) c.args.used c.write_cancels-at.result c.write_originals.result.used c.write_originals.result.held c.args.run.now _ _ _
    c.requires.source.0.count c.requires.room_for.1 (ap (λ (e : Entry). set c.args.run.now c.args.used e) c.requires.by_index.1)
    c.write_cancels-at.ensures.fact c.write_cancels-at.ensures.value c.write_originals.ensures.fact c.write_originals.ensures.used_value (c.write_cancels-at.auto.run ∙ length-set c.args.run.now _ _) c.write_originals.ensures.held_value in
    record { used_value = all.0; fact = all.1.0; held_value = all.1.1 }
