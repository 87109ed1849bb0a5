-- `used_entries::first_overlap` meets its contract: the chains that its walk reads, and the test that it asks.
-- Assumes nothing.
use Rattle.used_entries.specs.InsideSited.{overlaps_entry}
use Rattle.used_entries.proofs.first_overlap.Given as goal

abbrev pub ghost-first_in_chain : goal.ghost-first_in_chain
ghost-first_in_chain a = ((λ e. e.site), (λ e. overlaps_entry a.is_wanted.0 e))
