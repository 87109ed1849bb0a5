-- `used_entries::index_sites` meets its contract: what its chains are made by.
-- Assumes nothing.
use Rattle.used_entries.proofs.index_sites.Given as goal

abbrev pub ghost-index : goal.ghost-index
ghost-index a = λ e. e.site
