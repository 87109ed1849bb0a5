-- `used_entries::index_keys` meets its contract: what its chains are made by.
-- Assumes nothing.
use Rattle.sound_ledgers.specs.InsideKeys.{key_of}
use Rattle.used_entries.proofs.index_keys.Given as goal

abbrev pub ghost-index : goal.ghost-index
ghost-index a = λ e. key_of e.sender e.id
