-- `used_entries::KeyChains::is_stored` meets its contract: the chains that its search reads, and the test that it asks.
-- Assumes nothing.
use Rattle.std.proofs.Common.{◌&&◌, eqb}
use Rattle.sound_ledgers.specs.InsideKeys.{key_of}
use Rattle.used_entries.proofs.KeyChains.is_stored.Given as goal

abbrev pub ghost-first_in_chain : goal.ghost-first_in_chain
ghost-first_in_chain a = ((λ e. key_of e.sender e.id), (λ e. eqb e.sender a.is_wanted.0.now && eqb e.id a.is_wanted.1.now))
