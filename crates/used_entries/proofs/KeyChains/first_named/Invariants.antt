-- `used_entries::KeyChains::first_named` meets its contract: the chains that its search reads, and the test that it asks.
-- Assumes nothing.
use Rattle.std.proofs.Common.{◌&&◌, eqb}
use Rattle.soundness.specs.Sound.{same_subject}
use Rattle.booking.specs.Booking.{is_live_or_held}
use Rattle.sound_ledgers.specs.InsideKeys.{key_of}
use Rattle.used_entries.proofs.KeyChains.first_named.Given as goal

abbrev pub ghost-first_in_chain : goal.ghost-first_in_chain
ghost-first_in_chain a = ((λ e. key_of e.sender e.id), (λ e. is_live_or_held e && eqb a.is_wanted.0.now e.id && same_subject a.is_wanted.1.now e))
