-- Answers to the goals of `used_entries::KeyChains::is_stored`: some entry is such a one where the first place of one is below the used count.
-- Assumes nothing.
use Rattle.booking.specs.Booking.{is_stored}
use Rattle.used_entries.proofs.Sites.{some_any}
use Rattle.used_entries.proofs.KeyChains.is_stored.Goals as goal

pub returns : goal.returns
unfolding is_stored
returns c = some_any _ _ _ c.first_in_chain-first.ensures
