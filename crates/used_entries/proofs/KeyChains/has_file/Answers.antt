-- Answers to the goals of `used_entries::KeyChains::has_file`: some entry is such a one where the first place of one is below the used count.
-- Assumes nothing.
use Rattle.used_entries.proofs.Sites.{some_any}
use Rattle.used_entries.proofs.KeyChains.has_file.Goals as goal

pub returns : goal.returns
returns c = some_any _ _ _ c.first_in_chain-first.ensures
