-- `intake::intake_dispute` meets its contract: a dispute of what is found at a place is the dispute of that place.
-- Of `held_entry` and `dispute` the proof knows only that they meet their contracts.
-- Assumes nothing.
use Rattle.disputes.proofs.Found.{dispute_answered}
use Rattle.intake.proofs.intake_dispute.Goals as goal

pub returns : goal.returns
returns c = dispute_answered _ _ _ _ _ c.held_entry-found.result c.held_entry-found.ensures _ _ c.dispute.ensures
