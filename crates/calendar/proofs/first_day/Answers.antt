-- `calendar::first_day` meets its contract: an entry of the table is the rule's day.
-- Assumes nothing.
use Rattle.std.proofs.Common.{◌≤◌, ℕ, List, get_or, sym, ◌∙◌, ap, subst}
use Rattle.calendar.proofs.Days.{rule, bound}
use Rattle.calendar.proofs.first_day.Goals as goal

pub returns : goal.returns
returns c =
    let same = ap (λ (l : List ℕ). get_or l c.args.month 0) c.first_days.ensures ∙ rule c.args.month c.requires in
    (same, subst (λ (d : ℕ). d ≤ 36494) (sym same) (bound c.args.month c.requires))
