-- `is_unformatted` meets its contract: each answer rewrites with the tests that led there.
-- Assumes nothing.
use Rattle.format.specs.Format.{unformatted}
use borrow.Author.Tests.{le-leb, lt-leb}
use mathlib.Core.Path.{sym, ◌∙◌}
use Rattle.format.proofs.is_unformatted.Goals as goal

pub returns-then-has_unprintable : goal.returns-then-has_unprintable
unfolding unformatted
returns-then-has_unprintable c = simp (sym c.has_unprintable.ensures ∙ c.if-has_unprintable.true)

pub returns-then-record_type-ge9 : goal.returns-then-record_type-ge9
unfolding unformatted
returns-then-record_type-ge9 c = simp (sym c.has_unprintable.ensures ∙ c.if-has_unprintable.false, ← c.record_at-r.ensures.type, le-leb _ _ c.if-record_type-ge9.true)

pub returns : goal.returns
unfolding unformatted
returns c =
    simp (
      sym c.has_unprintable.ensures ∙ c.if-has_unprintable.false,
      ← c.record_at-r.ensures.type,
      lt-leb _ _ c.if-record_type-ge9.false,
      ← c.record_at-r.ensures.placed.count,
      c.field_count.ensures,
    )
