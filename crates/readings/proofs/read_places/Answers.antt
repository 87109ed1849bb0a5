-- `readings::read_places` meets its contract: the digits before the point end the field, or a point and the digits after it do.
-- Assumes nothing.
use Rattle.std.proofs.Common.{◌≡◌, ℕ, List, ◌+◌, ◌<◌, ◌≤◌, true, length, get_or, drop, refl, sym, ◌∙◌, subst, arith}
use Rattle.readings.specs.declared.Run.{Run}
use Rattle.readings.specs.InsideLeadingBytes.{field_end, leading_field, Ends, AllRead}
use Rattle.readings.specs.InsideAmountReadings.{WholeRead}
use Rattle.amounts.specs.Amounts.{is_unsigned}
use Rattle.lists.proofs.Parts.{part_rest}
use Rattle.readings.proofs.Ends.{end_ends, next_ends, next_inside, next_is}
use Rattle.readings.proofs.Magnitudes.{whole_below, whole_read, places_below, places_read}
use Rattle.readings.proofs.AmountsMissed.{told_not, whole_next, places_are}
use Rattle.readings.proofs.read_places.Goals as goal

-- a byte after the whole part that is no comma
other : (s : List ℕ) (p next : ℕ) → next ≡ get_or s p 44 → (next ≡ 44 → ⊥) → get_or s p 44 ≡ 44 → ⊥
other s p next e unlike z = unlike (e ∙ z)

-- there the point stands
dot : (s : List ℕ) (p next : ℕ) → next ≡ get_or s p 44 → (next ≡ 44 → ⊥) → next ≡ 46 → (p < length s) × (get_or s p 0 ≡ 46)
dot s p next e unlike point = let o = other s p next e unlike in (next_inside s p o, next_is s p o ∙ sym e ∙ point)

-- the digits after it
module _ (s : List ℕ) (w p whole scale next : ℕ) (r : Run) (read : WholeRead s w p whole) (few : whole ≤ 15) (small : scale ≤ 15)
    (e : next ≡ get_or s p 44) (unlike : next ≡ 44 → ⊥) (point : next ≡ 46) (after : AllRead (drop (p + 1) s) r) where
  found : is_unsigned whole scale (leading_field s) ≡ true → (1 ≤ r.len) × (r.len ≤ scale) × (p + 1 + r.len ≡ field_end s)
  found u = let at = dot s p next e unlike point in places_are s p whole scale read.inside read.digits read.longest few u r at.0 at.1 after small

pub scaled-requires : goal.scaled-requires
scaled-requires c = (whole_below _ _ _ _ c.requires.0, omega arith, omega arith)

pub returns-then-next-eq44 : goal.returns-then-next-eq44
returns-then-next-eq44 c =
    whole_read c.args.s.now c.args.w c.args.p c.args.whole c.requires.0 c.args.scale _ (next_ends c.args.s.now c.args.p c.requires.0.inside (sym c.next_byte-next.ensures ∙ c.if-next-eq44.true)) refl
    c.scaled.ensures.0 c.scaled.ensures.1

pub returns-then-next-ne46 : goal.returns-then-next-ne46
returns-then-next-ne46 c =
    told_not _
    (λ u.
    c.if-next-ne46.true
    (c.next_byte-next.ensures
    ∙ whole_next c.args.s.now c.args.p c.args.whole c.args.scale c.requires.0.inside c.requires.0.digits c.requires.0.longest c.requires.1 u
    (other c.args.s.now c.args.p _ c.next_byte-next.ensures c.if-next-eq44.false)))

pub returns-then-q-lt1 : goal.returns-then-q-lt1
returns-then-q-lt1 c =
    told_not _
    (λ u.
    omega (
      arith,
      (found c.args.s.now c.args.w c.args.p c.args.whole c.args.scale _ c.leading_digits-run.result c.requires.0 c.requires.1 c.requires.2 c.next_byte-next.ensures c.if-next-eq44.false c.if-next-ne46.false (simp part_rest at c.leading_digits-run.ensures) u).0,
      c.if-q-lt1.true,
    ))

pub returns-then-scale-q : goal.returns-then-scale-q
returns-then-scale-q c =
    told_not _
    (λ u.
    omega (
      arith,
      (found c.args.s.now c.args.w c.args.p c.args.whole c.args.scale _ c.leading_digits-run.result c.requires.0 c.requires.1 c.requires.2 c.next_byte-next.ensures c.if-next-eq44.false c.if-next-ne46.false (simp part_rest at c.leading_digits-run.ensures) u).1,
      c.if-scale-q.true,
    ))

pub returns-then-not-ends_at : goal.returns-then-not-ends_at
returns-then-not-ends_at c =
    told_not _
    (λ u.
    c.ends_at.ensures.1 c.if-not-ends_at.true
    (subst (λ (k : ℕ). Ends c.args.s.now k)
    (sym
    (found c.args.s.now c.args.w c.args.p c.args.whole c.args.scale _ c.leading_digits-run.result c.requires.0 c.requires.1 c.requires.2 c.next_byte-next.ensures c.if-next-eq44.false c.if-next-ne46.false (simp part_rest at c.leading_digits-run.ensures) u).2)
    (end_ends c.args.s.now)))

pub scaled-requires-2 : goal.scaled-requires-2
scaled-requires-2 c =
    let after : AllRead (drop (c.args.p + 1) c.args.s.now) c.leading_digits-run.result = simp part_rest at c.leading_digits-run.ensures in
    let point = dot c.args.s.now c.args.p _ c.next_byte-next.ensures c.if-next-eq44.false c.if-next-ne46.false in (
      whole_below _ _ _ _ c.requires.0,
      places_below c.args.s.now c.args.w c.args.p c.args.whole c.requires.0 c.leading_digits-run.result point.0 point.1 after.read,
      omega arith,
    )

pub returns : goal.returns
returns c =
    let after : AllRead (drop (c.args.p + 1) c.args.s.now) c.leading_digits-run.result = simp part_rest at c.leading_digits-run.ensures in
    let point = dot c.args.s.now c.args.p _ c.next_byte-next.ensures c.if-next-eq44.false c.if-next-ne46.false in
    places_read c.args.s.now c.args.w c.args.p c.args.whole c.requires.0 c.leading_digits-run.result point.0 point.1 after.read c.args.scale _ (c.ends_at.ensures.0 c.if-not-ends_at.false) (omega arith) (omega arith) refl
    c.scaled-2.ensures.0 c.scaled-2.ensures.1
