-- `record_at` meets its contract. The loop's invariant: n fields have their places, and the fields of the rest of the line are left.
-- Where 24 fields don't reach the end of the line, there are more than 24.
-- Assumes nothing.
use Rattle.tables.specs.Types.{type_named}
use Rattle.records.specs.Records.{field, type_in}
use Rattle.records.proofs.Laws.{type_third, fields_few, fields_many}
use Rattle.records.proofs.Placed.{going_more, going_end, going_count, placed_at}
use Rattle.records.proofs.Cut.{part_length, fields_more, fields_last, cut_some}
use Rattle.records.specs.InsidePlacedLines.{part, Placed}
use Rattle.records.specs.Text.{fields_of}
use Rattle.lists.proofs.First.{first_le}
use Rattle.lists.specs.First.{first_where, is_byte}
use lib.ListN.{length, set, length-set}
use Prim.Native.Nat.{ℕ, ◌+◌, ◌≤◌, ◌<◌, zero-le}
use mathlib.Core.List.{List, []}
use mathlib.Core.Path.{◌≡◌, refl, ◌∙◌, ap}
use native.Mathlib.Omega.{arith}
use Rattle.records.proofs.record_at.Goals as goal

-- a field ends before the end of the line, or there
near_end : (file : List ℕ) (a end found : ℕ) → a ≤ end → end ≤ length file → found ≡ first_where (is_byte 44) (part file a end) → a + found ≤ end
near_end file a end found inside within e = omega (arith, e, first_le (is_byte 44) (part file a end), part_length file a end within)

pub overflow_add-e : goal.overflow_add-e
overflow_add-e c =
    let near = near_end c.args.file.now c.loop-n.a c.args.end c.find.result (omega arith) (omega arith) c.find.ensures in
    omega (arith, near)

pub third-record_type-requires : goal.third-record_type-requires
third-record_type-requires c =
    let near = near_end c.args.file.now c.loop-n.a c.args.end c.find.result (omega arith) (omega arith) c.find.ensures in
    let full : Placed c.args.file.now (c.loop-n.n + 1)
    (set c.loop-n.starts c.loop-n.n c.loop-n.a) (set c.loop-n.ends c.loop-n.n (c.loop-n.a + c.find.result))
    (fields_of (part c.args.file.now c.args.start c.args.end)) =
    going_end
    (going_more c.loop-n.invariant.3 c.loop-n.a (c.loop-n.a + c.find.result) [] (omega arith) (omega arith) (omega arith) (omega (arith, near))
    (fields_last c.args.file.now c.loop-n.a (c.loop-n.a + c.find.result) c.args.end (omega arith) (omega arith) (ap (λ (k : ℕ). c.loop-n.a + k) c.find.ensures) c.if-e-end.true)) in
    λ h. let r = placed_at (full) 2 h in (r.low, r.high)

pub returns-then-e-end : goal.returns-then-e-end
returns-then-e-end c =
    let near = near_end c.args.file.now c.loop-n.a c.args.end c.find.result (omega arith) (omega arith) c.find.ensures in
    let full : Placed c.args.file.now (c.loop-n.n + 1)
    (set c.loop-n.starts c.loop-n.n c.loop-n.a) (set c.loop-n.ends c.loop-n.n (c.loop-n.a + c.find.result))
    (fields_of (part c.args.file.now c.args.start c.args.end)) =
    going_end
    (going_more c.loop-n.invariant.3 c.loop-n.a (c.loop-n.a + c.find.result) [] (omega arith) (omega arith) (omega arith) (omega (arith, near))
    (fields_last c.args.file.now c.loop-n.a (c.loop-n.a + c.find.result) c.args.end (omega arith) (omega arith) (ap (λ (k : ℕ). c.loop-n.a + k) c.find.ensures) c.if-e-end.true)) in
    let f = rw (← fields_few (part c.args.file.now c.args.start c.args.end) (omega (arith, (full).count))) at (full) in
    record {
      type = c.third-record_type.ensures ∙ type_third _ f;
      placed = f;
      few = omega arith;
      starts = simp length-set c.loop-n.invariant.1;
      ends = simp length-set c.loop-n.invariant.2;
    }

pub overflow_add-a : goal.overflow_add-a
overflow_add-a c =
    let near = near_end c.args.file.now c.loop-n.a c.args.end c.find.result (omega arith) (omega arith) c.find.ensures in
    omega (arith, near)

pub loop-n-preserved : goal.loop-n-preserved
loop-n-preserved c =
    let near = near_end c.args.file.now c.loop-n.a c.args.end c.find.result (omega arith) (omega arith) c.find.ensures in
    let e = c.loop-n.a + c.find.result in (
      omega (arith, near, c.if-e-end.false),
      simp length-set c.loop-n.invariant.1,
      simp length-set c.loop-n.invariant.2,
      going_more c.loop-n.invariant.3 c.loop-n.a e _ (omega arith) (omega arith) (omega arith) (omega (arith, near))
          (fields_more c.args.file.now c.loop-n.a e c.args.end (omega arith) (omega arith) (ap (λ (k : ℕ). c.loop-n.a + k) c.find.ensures) (omega (arith, near, c.if-e-end.false))),
    )

pub returns : goal.returns
unfolding type_in type_named field
returns c =
    let more : 24 < length (fields_of (part c.args.file.now c.args.start c.args.end)) =
    omega (arith, going_count c.loop-n.invariant.3, cut_some 44 (part c.args.file.now c.loop-n.a c.args.end)) in
    let none = fields_many _ more in
    record {
      type = rw none;
      placed = rw none (record { starts = zero-le; ends = zero-le; count = refl; same = refl; inside = tt });
      few = omega arith;
      starts = c.loop-n.invariant.1;
      ends = c.loop-n.invariant.2;
    }
