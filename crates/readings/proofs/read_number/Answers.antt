-- `readings::read_number` meets its contract: an empty field, or an amount after its minus, where it has one.
-- Assumes nothing.
use Rattle.std.proofs.Common.{◌≡◌, ℕ, ◌-◌, ◌≤◌, cond, eqb, List, get_or, drop, refl, sym, ◌∙◌, ◌⊎◌, ⊎_elim, inl, inr, zero-le, arith, length-drop, eq-eqb, ne_eqb}
use Rattle.lists.specs.First.{is_byte}
use Rattle.lists.proofs.First.{first_le}
use Rattle.lists.proofs.Parts.{part_rest}
use Rattle.fields.specs.declared.FieldType.TheVariants.{Number}
use Rattle.readings.specs.InsideAmountReadings.{MagnitudeRead}
use Rattle.readings.proofs.Fields.{empty_read}
use Rattle.readings.proofs.Numbers.{number_narrow, number_read, number_missed}
use Rattle.readings.proofs.Ends.{next_ends, next_inside}
use Rattle.readings.proofs.read_number.Goals.{else-first-eq45, then-first-eq45}
use Rattle.readings.proofs.read_number.Goals as goal

-- where the first byte is no comma, the field isn't empty
other : (s : List ℕ) (first : ℕ) → first ≡ get_or s 0 44 → (first ≡ 44 → ⊥) → get_or s 0 44 ≡ 44 → ⊥
other s first e unlike z = unlike (e ∙ z)

-- how many bytes the minus takes
minus_is : (s : List ℕ) (first minus : ℕ) → first ≡ get_or s 0 44 → ((first ≡ 45) × (minus ≡ 1)) ⊎ ((first ≡ 45 → ⊥) × (minus ≡ 0)) → minus ≡ cond (eqb (get_or s 0 44) 45) 1 0
minus_is s first minus e taken = ⊎_elim (λ one. one.1 ∙ sym (rw (eq-eqb _ _ (sym e ∙ one.0)))) (λ none. none.1 ∙ sym (rw (ne_eqb _ _ (λ z. none.0 (e ∙ z))))) taken

pub returns-then-first-eq44 : goal.returns-then-first-eq44
returns-then-first-eq44 c =
    empty_read (Number c.args.precision c.args.scale) c.args.s.now _ (next_ends c.args.s.now 0 zero-le (sym c.next_byte-first.ensures ∙ c.if-first-eq44.true)) refl refl

pub returns-then-precision-scale : goal.returns-then-precision-scale
returns-then-precision-scale c =
    number_narrow c.args.precision c.args.scale c.args.s.now (other c.args.s.now _ c.next_byte-first.ensures c.if-first-eq44.false) c.if-precision-scale.true

pub returns-in_err-size : goal.returns-in_err-size
returns-in_err-size c =
    rw c.from_residual.ensures
    (number_missed c.args.precision c.args.scale c.args.s.now (other c.args.s.now _ c.next_byte-first.ensures c.if-first-eq44.false) c.if-first-eq45.minus
    (minus_is c.args.s.now _ _ c.next_byte-first.ensures (elim c.if-first-eq45.branch [ then-first-eq45 w ↦ inl (w.if-first-eq45.true, w.minus-is) | else-first-eq45 w ↦ inr (w.if-first-eq45.false, w.minus-is) ]))
    (rw part_rest at c.in_err-size.ensures))

pub overflow_add-result : goal.overflow_add-result
overflow_add-result c =
    let size : MagnitudeRead (c.args.precision - c.args.scale) c.args.scale (drop c.if-first-eq45.minus c.args.s.now) c.in_ok-size.size = rw part_rest at c.in_ok-size.ensures in
    let small : c.if-first-eq45.minus ≤ 1 = elim c.if-first-eq45.branch [ then-first-eq45 w ↦ omega (arith, w.minus-is) | else-first-eq45 w ↦ omega (arith, w.minus-is) ] in
    let rest = drop c.if-first-eq45.minus c.args.s.now in
    omega (
      arith,
      size.ends,
      first_le (is_byte 44) rest,
      length-drop c.if-first-eq45.minus c.args.s.now,
      small,
      next_inside c.args.s.now 0 (other c.args.s.now _ c.next_byte-first.ensures c.if-first-eq44.false),
    )

pub returns : goal.returns
returns c =
    let size : MagnitudeRead (c.args.precision - c.args.scale) c.args.scale (drop c.if-first-eq45.minus c.args.s.now) c.in_ok-size.size = rw part_rest at c.in_ok-size.ensures in
    number_read c.args.precision c.args.scale c.args.s.now (other c.args.s.now _ c.next_byte-first.ensures c.if-first-eq44.false) c.if-first-eq45.minus
    (minus_is c.args.s.now _ _ c.next_byte-first.ensures (elim c.if-first-eq45.branch [ then-first-eq45 w ↦ inl (w.if-first-eq45.true, w.minus-is) | else-first-eq45 w ↦ inr (w.if-first-eq45.false, w.minus-is) ]))
    c.in_ok-size.size _ size refl (omega arith) (rw c.next_byte-first.ensures at c.saying.ensures)
