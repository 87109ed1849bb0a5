-- Laws of amounts that stand at the start of a line's bytes.
--     whole_below, whole_read    the digits before the point: their number is below a power of ten; they are the whole field
--     places_below, places_read  the point after them and the digits after it: their number is below a power of ten; what was read
-- Assumes nothing.
use Rattle.std.proofs.Common.{◌≡◌, ℕ, zero, suc, ◌+◌, ◌-◌, ◌*◌, ◌^◌, ◌<◌, ◌≤◌, true, List, [], ◌∷◌, length, get_or, take, drop, sym, ap, ◌∙◌, subst, lt_of_lt_of_le, zero-mul, arith, length-drop, drop_of_length-le, length-take-le, take_all, get_or-take, take-take, take-add, drop_at, eq-eqb, le-leb}
use Rattle.lists.specs.First.{first_where}
use Rattle.digits.specs.Digits.{all_digits, followed_by, number_of}
use Rattle.amounts.specs.Amounts.{point_of, is_unsigned, units_of}
use Rattle.amounts.proofs.Powers.{ten_mono}
use Rattle.amounts.proofs.Shape.{whole_only, whole_and_places}
use Rattle.readings.specs.declared.Run.{Run}
use Rattle.readings.specs.declared.Reading.{Reading}
use Rattle.readings.specs.InsideLeadingBytes.{field_end, Ends, DigitsRead}
use Rattle.readings.proofs.Ends.{ends_there, end_more, end_after, digits_before}
use Rattle.readings.proofs.Runs.{run_bound}
use Rattle.readings.specs.InsideAmountReadings.{WholeRead, MagnitudeRead}
use Rattle.amounts.proofs.Points.{not_point, no_point_lem}

-- ---- where the point stands
-- digits before the place p, and a point there
point_at : (t : List ℕ) (p : ℕ) → p < length t → all_digits (take p t) ≡ true → get_or t p 0 ≡ 46 → point_of t ≡ p
unfolding all_digits first_where
point_at [] p h d e = absurd (omega arith)
point_at (b ∷ t) zero h d e = rw (eq-eqb b 46 e)
point_at (b ∷ t) (suc p) h d e = let q = not_point b (take p t) d in rw q.0 (ap suc (point_at t p (omega arith) q.1 e))

-- ---- an amount by its parts
module _ (t : List ℕ) (d : all_digits t ≡ true) where
  alone_shape : (whole scale : ℕ) → 1 ≤ length t → length t ≤ whole → is_unsigned whole scale t ≡ true
  alone_shape whole scale some few =
      let e = no_point_lem t d in
      whole_only whole scale t (rw e some) (rw e few) (rw (e, take_all (length t) t (omega arith)) d) (rw e (omega arith))

  alone_units : (scale : ℕ) → units_of scale t ≡ number_of t * 10 ^ scale + 0 * 10 ^ (scale - 0)
  unfolding units_of followed_by
  alone_units scale = rw (no_point_lem t d, take_all (length t) t (omega arith), drop_of_length-le t {i = length t + 1} (omega arith), zero-mul)

module _ (t : List ℕ) (p : ℕ) (h : p < length t) (d : all_digits (take p t) ≡ true) (e : get_or t p 0 ≡ 46) where
  parts_shape : (whole scale : ℕ) → 1 ≤ p → p ≤ whole → 1 ≤ length (drop (p + 1) t) → length (drop (p + 1) t) ≤ scale → all_digits (drop (p + 1) t) ≡ true
      → is_unsigned whole scale t ≡ true
  parts_shape whole scale some few more room rest =
      let k = point_at t p h d e in
      whole_and_places whole scale t (rw k some) (rw k few) (rw k d) (rw k h)
      ∙ rw k (simp (le-leb _ _ more, le-leb _ _ room, rest))

  parts_units : (scale : ℕ) → units_of scale t ≡ number_of (take p t) * 10 ^ scale + number_of (drop (p + 1) t) * 10 ^ (scale - length (drop (p + 1) t))
  unfolding units_of
  parts_units scale = rw (point_at t p h d e)

-- ---- the whole part w, which stands before p
module _ (s : List ℕ) (w p whole : ℕ) (a : WholeRead s w p whole) where
  pub whole_below : w < 10 ^ whole
  whole_below = rw a.value (lt_of_lt_of_le (run_bound s p a.inside a.digits) (ten_mono {i = p} {j = whole} a.few))

  -- it ends the field
  pub whole_read : (scale : ℕ) (r : Reading) → Ends s p → r.len ≡ p → (whole + scale ≤ 15 → r.number ≡ w * 10 ^ scale + 0 * 10 ^ (scale - 0)) → r.number < 10 ^ 15
      → MagnitudeRead whole scale s r
  whole_read scale r e l n small =
      let k : p ≡ field_end s = ends_there s p e (digits_before s p a.inside a.digits) in
      let len : length (take p s) ≡ p = length-take-le p s a.inside in
      record {
        ends = l ∙ k;
        fits = subst (λ (j : ℕ). is_unsigned whole scale (take j s) ≡ true) k (alone_shape (take p s) a.digits whole scale (rw len a.some) (rw len a.few));
        says = λ h. n h ∙ rw a.value (sym (alone_units (take p s) a.digits scale)) ∙ ap (λ (j : ℕ). units_of scale (take j s)) k;
        small = small;
      }

  -- a point stands at p, and q digits after it
  module _ (run : Run) (point : p < length s) (dot : get_or s p 0 ≡ 46) (b : DigitsRead (drop (p + 1) s) run) where
    pub places_inside : p + 1 + run.len ≤ length s
    places_inside = omega (arith, b.inside, length-drop (p + 1) s)

    pub places_below : run.value < 10 ^ run.len
    places_below = rw b.value (run_bound (drop (p + 1) s) run.len b.inside b.digits)

    places_end : Ends s (p + 1 + run.len) → p + 1 + run.len ≡ field_end s
    places_end e =
        let one : p + 1 ≤ field_end s = end_more s p (digits_before s p a.inside a.digits) point (λ z. omega arith) in
        let rest = digits_before (drop (p + 1) s) run.len b.inside b.digits in
        ends_there s (p + 1 + run.len) e (omega (arith, end_after s (p + 1) one))

    -- the field's bytes, and what stands after the point in them
    abbrev field : List ℕ
    field = take (p + 1 + run.len) s

    after_point : drop (p + 1) field ≡ take run.len (drop (p + 1) s)
    after_point = rw take-add (drop_at (take (p + 1) s) (take run.len (drop (p + 1) s)) (p + 1) (length-take-le (p + 1) s (omega arith)))

    before_point : take p field ≡ take p s
    before_point = take-take p (p + 1 + run.len) s (omega arith)

    after_length : length (drop (p + 1) field) ≡ run.len
    after_length = rw after_point (length-take-le run.len (drop (p + 1) s) b.inside)

    field_point : p < length field
    field_point = rw (length-take-le (p + 1 + run.len) s places_inside) (omega arith)

    field_digits : all_digits (take p field) ≡ true
    field_digits = rw before_point a.digits

    field_dot : get_or field p 0 ≡ 46
    field_dot = get_or-take (p + 1 + run.len) s p 0 (omega arith) ∙ dot

    field_shape : (scale : ℕ) → 1 ≤ run.len → run.len ≤ scale → is_unsigned whole scale field ≡ true
    field_shape scale more room =
        parts_shape field p field_point field_digits field_dot whole scale a.some a.few (rw after_length more) (rw after_length room) (rw after_point b.digits)

    field_units : (scale : ℕ) → units_of scale field ≡ w * 10 ^ scale + run.value * 10 ^ (scale - run.len)
    field_units scale =
        parts_units field p field_point field_digits field_dot scale
        ∙ rw (after_length, after_point, before_point, a.value, b.value)

    pub places_read : (scale : ℕ) (r : Reading) → Ends s (p + 1 + run.len) → 1 ≤ run.len → run.len ≤ scale → r.len ≡ p + 1 + run.len
        → (whole + scale ≤ 15 → r.number ≡ w * 10 ^ scale + run.value * 10 ^ (scale - run.len)) → r.number < 10 ^ 15
        → MagnitudeRead whole scale s r
    places_read scale r e more room l n small =
        let k = places_end e in
        record {
          ends = l ∙ k;
          fits = subst (λ (j : ℕ). is_unsigned whole scale (take j s) ≡ true) k (field_shape scale more room);
          says = λ h. n h ∙ sym (field_units scale) ∙ ap (λ (j : ℕ). units_of scale (take j s)) k;
          small = small;
        }
