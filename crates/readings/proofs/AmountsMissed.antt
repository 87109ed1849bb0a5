-- What an amount at the start of a line's bytes shows of the digits that were read there: so, where they show anything else, there is none.
--     told_not                       a test that can't hold
--     whole_is, whole_next           the digits read first are those before the point; the byte after them is the field's end or the point
--     places_are                     those read after the point are all that stand there
-- Assumes nothing.
use Rattle.std.proofs.Common.{◌≡◌, ℕ, zero, suc, ◌+◌, ◌-◌, ◌<◌, ◌≤◌, Bool, true, false, eqb, leb, List, [], ◌∷◌, length, get_or, take, drop, sym, refl, ap, ◌∙◌, subst, zero-le, arith, length-drop, length-take-le, get_or-take, take-take, take-add, drop_at, eqb-true, leb-false, leb-true}
use borrow.Author.Tests.{lt-leb}
use Rattle.lists.specs.First.{first_where, is_byte}
use Rattle.lists.proofs.First.{first_le}
use Rattle.digits.specs.Digits.{all_digits, within}
use Rattle.digits.proofs.Laws.{both_true}
use Rattle.amounts.specs.Amounts.{point_of, places_part, no_point, is_unsigned}
use Rattle.amounts.proofs.Shape.{Unsigned, unsigned_say, is_places, point_inside}
use Rattle.readings.specs.declared.Run.{Run}
use Rattle.readings.specs.InsideLeadingBytes.{field_end, leading_field, AllRead}
use Rattle.readings.proofs.Ends.{field_length, end_ends, end_after, end_more, digits_before, same_byte, next_inside}
use Rattle.readings.proofs.Runs.{run_longest}
use Rattle.lists.proofs.Selections.{second_of_lem}
use Rattle.amounts.proofs.Points.{not_point}

pub told_not : (b : Bool) → (b ≡ true → ⊥) → b ≡ false
told_not true h = absurd (h refl)
told_not false h = refl

-- digits stand before the point
before_point : (t : List ℕ) (p : ℕ) → p ≤ length t → all_digits (take p t) ≡ true → p ≤ point_of t
unfolding all_digits first_where
before_point t zero h d = zero-le
before_point [] (suc p) h d = absurd (omega arith)
before_point (b ∷ t) (suc p) h d = let q = not_point b (take p t) d in rw q.0 (let m = before_point t p (omega arith) q.1 in omega arith)

-- the byte at the point
at_point : (t : List ℕ) → point_of t < length t → get_or t (point_of t) 0 ≡ 46
unfolding first_where
at_point [] h = absurd (omega arith)
at_point (b ∷ t) h = go (eqb b 46) refl (at_point t)
  where
    go : (x : Bool) → eqb b 46 ≡ x → (point_of t < length t → get_or t (point_of t) 0 ≡ 46) → get_or (b ∷ t) (point_of (b ∷ t)) 0 ≡ 46
    go true e rec = rw e (eqb-true b 46 e)
    go false e rec = rw e (rec (let k : point_of (b ∷ t) ≡ suc (point_of t) = rw e in omega arith))

module _ (s : List ℕ) (p whole scale : ℕ) (inside : p ≤ length s) (d : all_digits (take p s) ≡ true)
    (longest : (m : ℕ) → m ≤ length s → m ≤ 15 → all_digits (take m s) ≡ true → m ≤ p) (room : whole ≤ 15) (u : is_unsigned whole scale (leading_field s) ≡ true) where
  abbrev t : List ℕ
  t = leading_field s

  shape : Unsigned whole scale t
  shape = unsigned_say whole scale t u

  point_early : point_of t ≤ field_end s
  point_early = omega (arith, point_inside t, field_length s)

  early : p ≤ field_end s
  early = digits_before s p inside d

  pub whole_is : point_of t ≡ p
  whole_is =
      let most : point_of t ≤ p
      = longest (point_of t) (omega (arith, point_early, first_le (is_byte 44) s)) (omega (arith, shape.few)) (subst (λ (l : List ℕ). all_digits l ≡ true) (take-take (point_of t) (field_end s) s point_early) shape.digits) in
      let least : p ≤ point_of t
      = before_point t p (rw field_length early) (subst (λ (l : List ℕ). all_digits l ≡ true) (sym (take-take p (field_end s) s early)) d) in
      omega (arith, most, least)

  pub whole_some : 1 ≤ p
  whole_some = omega (arith, shape.some, whole_is)

  pub whole_few : p ≤ whole
  whole_few = omega (arith, shape.few, whole_is)

  pub whole_next : (get_or s p 44 ≡ 44 → ⊥) → get_or s p 44 ≡ 46
  whole_next other =
      let within = next_inside s p other in
      let later : p < field_end s = strictly (leb (field_end s) p) refl within other in
      let same : get_or t p 0 ≡ get_or s p 0 = get_or-take (field_end s) s p 0 later in
      same_byte s p 44 0 within ∙ sym same ∙ ap (λ (k : ℕ). get_or t k 0) (sym whole_is) ∙ at_point t (rw (whole_is, field_length) later)
    where
      strictly : (b : Bool) → leb (field_end s) p ≡ b → p < length s → (get_or s p 44 ≡ 44 → ⊥) → p < field_end s
      strictly false e within other = leb-false (field_end s) p e
      strictly true e within other =
          let k : field_end s ≡ p = omega (arith, leb-true (field_end s) p e, early) in
          let at : get_or s (field_end s) 0 ≡ 44 = (end_ends s).1 (rw k within) in
          absurd (other (same_byte s p 44 0 within ∙ ap (λ (j : ℕ). get_or s j 0) (sym k) ∙ at))

  -- a point stands at p, and the digits after it were read
  module _ (run : Run) (point : p < length s) (dot : get_or s p 0 ≡ 46) (b : AllRead (drop (p + 1) s) run) (few : scale ≤ 15) where
    past : p + 1 ≤ field_end s
    past = end_more s p early point (λ z. omega arith)

    abbrev rest : ℕ
    rest = field_end s - (p + 1)

    after : places_part t ≡ take rest (drop (p + 1) s)
    after =
        rw whole_is
        (let split : t ≡ _ = ap (λ (n : ℕ). take n s) (let k : field_end s ≡ p + 1 + rest = omega (arith, past) in k) ∙ take-add (p + 1) rest s in
        ap (λ (l : List ℕ). drop (p + 1) l) split ∙ drop_at (take (p + 1) s) (take rest (drop (p + 1) s)) (p + 1) (length-take-le (p + 1) s (omega arith)))

    rest_inside : rest ≤ length (drop (p + 1) s)
    rest_inside = omega (arith, length-drop (p + 1) s, first_le (is_byte 44) s)

    after_length : length (places_part t) ≡ rest
    after_length = rw after (length-take-le rest (drop (p + 1) s) rest_inside)

    shown : is_places scale (places_part t) ≡ true
    shown = second_of_lem (no_point t) (is_places scale (places_part t)) (lt-leb (length t) (point_of t) (omega (arith, whole_is, field_length s, past))) shape.rest

    pub places_are : (1 ≤ run.len) × (run.len ≤ scale) × (p + 1 + run.len ≡ field_end s)
    places_are =
        let q = both_true (within 1 scale (length (places_part t))) (all_digits (places_part t)) shown in
        let c = both_true (leb 1 (length (places_part t))) (leb (length (places_part t)) scale) q.0 in
        let low = leb-true 1 (length (places_part t)) c.0 in
        let high = leb-true (length (places_part t)) scale c.1 in
        let most : rest ≤ run.len = run_longest (drop (p + 1) s) run b rest rest_inside (omega (arith, after_length, high)) (subst (λ (l : List ℕ). all_digits l ≡ true) after q.1) in
        let least : run.len ≤ field_end (drop (p + 1) s) = digits_before (drop (p + 1) s) run.len b.read.inside b.read.digits in
        let same : run.len ≡ rest = omega (arith, most, least, end_after s (p + 1) past) in
        (omega (arith, same, low, after_length), omega (arith, same, high, after_length), omega (arith, same, past))
