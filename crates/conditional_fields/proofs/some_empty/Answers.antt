-- `some_empty` meets its contract: `any` finds a field that starts where it ends.
-- Assumes nothing.
use Rattle.std.proofs.Common.{◌≡◌, ℕ, ◌+◌, ◌-◌, ◌≤◌, ◌<◌, List, Bool, true, false, eqb, rules, tests, take, drop, length, get_or}
use Rattle.std.specs.Prelude.{zip}
use Rattle.std.proofs.lemmas.Iterator.{cases_from_any, YieldsList-from_slice, YieldsList-from_zip}
use Rattle.std.proofs.lemmas.List.{length-take, length-drop, get_or-take, get_or-drop}
use Rattle.std.proofs.lemmas.Slice.Zip.{length-zip, get_or-zip}
use mathlib.Core.Path.{ap, ◌∙◌}
use native.Mathlib.Omega.{arith}
use Rattle.lists.specs.Below.{some_below}
use Rattle.lists.proofs.Below.{some_same}
use Rattle.lists.proofs.Found.{any_some}
use Rattle.conditional_fields.proofs.some_empty.Goals as goal

abbrev is_empty : ℕ × ℕ → Bool
is_empty p = eqb p.0 p.1

-- a part of two columns side by side is searched as its places are
side_by_side : (xs ys : List ℕ) (after count size : ℕ) → size ≡ count → after + count ≤ length xs → after + count ≤ length ys
    → let pairs = zip (take size (drop after xs)) (take size (drop after ys)) in
    some_below (λ i. eqb (get_or pairs i (0, 0)).0 (get_or pairs i (0, 0)).1) (length pairs) ≡ some_below (λ j. eqb (get_or xs (after + j) 0) (get_or ys (after + j) 0)) count
side_by_side xs ys after count size e h k =
    let left = take size (drop after xs) in
    let right = take size (drop after ys) in
    let long : length left ≡ count = omega (arith, e, h, length-take size (drop after xs), length-drop after xs) in
    let wide : length right ≡ count = omega (arith, e, k, length-take size (drop after ys), length-drop after ys) in
    let all : length (zip left right) ≡ count = omega (arith, long, wide, length-zip left right) in
    ap (some_below (λ i. eqb (get_or (zip left right) i (0, 0)).0 (get_or (zip left right) i (0, 0)).1)) all
    ∙ some_same _ _ count (λ j l.
    let low : j < size = omega (arith, l, e) in
    ap is_empty (get_or-zip left right j (0, 0) (omega (arith, l, long)) (omega (arith, l, wide)))
    ∙ (λ t. eqb ((get_or-take size (drop after xs) j 0 low ∙ get_or-drop after xs j 0) t) ((get_or-take size (drop after ys) j 0 low ∙ get_or-drop after ys j 0) t)))

pub returns : goal.returns
returns c =
    let size = c.args.after + c.args.count - c.args.after in
    let xs = take size (drop c.args.after c.args.starts.now) in
    let ys = take size (drop c.args.after c.args.ends.now) in
    any_some is_empty (zip xs ys) (0, 0) c.any.result
    (cases_from_any c.any.new.self _ _ (λ p. is_empty p ≡ true) (λ p. is_empty p ≡ false) c.any.ensures.ran (YieldsList-from_zip (YieldsList-from_slice xs (search rules)) (YieldsList-from_slice ys (search rules))) (λ x q k. search (rules, tests)) (λ x q k. search (rules, tests)))
    ∙ side_by_side c.args.starts.now c.args.ends.now c.args.after c.args.count size (omega arith) (search rules) (search rules)
