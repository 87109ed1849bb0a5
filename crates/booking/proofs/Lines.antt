-- The lines that tests 39 and 40 answer: the k-th TH or OC of a file stands on the k-th of the file's `lines`.
-- Assumes nothing.
use mathlib.Core.Path.{◌≡◌, refl, ap, ◌∙◌}
use mathlib.Core.Bool.{Bool, true, false, cond}
use mathlib.Core.List.{List, [], ◌∷◌, map}
use Prim.Native.Nat.{ℕ, zero, suc, ◌+◌, ◌<◌}
use native.Mathlib.Omega.{arith}
use lib.ListN.{length, get_or}
use Rattle.lists.specs.Selections.{filter}
use Rattle.format.specs.Format.{line_at}
use Rattle.bill_files.specs.Accepted.{Bill, is_bill, bill_in, bills_in, bill_lines, bill_file}

-- the k-th of them: the place of its record, its line, and what it says
record Stands (header : List ℕ) (n : ℕ) (lines : List (List ℕ)) (other : Bill) (k : ℕ) : Type 0 where
  place : ℕ
  within : place < length lines
  is_bill_lem : is_bill (line_at lines place) ≡ true
  line : get_or (bill_lines n lines) k 0 ≡ n + place + 1
  bill : get_or (map (bill_in header) (filter is_bill lines)) k other ≡ bill_in header (line_at lines place)

-- with a line more before them
further : (header : List ℕ) (n : ℕ) (x : List ℕ) (lines : List (List ℕ)) (other : Bill) (k : ℕ) (s : Stands header (suc n) lines other k) (m : ℕ)
    → get_or (bill_lines n (x ∷ lines)) m 0 ≡ get_or (bill_lines (suc n) lines) k 0
    → get_or (map (bill_in header) (filter is_bill (x ∷ lines))) m other ≡ get_or (map (bill_in header) (filter is_bill lines)) k other
    → Stands header n (x ∷ lines) other m
further header n x lines other k s m same_line same-bill =
    record {
      place = suc s.place;
      within = omega (arith, s.within);
      is_bill_lem = s.is_bill_lem;
      line = same_line ∙ s.line ∙ omega arith;
      bill = same-bill ∙ s.bill;
    }

stands : (header : List ℕ) (n : ℕ) (lines : List (List ℕ)) (other : Bill) (k : ℕ) → k < length (filter is_bill lines) → Stands header n lines other k
unfolding bill_lines
stands header n [] other k h = absurd (omega arith)
stands header n (x ∷ lines) other k h = go (is_bill x) refl k h (stands header (suc n) lines other)
  where
    go : (b : Bool) → is_bill x ≡ b → (k : ℕ) → k < length (cond b (x ∷ filter is_bill lines) (filter is_bill lines))
        → ((k : ℕ) → k < length (filter is_bill lines) → Stands header (suc n) lines other k) → Stands header n (x ∷ lines) other k
    go true e zero h rest =
        record {
          place = 0;
          within = omega arith;
          is_bill_lem = e;
          line = ap (λ (b : Bool). get_or (cond b (suc n ∷ bill_lines (suc n) lines) (bill_lines (suc n) lines)) 0 0) e ∙ omega arith;
          bill = ap (λ (b : Bool). get_or (map (bill_in header) (cond b (x ∷ filter is_bill lines) (filter is_bill lines))) 0 other) e;
        }
    go true e (suc k) h rest =
        further header n x lines other k (rest k (omega arith)) (suc k)
        (ap (λ (b : Bool). get_or (cond b (suc n ∷ bill_lines (suc n) lines) (bill_lines (suc n) lines)) (suc k) 0) e)
        (ap (λ (b : Bool). get_or (map (bill_in header) (cond b (x ∷ filter is_bill lines) (filter is_bill lines))) (suc k) other) e)
    go false e k h rest =
        further header n x lines other k (rest k h) k
        (ap (λ (b : Bool). get_or (cond b (suc n ∷ bill_lines (suc n) lines) (bill_lines (suc n) lines)) k 0) e)
        (ap (λ (b : Bool). get_or (map (bill_in header) (cond b (x ∷ filter is_bill lines) (filter is_bill lines))) k other) e)

-- the line of the k-th TH or OC, counted from 1, and that the record there says what it says
pub bill_line : (lines : List (List ℕ)) (other : Bill) (k : ℕ) → k < length (bill_file lines).bills
    → (place : ℕ) × (place < length lines) × (is_bill (line_at lines place) ≡ true) × (get_or (bill_file lines).lines k 0 ≡ place + 1)
    × (get_or (bill_file lines).bills k other ≡ bill_in (line_at lines 0) (line_at lines place))
unfolding bill_file bills_in
bill_line lines other k h =
    let s = stands (line_at lines 0) 0 lines other k (omega (arith, length_bills (line_at lines 0) (filter is_bill lines))) in
    (s.place, s.within, s.is_bill_lem, s.line ∙ omega arith, s.bill)
  where
    length_bills : (header : List ℕ) (ls : List (List ℕ)) → length (map (bill_in header) ls) ≡ length ls
    length_bills header [] = refl
    length_bills header (l ∷ ls) = ap suc (length_bills header ls)
