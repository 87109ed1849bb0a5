-- The TH and OC of a file, read line by line.
--     reading_none, reading_skip, reading_more    none is read at the start; a line that is neither; a line that is one
--     all_bills, all_lines                        after the last line all of them are read
-- Assumes nothing.
use mathlib.Core.Path.{◌≡◌, refl, sym, ap, ◌∙◌, subst}
use mathlib.Core.Bool.{Bool, true, false, cond}
use mathlib.Core.List.{List, [], ◌∷◌, ◌++◌, map, append-nil}
use Prim.Native.Nat.{ℕ, suc, ◌+◌, ◌≤◌, ◌<◌}
use native.Mathlib.Nat.{add-zero, add-suc, suc-add, not-suc-le-zero}
use native.Mathlib.Numerals.{add-one}
use native.Mathlib.Omega.{arith}
use lib.ListN.{length, get_or, set, take, length-append, length-set, get_or-append}
use lib.Seq.{take-suc, take_all, length-take-le, get_or-take, get_or-append_seam}
use Rattle.lists.specs.Selections.{filter}
use Rattle.lists.proofs.Selections.{filter_append, map_append}
use Rattle.lists.proofs.Column.{stored}
use Rattle.format.specs.Format.{line_at}
use Rattle.bill_files.specs.Accepted.{Bill, is_bill, bill_in, bills_in, bill_lines, bill_file}
use Rattle.booking.specs.Acceptable.{no_bill, bill_at}
use Rattle.file_bills.specs.declared.SourceBill.{SourceBill}
use Rattle.file_bills.specs.InsideBills.{source_entry, blank_source, source_at, Source, reference_in_column, References}
use Rattle.file_bills.specs.InsideReading.{bills_of, Reading}

-- ---- one line more
module _ (lines : List (List ℕ)) (i : ℕ) (h : i < length lines) where
  taken : take (i + 1) lines ≡ take i lines ++ line_at lines i ∷ []
  taken = ap (λ (k : ℕ). take k lines) (add-one i) ∙ take-suc lines i [] h

  chosen : bills_of lines (i + 1) ≡ bills_of lines i ++ map (bill_in (line_at lines 0)) (cond (is_bill (line_at lines i)) (line_at lines i ∷ []) [])
  chosen =
      ap (λ (ls : List (List ℕ)). map (bill_in (line_at lines 0)) (filter is_bill ls)) taken
      ∙ ap (map (bill_in (line_at lines 0))) (filter_append is_bill (take i lines) (line_at lines i ∷ []))
      ∙ map_append (bill_in (line_at lines 0)) (filter is_bill (take i lines)) (cond (is_bill (line_at lines i)) (line_at lines i ∷ []) [])

  bills_here : is_bill (line_at lines i) ≡ true → bills_of lines (i + 1) ≡ bills_of lines i ++ bill_in (line_at lines 0) (line_at lines i) ∷ []
  bills_here e = chosen ∙ ap (λ (t : Bool). bills_of lines i ++ map (bill_in (line_at lines 0)) (cond t (line_at lines i ∷ []) [])) e

  bills_past : is_bill (line_at lines i) ≡ false → bills_of lines (i + 1) ≡ bills_of lines i
  bills_past e = chosen ∙ ap (λ (t : Bool). bills_of lines i ++ map (bill_in (line_at lines 0)) (cond t (line_at lines i ∷ []) [])) e ∙ append-nil (bills_of lines i)

lines_append : (n : ℕ) (xs : List (List ℕ)) (l : List ℕ) → bill_lines n (xs ++ l ∷ []) ≡ bill_lines n xs ++ cond (is_bill l) (suc (n + length xs) ∷ []) []
unfolding bill_lines
lines_append n [] l = ap (λ (m : ℕ). cond (is_bill l) (suc m ∷ []) []) (sym (add-zero n))
lines_append n (x ∷ xs) l =
    go (is_bill x) (lines_append (suc n) xs l ∙ ap (λ (m : ℕ). bill_lines (suc n) xs ++ cond (is_bill l) (suc m ∷ []) []) (suc-add n (length xs) ∙ sym (add-suc n (length xs))))
  where
    go : (t : Bool) → bill_lines (suc n) (xs ++ l ∷ []) ≡ bill_lines (suc n) xs ++ cond (is_bill l) (suc (n + suc (length xs)) ∷ []) []
        → cond t (suc n ∷ bill_lines (suc n) (xs ++ l ∷ [])) (bill_lines (suc n) (xs ++ l ∷ []))
        ≡ cond t (suc n ∷ bill_lines (suc n) xs) (bill_lines (suc n) xs) ++ cond (is_bill l) (suc (n + suc (length xs)) ∷ []) []
    go true e = ap (λ (m : List ℕ). suc n ∷ m) e
    go false e = e

-- ---- the places of a list with one element more
module _ {A : Type 0} (xs xs' : List A) (y d : A) (m : ℕ) (long : m ≡ length xs) (more : xs' ≡ xs ++ y ∷ []) where
  place_kept : (k : ℕ) → k < m → get_or xs k d ≡ get_or xs' k d
  place_kept k h = sym (ap (λ (l : List A). get_or l k d) more ∙ get_or-append xs (y ∷ []) d k (omega (arith, long)))

  place_last : y ≡ get_or xs' m d
  place_last = sym (ap (λ (l : List A). get_or l m d) more ∙ ap (λ (k : ℕ). get_or (xs ++ y ∷ []) k d) long ∙ get_or-append_seam xs y [] d)

  place_count : m + 1 ≡ length xs'
  place_count = omega (arith, long, ap length more, length-append xs (y ∷ []))

-- ---- what is read
pub reading_none : (lines : List (List ℕ)) (sources : List SourceBill) → Reading lines 0 0 sources
unfolding bill_lines
reading_none lines sources = record {
  few = omega arith;
  room = omega arith;
  source = record { count = refl; each = λ k h. absurd (not-suc-le-zero h) };
  refers = record { each = λ k h. absurd (not-suc-le-zero h) };
  count = refl;
  stands = λ k h. absurd (not-suc-le-zero h);
}

module _ (lines : List (List ℕ)) (i m : ℕ) (sources : List SourceBill) (h : i < length lines) (R : Reading lines i m sources) where
  listed : bill_lines 0 (take (i + 1) lines) ≡ bill_lines 0 (take i lines) ++ cond (is_bill (line_at lines i)) (suc (0 + length (take i lines)) ∷ []) []
  listed = ap (bill_lines 0) (taken lines i h) ∙ lines_append 0 (take i lines) (line_at lines i)

  pub reading_skip : is_bill (line_at lines i) ≡ false → Reading lines (i + 1) m sources
  reading_skip e =
      let same = sym (bills_past lines i h e) in
      let also : bill_lines 0 (take (i + 1) lines) ≡ bill_lines 0 (take i lines) =
      listed ∙ ap (λ (t : Bool). bill_lines 0 (take i lines) ++ cond t (suc (0 + length (take i lines)) ∷ []) []) e ∙ append-nil (bill_lines 0 (take i lines)) in
      record {
        few = omega (arith, R.few);
        room = R.room;
        source = subst (λ (bs : List Bill). Source bs (take m sources)) same R.source;
        refers = subst (λ (bs : List Bill). References bs (take m sources)) same R.refers;
        count = R.count ∙ ap length (sym also);
        stands = λ k l. R.stands k l ∙ ap (λ (xs : List ℕ). get_or xs k 0) (sym also);
      }

  module _ (room : m < length sources) (s : SourceBill) (is : is_bill (line_at lines i) ≡ true)
      (fits : s.entry ≡ source_entry (bill_in (line_at lines 0) (line_at lines i))) (refers : s.reference ≡ reference_in_column (bill_in (line_at lines 0) (line_at lines i)).reference)
      (placed : s.line ≡ i + 1) where
    abbrev bills : List Bill
    bills = bills_of lines (i + 1)

    abbrev after : List SourceBill
    after = set sources m s

    more : bills ≡ bills_of lines i ++ bill_in (line_at lines 0) (line_at lines i) ∷ []
    more = bills_here lines i h is

    numbers : bill_lines 0 (take (i + 1) lines) ≡ bill_lines 0 (take i lines) ++ (i + 1) ∷ []
    numbers =
        listed ∙ ap (λ (t : Bool). bill_lines 0 (take i lines) ++ cond t (suc (0 + length (take i lines)) ∷ []) []) is
        ∙ ap (λ (n : ℕ). bill_lines 0 (take i lines) ++ n ∷ []) (next (length (take i lines)) (length-take-le i lines (omega arith)))
      where
        next : (n : ℕ) → n ≡ i → suc (0 + n) ≡ i + 1
        next n z = omega (arith, z)

    long : m ≡ length (bills_of lines i)
    long = sym (length-take-le m sources R.room) ∙ R.source.count

    count : m + 1 ≡ length bills
    count = place_count (bills_of lines i) bills _ no_bill m long more

    room_after : m + 1 ≤ length after
    room_after = omega (arith, room, length-set sources m s)

    -- what each bill that was read says, and the last of them, all of them say
    each : (P : Bill → SourceBill → Type 0) → ((k : ℕ) → k < length (bills_of lines i) → P (bill_at (bills_of lines i) k) (source_at (take m sources) k))
        → P (bill_in (line_at lines 0) (line_at lines i)) s → (k : ℕ) → k < length bills → P (bill_at bills k) (source_at (take (m + 1) after) k)
    each P all here k l =
        let low : k < m + 1 = omega (arith, l, count) in
        subst (P (bill_at bills k)) (sym (get_or-take (m + 1) after k blank_source low))
        (stored blank_source (λ j x. P (bill_at bills j) x) sources m s room
        (λ j q.
        subst (λ (b : Bill). P b (source_at sources j)) (place_kept (bills_of lines i) bills _ no_bill m long more j q)
        (subst (P (bill_at (bills_of lines i) j)) (get_or-take m sources j blank_source q) (all j (omega (arith, q, long)))))
        (subst (λ (b : Bill). P b s) (place_last (bills_of lines i) bills _ no_bill m long more) here)
        k low)

    pub reading_more : Reading lines (i + 1) (m + 1) (set sources m s)
    reading_more =
        record {
          few = omega (arith, R.few);
          room = room_after;
          source = record { count = length-take-le (m + 1) after room_after ∙ count; each = each (λ b x. x.entry ≡ source_entry b) R.source.each fits };
          refers = record { each = each (λ b x. x.reference ≡ reference_in_column b.reference) R.refers.each refers };
          count = place_count (bill_lines 0 (take i lines)) (bill_lines 0 (take (i + 1) lines)) (i + 1) 0 m R.count numbers;
          stands = stored blank_source (λ k x. x.line ≡ get_or (bill_lines 0 (take (i + 1) lines)) k 0) sources m s room
              (λ k q. R.stands k q ∙ place_kept (bill_lines 0 (take i lines)) (bill_lines 0 (take (i + 1) lines)) (i + 1) 0 m R.count numbers k q)
              (placed ∙ place_last (bill_lines 0 (take i lines)) (bill_lines 0 (take (i + 1) lines)) (i + 1) 0 m R.count numbers);
        }

-- ---- at the end
pub all_bills : (lines : List (List ℕ)) (n : ℕ) → n ≡ length lines → bills_of lines n ≡ (bill_file lines).bills
unfolding bill_file bills_in
all_bills lines n e = ap (λ (ls : List (List ℕ)). map (bill_in (line_at lines 0)) (filter is_bill ls)) (take_all n lines (omega (arith, e)))

pub all_lines : (lines : List (List ℕ)) (n : ℕ) → n ≡ length lines → bill_lines 0 (take n lines) ≡ (bill_file lines).lines
unfolding bill_file
all_lines lines n e = ap (bill_lines 0) (take_all n lines (omega (arith, e)))
