-- The charge total of a file that passes: it is the sum of the charges of its TH and OC.
--     parent_there       each record but the first hangs under one
--     trailer_total      the trailer's charge total is the sum of the charges of the bills
-- The trailer has the sum over CH and OC; every CH hangs under a TH, whose charge total is the sum over its own CH; so the sum over CH is the sum over TH.
-- Assumes nothing.
use mathlib.Core.Path.{◌≡◌, refl, sym, ◌∙◌, ap}
use mathlib.Core.Bool.{Bool, true, false, cond, ◌&&◌, ◌||◌}
use mathlib.Core.List.{List, [], ◌∷◌, map}
use Prim.Native.Nat.{ℕ, zero, suc, ◌+◌, ◌-◌, ◌≤◌, ◌<◌}
use native.Mathlib.Nat.{le_refl}
use native.Mathlib.Omega.{arith}
use borrow.Author.Tests.{eq-eqb, ne_eqb, eqb-true, eqb-false, le-leb, lt-leb, leb-true}
use lib.Dec.{eqb, leb}
use lib.ListN.{length}
use lib.IntN.{ℤ, pos, ◌+ℤ◌, +ℤ_idl, +ℤ_idr, +ℤ_assoc}
use Rattle.tables.specs.Types.{FH, TH, CH, OC, FT, may_follow, parent_type}
use Rattle.records.specs.Records.{type_in}
use Rattle.amounts.specs.declared.Amount.{Amount}
use Rattle.amounts.specs.declared.Amount.TheVariants.{Missing}
use Rattle.amounts.specs.Amounts.{or_zero}
use Rattle.columns.specs.Columns.{charge_in}
use Rattle.columns.proofs.Laws.{map_at}
use Rattle.tables.specs.Groups.{at, parent_place, all_places, ones}
use Rattle.tables.proofs.RecordTypes.{parent_at, picked_at_lem, place_at, one_at}
use Rattle.format.specs.Format.{line_at}
use Rattle.identity.proofs.Meaning.{every_parent}
use Rattle.totals.specs.Totals.{amount_at, group_sum}
use Rattle.totals.specs.InsideSums.{groups_sum}
use Rattle.totals.proofs.Laws.{sum_same, sum_none, sum_split, crossed}
use Rattle.refusals.specs.Check.{types, charges, parents_of, places_of, ones_of}
use Rattle.bill_files.specs.Accepted.{is_period, is_bill, bill_in, bills_in, bill_file, sum_of_charges}
use Rattle.lists.specs.Selections.{filter}
use Rattle.bill_files.specs.Passing.{type_at, Under, Passing}
use Rattle.bill_files.proofs.Lines.{type_at_lem, under_is, type_under_is, picked_size}
use Rattle.refusals.proofs.Columns.{types_length}
use Rattle.bill_files.proofs.Sums.{own_totals, file_totals}

-- ════ the charges of the lines that a test picks
unfoldable pub sum_where : (List ℕ → Bool) → List (List ℕ) → ℤ
sum_where pick [] = pos 0
sum_where pick (line ∷ lines) = cond (pick line) (or_zero (charge_in line)) (pos 0) +ℤ sum_where pick lines

abbrev one : Bool → ℕ
one b = cond b 1 0

abbrev marks : (List ℕ → Bool) → List (List ℕ) → List ℕ
marks pick lines = map (λ (line : List ℕ). one (pick line)) lines

mark_at : (pick : List ℕ → Bool) (lines : List (List ℕ)) (i : ℕ) → i < length lines → at (marks pick lines) i ≡ one (pick (line_at lines i))
mark_at pick lines i h = map_at (λ (line : List ℕ). one (pick line)) [] 0 lines i h

charge_at_lem : (lines : List (List ℕ)) (i : ℕ) → i < length lines → or_zero (amount_at (charges lines) i) ≡ or_zero (charge_in (line_at lines i))
charge_at_lem lines i h = ap or_zero (map_at charge_in [] Missing lines i h)

-- a sum is taken from the first record on as well as from the last
sum_first : (m : ℕ) (members : List ℕ) (a : Amount) (amounts : List Amount) (group n : ℕ)
    → group_sum (m ∷ members) (a ∷ amounts) group (suc n) ≡ cond (eqb m group) (or_zero a) (pos 0) +ℤ group_sum members amounts group n
unfolding group_sum
sum_first m members a amounts group zero = let x : ℤ = cond (eqb m group) (or_zero a) (pos 0) in +ℤ_idl x ∙ sym (+ℤ_idr x)
sum_first m members a amounts group (suc n) = rw (sum_first m members a amounts group n, +ℤ_assoc)

marked_one : (b : Bool) (x : ℤ) → cond (eqb (one b) 1) x (pos 0) ≡ cond b x (pos 0)
marked_one true x = refl
marked_one false x = refl

sum_marks : (pick : List ℕ → Bool) (lines : List (List ℕ)) → group_sum (marks pick lines) (charges lines) 1 (length lines) ≡ sum_where pick lines
unfolding group_sum sum_where
sum_marks pick [] = refl
sum_marks pick (line ∷ lines) =
    sum_first _ (marks pick lines) (charge_in line) (charges lines) 1 (length lines)
    ∙ rw (sum_marks pick lines, marked_one (pick line) (or_zero (charge_in line)))

-- one test, as two that never hold together
Parted : (a b c : List ℕ → Bool) → Type 0
Parted a b c = (line : List ℕ) (x : ℤ) → cond (c line) x (pos 0) ≡ cond (a line) x (pos 0) +ℤ cond (b line) x (pos 0)

sum_apart : (a b c : List ℕ → Bool) → Parted a b c → (lines : List (List ℕ)) → sum_where c lines ≡ sum_where a lines +ℤ sum_where b lines
unfolding sum_where Parted
sum_apart a b c apart [] = refl
sum_apart a b c apart (line ∷ lines) = rw (apart line (or_zero (charge_in line)), sum_apart a b c apart lines, crossed)

-- the charges of the bills are those of the lines that are bills
bills_sum : (header : List ℕ) (lines : List (List ℕ)) → sum_of_charges (map (bill_in header) (filter is_bill lines)) ≡ sum_where is_bill lines
unfolding sum_where bill_in
bills_sum header [] = refl
bills_sum header (line ∷ lines) = go (is_bill line) (bills_sum header lines)
  where
    go : (b : Bool) → sum_of_charges (map (bill_in header) (filter is_bill lines)) ≡ sum_where is_bill lines
        → sum_of_charges (map (bill_in header) (cond b (line ∷ filter is_bill lines) (filter is_bill lines))) ≡ cond b (or_zero (charge_in line)) (pos 0) +ℤ sum_where is_bill lines
    go true e = ap (λ (z : ℤ). or_zero (charge_in line) +ℤ z) e
    go false e = e ∙ sym (+ℤ_idl (sum_where is_bill lines))

-- ---- lines by their type
abbrev is_type : ℕ → List ℕ → Bool
is_type type line = eqb (type_in line) type

-- the types `low` to `high`
abbrev is_among : ℕ → ℕ → List ℕ → Bool
is_among low high line = leb low (type_in line) && leb (type_in line) high

either : (t a b : ℕ) (x : ℤ) → (a ≡ b → ⊥) → cond (eqb t a || eqb t b) x (pos 0) ≡ cond (eqb t a) x (pos 0) +ℤ cond (eqb t b) x (pos 0)
either t a b x other = go (eqb t a) (eqb t b) refl refl
  where
    go : (p q : Bool) → eqb t a ≡ p → eqb t b ≡ q → cond (p || q) x (pos 0) ≡ cond p x (pos 0) +ℤ cond q x (pos 0)
    go true true e f = absurd (other (sym (eqb-true t a e) ∙ eqb-true t b f))
    go true false e f = sym (+ℤ_idr x)
    go false true e f = sym (+ℤ_idl x)
    go false false e f = refl

-- two types that stand next to each other
next_types : (t a : ℕ) → (leb a t && leb t (suc a)) ≡ (eqb t a || eqb t (suc a))
next_types t a = go (eqb t a) (eqb t (suc a)) refl refl
  where
    apart : (t ≡ a → ⊥) → (t ≡ suc a → ⊥) → (p : Bool) → leb a t ≡ p → (p && leb t (suc a)) ≡ false
    apart p q true e = lt-leb t (suc a) (omega (arith, p, q, leb-true a t e))
    apart p q false e = refl

    go : (p q : Bool) → eqb t a ≡ p → eqb t (suc a) ≡ q → (leb a t && leb t (suc a)) ≡ (p || q)
    go true q e f = let same = eqb-true t a e in rw (le-leb a t (omega (arith, same)), le-leb t (suc a) (omega (arith, same)))
    go false true e f = let same = eqb-true t (suc a) f in rw (le-leb a t (omega (arith, same)), le-leb t (suc a) (omega (arith, same)))
    go false false e f = apart (eqb-false t a e) (eqb-false t (suc a) f) (leb a t) refl

charge_or_once : Parted (is_type CH) (is_type OC) (is_among CH OC)
unfolding Parted
charge_or_once line x = rw (next_types (type_in line) CH) (either (type_in line) CH OC x (λ e. omega (arith, e)))

period_or_once : Parted is_period (is_type OC) is_bill
unfolding Parted
period_or_once line x = either (type_in line) TH OC x (λ e. omega (arith, e))

-- the ones of a file's records of the types `low` to `high` mark its lines of these types
ones_sum : (low high : ℕ) (lines : List (List ℕ)) → group_sum (ones_of low high lines) (charges lines) 1 (length lines) ≡ sum_where (is_among low high) lines
ones_sum low high lines =
    sum_same (ones_of low high lines) (marks (is_among low high) lines) (charges lines) (charges lines) 1 (length lines) alike (λ i h. refl)
    ∙ sum_marks (is_among low high) lines
  where
    alike : (i : ℕ) → i < length lines → at (ones_of low high lines) i ≡ at (marks (is_among low high) lines) i
    alike i h =
        picked_at_lem (types lines) (ones (length lines)) low high i (omega (arith, types_length lines))
        ∙ rw (one_at (length lines) i h, type_at_lem lines i h) (sym (mark_at (is_among low high) lines i h))

-- ════ the lines of a file that passes
module _ {retailer : ℕ} {distributors : List ℕ} {lines : List (List ℕ)} (p : Passing retailer distributors lines) where
  first_type : at (types lines) 0 ≡ FH
  first_type = type_at_lem lines 0 p.some_line ∙ p.ordered.first

  follow : (i : ℕ) → 0 < i → i < length (types lines) → may_follow (at (types lines) (i - 1)) (at (types lines) i) ≡ true
  follow i low h =
      let k : i < length lines = omega (arith, types_length lines) in
      let next : i - 1 + 1 ≡ i = omega arith in
      rw (type_at_lem lines (i - 1) (omega arith), type_at_lem lines i k) (rw next at (p.ordered.follows (i - 1) (omega arith)))

  pub parent_there : (i : ℕ) → 0 < i → i < length lines → (j : ℕ) × Under lines i j
  parent_there i low h = go (parent_place (types lines) i) refl (every_parent (types lines) first_type follow i low known)
    where
      known : i < length (types lines)
      known = omega (arith, types_length lines)

      go : (place : ℕ) → parent_place (types lines) i ≡ place → 0 < parent_place (types lines) i → (j : ℕ) × Under lines i j
      go zero e some_place = absurd (omega (arith, e))
      go (suc j) e some_place = (j, (under_is lines i j h).0 (parent_at (types lines) i known ∙ e))

  not_first : {i : ℕ} → type_at lines i ≡ CH → 0 < i
  not_first {i} type = go i type
    where
      go : (i : ℕ) → type_at lines i ≡ CH → 0 < i
      go zero e = absurd (omega (arith, e, p.ordered.first))
      go (suc i) e = omega arith

  -- ---- the CH of each TH
  members : List ℕ
  members = parents_of CH CH lines

  module _ (i : ℕ) (h : i < length lines) where
    member_is : (j : ℕ) → at members i ≡ suc j → (type_at lines i ≡ CH) × Under lines i j
    unfolding members
    member_is j e = let u = (type_under_is lines i j h CH CH).0 e in (omega (arith, u.0, u.1), u.2)

    -- a CH is a member, and no other record is
    charge_member : at (marks (is_type CH) lines) i ≡ cond (eqb (at members i) 0) 0 1
    unfolding members
    charge_member = mark_at (is_type CH) lines i h ∙ go (at members i) refl
      where
        never : at members i ≡ 0 → (b : Bool) → eqb (type_at lines i) CH ≡ b → one b ≡ 0
        never e true q =
            let type : type_at lines i ≡ CH = eqb-true (type_at lines i) CH q in
            let later : 0 < i = not_first type in
            let w = parent_there i later h in
            absurd (omega (arith, e, (type_under_is lines i w.0 h CH CH).1 (omega (arith, type), omega (arith, type), w.1)))
        never e false q = refl

        go : (place : ℕ) → at members i ≡ place → one (eqb (type_at lines i) CH) ≡ cond (eqb place 0) 0 1
        go zero e = never e (eqb (type_at lines i) CH) refl
        go (suc j) e = rw (eq-eqb (type_at lines i) CH (member_is j e).0, ne_eqb (suc j) 0 (λ z. omega arith))

    member_low : at members i ≤ length lines
    member_low = go (at members i) refl
      where
        go : (place : ℕ) → at members i ≡ place → place ≤ length lines
        go zero e = omega arith
        go (suc j) e = omega (arith, (member_is j e).1.before)

  -- the members of a TH sum up to its charge, and no record hangs under another
  own_sum : (k : ℕ) → k < length lines → group_sum members (charges lines) (suc k) (length lines) ≡ cond (eqb (at (marks is_period lines) k) 1) (or_zero (amount_at (charges lines) k)) (pos 0)
  unfolding members parent_type
  own_sum k h = go (is_period (line_at lines k)) refl ∙ rw (mark_at is_period lines k h) (sym (marked_one (is_period (line_at lines k)) (or_zero (amount_at (charges lines) k))))
    where
      owners : List ℕ
      owners = places_of TH TH lines

      owner : type_at lines k ≡ TH → at owners k ≡ suc k
      owner type =
          let here : at (types lines) k ≡ TH = type_at_lem lines k h ∙ type in
          picked_at_lem (types lines) (all_places (length lines)) TH TH k (omega (arith, types_length lines))
          ∙ rw (here, place_at (length lines) k h) (omega arith)

      size : length owners ≡ length lines
      size = picked_size lines TH TH (all_places (length lines))

      go : (b : Bool) → is_period (line_at lines k) ≡ b → group_sum members (charges lines) (suc k) (length lines) ≡ cond b (or_zero (amount_at (charges lines) k)) (pos 0)
      go true e =
          let owns = owner (eqb-true (type_at lines k) TH e) in
          rw (owns, size) at ((own_totals lines CH CH charge_in).1 p.period_charge k (omega (arith, size)) (λ z. omega (arith, owns)))
      go false e =
          sum_none members (charges lines) (suc k) (length lines)
          (λ i l q. let m = member_is i l k q in eqb-false (type_at lines k) TH e (m.1.type ∙ ap parent_type m.0))

  periods_sum : (k : ℕ) → k ≤ length lines → groups_sum members (charges lines) (length lines) k ≡ group_sum (marks is_period lines) (charges lines) 1 k
  unfolding groups_sum group_sum
  periods_sum zero h = refl
  periods_sum (suc k) h = rw (periods_sum k (omega arith), own_sum k h)

  charges_are_periods : sum_where (is_type CH) lines ≡ sum_where is_period lines
  charges_are_periods =
      sym (sum_marks (is_type CH) lines)
      ∙ sum_split members (charges lines) (marks (is_type CH) lines) (length lines) charge_member member_low
      ∙ periods_sum (length lines) (le_refl (length lines))
      ∙ sum_marks is_period lines

  -- ---- the trailer
  trailer_sum : or_zero (charge_in (line_at lines (length lines - 1))) ≡ sum_where (is_among CH OC) lines
  trailer_sum = sym (charge_at_lem lines last inside) ∙ sym (rw (owns, size) at ((file_totals lines CH OC charge_in).1 p.file_charge_lem last (omega (arith, size)) (λ z. omega (arith, owns)))) ∙ ones_sum CH OC lines
    where
      last : ℕ
      last = length lines - 1

      inside : last < length lines
      inside = omega (arith, p.some_line)

      owners : List ℕ
      owners = ones_of FT FT lines

      owns : at owners last ≡ 1
      owns =
          let here : at (types lines) last ≡ FT = type_at_lem lines last inside ∙ p.ordered.last in
          picked_at_lem (types lines) (ones (length lines)) FT FT last (omega (arith, types_length lines, inside))
          ∙ rw (here, one_at (length lines) last inside)

      size : length owners ≡ length lines
      size = picked_size lines FT FT (ones (length lines))

  pub trailer_total : (bill_file lines).total ≡ sum_of_charges (bill_file lines).bills
  unfolding bill_file bills_in
  trailer_total =
      trailer_sum
      ∙ sum_apart (is_type CH) (is_type OC) (is_among CH OC) charge_or_once lines
      ∙ ap (λ (z : ℤ). z +ℤ sum_where (is_type OC) lines) charges_are_periods
      ∙ sym (sum_apart is_period (is_type OC) is_bill period_or_once lines)
      ∙ sym (bills_sum (line_at lines 0) lines)
