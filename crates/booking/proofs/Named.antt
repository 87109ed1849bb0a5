-- What the tests make of the booking: each cancel names one record, none is named twice, and what the charges come to.
-- Assumes nothing.
use mathlib.Core.Path.{◌≡◌, refl, sym, ap, ◌∙◌, subst}
use mathlib.Core.Bool.{Bool, true, false, not, ◌&&◌, ◌||◌, cond, and-false, false≢true}
use Rattle.std.specs.Prelude.{Option, Some, None}
use mathlib.Core.List.Memᴰ
use mathlib.Core.List.{List, [], ◌∷◌, ◌++◌, append-nil, Memᴰ}
use mathlib.Core.Logic.{⊎_elim}
use Prim.Native.Nat.{◌+◌, ◌≤◌}
use native.Mathlib.Nat.{le_trans}
use native.Mathlib.Omega.{arith}
use lib.Dec.{T}
use lib.IntN.{ℤ, neg_ℤ, ◌+ℤ◌, +ℤ_idr, +ℤ_assoc, +ℤ_comm, +ℤ-neg_ℤ_cancel}
use Rattle.lists.specs.Selections.{filter, any, count, sum}
use Rattle.lists.specs.InsideSelections.{all}
use Rattle.lists.proofs.Selections.{and_left, and_right, and_both, is_true, both, is_false, neither, map_append, filter_append, any_append, count_append, count_mono, the_one, sum_append}
use Rattle.bill_files.specs.Accepted.{Bill}
use Rattle.booking.specs.InsidePasses.{Key, same_key, key_of}
use Rattle.booking.specs.Guarantee.{fits, names, Opposite, Status, live, held, cancelled, cancelling, is_live_status, is_held_status, Standing, standing, is_held_at_turn, at_turn, is_uncancelled, turn, turns, live_of, held_of}
use Rattle.booking.proofs.Turns.{turn_original, bills, bills_turn, reference_key, Once, key_same, fits_key, fits_once, has, once_left, once_turn, named_standing, Named, NoneNamed, named_or_none, chosen_with, chosen_left, chosen_after_cancel}
use Rattle.booking.proofs.Statuses.{names_fits}
use Rattle.booking.proofs.Opposites.{opposes, opposite_amounts}

-- ════ the records that are live or held

abbrev pub uncancelled : List Standing → List Bill
uncancelled bs = bills (filter is_uncancelled bs)

abbrev pub charges : List Bill → ℤ
charges bs = sum (λ b. b.charge) bs

-- an original is live or held
uncancelled_original : (bs : List Standing) (b : Bill) → b.cancel ≡ false → uncancelled (turn bs b) ≡ uncancelled bs ++ b ∷ []
uncancelled_original bs b e =
    ap uncancelled (turn_original bs b e)
    ∙ ap bills (filter_append is_uncancelled bs (standing b (at_turn bs b) ∷ []))
    ∙ map_append (λ s. s.bill) (filter is_uncancelled bs) (filter is_uncancelled (standing b (at_turn bs b) ∷ []))
    ∙ ap (λ (l : List Bill). uncancelled bs ++ l) (go (is_held_at_turn bs b))
  where
    go : (x : Bool) → bills (filter is_uncancelled (standing b (cond x held live) ∷ [])) ≡ b ∷ []
    go true = refl
    go false = refl

-- ════ what tests 39 and 40 give of a cancel at its turn: it names one that is live or held, with the opposite amounts

abbrev pub is_opposing : Bill → Option Standing → Bool
is_opposing c None = false
is_opposing c (Some s) = opposes c s.bill

abbrev pub HasOpposite : List Standing → Bill → Type 0
HasOpposite bs c = is_opposing c (named_standing c bs) ≡ true

abbrev pub AllHaveOpposites : List Standing → List Bill → Type 0
AllHaveOpposites bs [] = Unit {0}
AllHaveOpposites bs (c ∷ cs) = HasOpposite bs c × AllHaveOpposites (turn bs c) cs

-- the one that it names, which the live or held records lose
record Opposed (bs : List Standing) (c : Bill) : Type 0 where
  named : Named c bs
  opposing : opposes c named.at.bill ≡ true

the_opposite : (bs : List Standing) (c : Bill) → HasOpposite bs c → Opposed bs c
the_opposite bs c m =
    ⊎_elim (λ (n : Named c bs). record { named = n; opposing = sym (ap (is_opposing c) n.named) ∙ m })
    (λ (n : NoneNamed c bs). absurd (false≢true (sym (ap (is_opposing c) n.named) ∙ m))) (named_or_none c bs)

module _ (bs : List Standing) (c : Bill) (y : c.cancel ≡ true) (n : Named c bs) where
  with_it : uncancelled bs ≡ uncancelled n.before ++ n.at.bill ∷ uncancelled n.after
  with_it = chosen_with c is_uncancelled (λ b. refl) bs n n.uncancelled

  without_it : uncancelled (turn bs c) ≡ uncancelled n.before ++ uncancelled n.after
  without_it = chosen_after_cancel c is_uncancelled refl bs y ∙ chosen_left c is_uncancelled (λ b. refl) bs n

-- ════ the charges

take_back : (x q z : ℤ) → (x +ℤ (q +ℤ z)) +ℤ neg_ℤ q ≡ x +ℤ z
take_back x q z = ap (λ (w : ℤ). (x +ℤ w) +ℤ neg_ℤ q) (+ℤ_comm q z) ∙ ap (λ (w : ℤ). w +ℤ neg_ℤ q) (sym (+ℤ_assoc x z q)) ∙ +ℤ-neg_ℤ_cancel (x +ℤ z) q

-- a cancel takes the charge of the one that it names
charges_cancel : (bs : List Standing) (c : Bill) → c.cancel ≡ true → HasOpposite bs c → charges (uncancelled (turn bs c)) ≡ charges (uncancelled bs) +ℤ c.charge
charges_cancel bs c y m =
    let o = the_opposite bs c m in
    let n = o.named in
    let b = n.at.bill in
    let xs = uncancelled n.before in
    let ys = uncancelled n.after in
    ap charges (without_it bs c y n)
    ∙ sum_append (λ b. b.charge) xs ys
    ∙ sym (take_back (charges xs) b.charge (charges ys))
    ∙ ap (λ (z : ℤ). z +ℤ neg_ℤ b.charge) (sym (ap charges (with_it bs c y n) ∙ sum_append (λ b. b.charge) xs (b ∷ ys)))
    ∙ ap (λ (z : ℤ). charges (uncancelled bs) +ℤ z) (sym (opposite_amounts c b o.opposing).0)

charges_original : (bs : List Standing) (b : Bill) → b.cancel ≡ false → charges (uncancelled (turn bs b)) ≡ charges (uncancelled bs) +ℤ b.charge
charges_original bs b e =
    ap charges (uncancelled_original bs b e)
    ∙ sum_append (λ b. b.charge) (uncancelled bs) (b ∷ [])
    ∙ ap (λ (z : ℤ). charges (uncancelled bs) +ℤ z) (+ℤ_idr b.charge)

pub live_and_held : (bs : List Standing) → charges (live_of bs) +ℤ charges (held_of bs) ≡ charges (uncancelled bs)
live_and_held [] = refl
live_and_held (s ∷ bs) = go (live_and_held bs) s.status
  where
    q : ℤ
    q = s.bill.charge

    l : ℤ
    l = charges (live_of bs)

    h : ℤ
    h = charges (held_of bs)

    with_first : Bool → List Standing → ℤ
    with_first x bs = charges (bills (cond x (s ∷ bs) bs))

    go : l +ℤ h ≡ charges (uncancelled bs) → (t : Status)
        → with_first (is_live_status t) (filter (λ s. is_live_status s.status) bs) +ℤ with_first (is_held_status t) (filter (λ s. is_held_status s.status) bs)
        ≡ with_first (is_live_status t || is_held_status t) (filter is_uncancelled bs)
    go e live = +ℤ_assoc q l h ∙ ap (λ (z : ℤ). q +ℤ z) e
    go e held = sym (+ℤ_assoc l q h) ∙ ap (λ (z : ℤ). z +ℤ h) (+ℤ_comm l q) ∙ +ℤ_assoc q l h ∙ ap (λ (z : ℤ). q +ℤ z) e
    go e cancelled = e
    go e cancelling = e

-- ════ originals and cancels pair off

abbrev pub is_cancel_of : Key → Bill → Bool
is_cancel_of k c = c.cancel && same_key (reference_key c) k

abbrev pub is_original_of : Key → Bill → Bool
is_original_of k b = not b.cancel && has k b

pub record PairOff (bs : List Standing) : Type 0 where
  -- what is live or held is an original
  pub originals_only : any (λ b. b.cancel) (uncancelled bs) ≡ false
  -- an original is live or held, or there is one cancel that refers to it
  pub counted : (k : Key) → count (has k) (uncancelled bs) + count (is_cancel_of k) (bills bs) ≡ count (is_original_of k) (bills bs)

-- of which one less is live or held
any_parts : (p : Bill → Bool) (xs ys : List Bill) (b : Bill) → any p (xs ++ b ∷ ys) ≡ false → (p b ≡ false) × (any p (xs ++ ys) ≡ false)
any_parts p xs ys b e =
    let h = neither (any p xs) (p b || any p ys) (sym (any_append p xs (b ∷ ys)) ∙ e) in
    let k = neither (p b) (any p ys) h.1 in
    (k.0, any_append p xs ys ∙ rw (h.0, k.1))

originals_parts : (bs : List Standing) (c : Bill) → c.cancel ≡ true → (n : Named c bs) → PairOff bs
    → (n.at.bill.cancel ≡ false) × (any (λ b. b.cancel) (uncancelled (turn bs c)) ≡ false)
originals_parts bs c y n k =
    let h = any_parts (λ b. b.cancel) (uncancelled n.before) (uncancelled n.after) n.at.bill (ap (any (λ b. b.cancel)) (sym (with_it bs c y n)) ∙ k.originals_only) in
    (h.0, ap (any (λ b. b.cancel)) (without_it bs c y n) ∙ h.1)

count_one : (p : Bill → Bool) (bs : List Bill) (b : Bill) → count p (bs ++ b ∷ []) ≡ count p bs + cond (p b) 1 0
count_one p bs b = count_append p bs (b ∷ [])

-- the counts after one record more
count_turn : (p : Bill → Bool) (bs : List Standing) (b : Bill) → count p (bills (turn bs b)) ≡ count p (bills bs) + cond (p b) 1 0
count_turn p bs b = ap (count p) (bills_turn bs b) ∙ count_one p (bills bs) b

pair_off_cancel : (bs : List Standing) (c : Bill) → c.cancel ≡ true → HasOpposite bs c → PairOff bs → PairOff (turn bs c)
pair_off_cancel bs c e m k =
    record {
      originals_only = (originals_parts bs c e (the_opposite bs c m).named k).1;
      counted = counted_cancel;
    }
  where
    counted_cancel : (key : Key) → count (has key) (uncancelled (turn bs c)) + count (is_cancel_of key) (bills (turn bs c)) ≡ count (is_original_of key) (bills (turn bs c))
    counted_cancel key =
        let n = (the_opposite bs c m).named in
        let xs = uncancelled n.before in
        let ys = uncancelled n.after in
        let b = n.at.bill in
        let left = ap (count (has key)) (without_it bs c e n) ∙ count_append (has key) xs ys in
        let parts = ap (count (has key)) (with_it bs c e n) ∙ count_append (has key) xs (b ∷ ys) in
        let one : count (has key) (b ∷ ys) ≡ count (has key) (b ∷ []) + count (has key) ys = count_append (has key) (b ∷ []) ys in
        let gone : count (has key) (b ∷ []) ≡ cond (same_key (reference_key c) key) 1 0 = ap (λ (x : Key). cond (same_key x key) 1 0) (fits_key c b n.fitting) in
        let more : count (is_cancel_of key) (bills (turn bs c)) ≡ count (is_cancel_of key) (bills bs) + cond (same_key (reference_key c) key) 1 0 =
        count_turn (is_cancel_of key) bs c ∙ ap (λ (x : Bool). count (is_cancel_of key) (bills bs) + cond (x && same_key (reference_key c) key) 1 0) e in
        let same : count (is_original_of key) (bills (turn bs c)) ≡ count (is_original_of key) (bills bs) + 0 =
        count_turn (is_original_of key) bs c ∙ ap (λ (x : Bool). count (is_original_of key) (bills bs) + cond (not x && has key c) 1 0) e in
        let before = k.counted key in
        omega arith

pair_off_original : (bs : List Standing) (b : Bill) → b.cancel ≡ false → PairOff bs → PairOff (turn bs b)
pair_off_original bs b e k =
    record {
      originals_only = ap (any (λ b. b.cancel)) (uncancelled_original bs b e) ∙ any_append (λ b. b.cancel) (uncancelled bs) (b ∷ []) ∙ rw (k.originals_only, e);
      counted = counted_original;
    }
  where
    counted_original : (key : Key) → count (has key) (uncancelled (turn bs b)) + count (is_cancel_of key) (bills (turn bs b)) ≡ count (is_original_of key) (bills (turn bs b))
    counted_original key =
        let left = ap (count (has key)) (uncancelled_original bs b e) ∙ count_one (has key) (uncancelled bs) b in
        let same : count (is_cancel_of key) (bills (turn bs b)) ≡ count (is_cancel_of key) (bills bs) + 0 =
        count_turn (is_cancel_of key) bs b ∙ ap (λ (x : Bool). count (is_cancel_of key) (bills bs) + cond (x && same_key (reference_key b) key) 1 0) e in
        let more : count (is_original_of key) (bills (turn bs b)) ≡ count (is_original_of key) (bills bs) + cond (has key b) 1 0 =
        count_turn (is_original_of key) bs b ∙ ap (λ (x : Bool). count (is_original_of key) (bills bs) + cond (not x && has key b) 1 0) e in
        let before = k.counted key in
        omega arith

-- ════ the one that a cancel names

abbrev pub NamesOne : Bill → List Bill → Type 0
NamesOne c bs = (b : Bill) × (filter (names c) bs ≡ b ∷ []) × Opposite c b

names_at_turn : (bs : List Standing) (c : Bill) → c.cancel ≡ true → Once (bills bs) → HasOpposite bs c → PairOff bs → NamesOne c (bills bs)
names_at_turn bs c e once m k =
    let o = the_opposite bs c m in
    let n = o.named in
    let b = n.at.bill in
    let test : Bill → Bool = λ x. names c x && opposes c x in
    let named : names c b ≡ true = names_fits c b e (originals_parts bs c e n k).0 ∙ n.fitting in
    let stands : bills bs ≡ bills n.before ++ b ∷ bills n.after = ap bills n.stands ∙ map_append (λ s. s.bill) n.before (n.at ∷ n.after) in
    let among : any test (bills bs) ≡ true =
    ap (any test) stands ∙ any_append test (bills n.before) (b ∷ bills n.after) ∙ found (any test (bills n.before)) (test b) (any test (bills n.after)) (and_both (names c b) (opposes c b) named o.opposing) in
    let t =
    the_one (names c) (opposes c) (bills bs) among
    (le_trans (count_mono (names c) (fits c) (bills bs) (λ x. and_right (c.cancel && not x.cancel) (fits c x))) (fits_once c (bills bs) once)) in
    (t.0, t.1, opposite_amounts c t.0 t.3)
  where
    found : (x y z : Bool) → y ≡ true → (x || (y || z)) ≡ true
    found true y z e = refl
    found false true z e = refl
    found false false z e = absurd (false≢true e)

refers_to_lem : (c b : Bill) → names c b ≡ true → is_cancel_of (key_of b) c ≡ true
refers_to_lem c b n =
    and_both c.cancel (same_key (reference_key c) (key_of b))
    (and_left c.cancel (not b.cancel) (and_left (c.cancel && not b.cancel) (fits c b) n))
    (key_same (reference_key c) (key_of b) (sym (fits_key c b (and_right (c.cancel && not b.cancel) (fits c b) n))))

-- no record is named by two of the cancels
pub named_once : (bs : List Standing) → Once (bills bs) → PairOff bs → (b : Bill) → count (λ c. names c b) (bills bs) ≤ 1
named_once bs o k b =
    let key = key_of b in
    let m = count_mono (λ c. names c b) (is_cancel_of key) (bills bs) (λ c. refers_to_lem c b) in
    let p = k.counted key in
    let q = count_mono (is_original_of key) (has key) (bills bs) (λ x. and_right (not x.cancel) (has key x)) in
    let u = o key in
    omega arith

-- ════ the cancels of a file, and its originals

pub record After (bs : List Standing) (rest : List Bill) : Type 0 where
  pub pair_off : PairOff (turns bs rest)
  pub sums : charges (uncancelled (turns bs rest)) ≡ charges (uncancelled bs) +ℤ charges rest

after_none : (bs : List Standing) → PairOff bs → After bs []
after_none bs k = record { pair_off = k; sums = sym (+ℤ_idr (charges (uncancelled bs))) }

after_one : (bs : List Standing) (b : Bill) (rest : List Bill) → charges (uncancelled (turn bs b)) ≡ charges (uncancelled bs) +ℤ b.charge → After (turn bs b) rest
    → After bs (b ∷ rest)
after_one bs b rest e a =
    record {
      pair_off = a.pair_off;
      sums = a.sums ∙ ap (λ (z : ℤ). z +ℤ charges rest) e ∙ +ℤ_assoc (charges (uncancelled bs)) b.charge (charges rest);
    }

pub after_cancels : (bs : List Standing) (cs : List Bill) → T (all (λ b. b.cancel) cs) → AllHaveOpposites bs cs → PairOff bs → After bs cs
after_cancels bs [] a m k = after_none bs k
after_cancels bs (c ∷ cs) a m k =
    let h = both c.cancel (all (λ b. b.cancel) cs) a in
    let e = is_true c.cancel h.0 in
    after_one bs c cs (charges_cancel bs c e m.0) (after_cancels (turn bs c) cs h.1 m.1 (pair_off_cancel bs c e m.0 k))

pub after_originals : (bs : List Standing) (os : List Bill) → T (all (λ b. not b.cancel) os) → PairOff bs → After bs os
after_originals bs [] a k = after_none bs k
after_originals bs (b ∷ os) a k =
    let h = both (not b.cancel) (all (λ b. not b.cancel) os) a in
    let e = is_false b.cancel h.0 in
    after_one bs b os (charges_original bs b e) (after_originals (turn bs b) os h.1 (pair_off_original bs b e k))

-- no cancel is named
names_no_cancel : (c x : Bill) → x.cancel ≡ true → names c x ≡ false
names_no_cancel c x e = (λ i. c.cancel && not (e i) && fits c x) ∙ ap (λ (y : Bool). y && fits c x) (and-false c.cancel)

-- each cancel of a file names one record of those booked before the file
pub names_cancels : (bs : List Standing) (cs rest : List Bill) → T (all (λ b. b.cancel) cs) → Once (bills bs ++ (cs ++ rest)) → AllHaveOpposites bs cs → PairOff bs
    → (c : Bill) → Memᴰ c cs → NamesOne c (bills bs)
names_cancels bs [] rest a o m k c i = absurd (Memᴰ.not-nil i)
names_cancels bs (x ∷ cs) rest a o m k c i =
    let h = both x.cancel (all (λ b. b.cancel) cs) a in
    let e = is_true x.cancel h.0 in
    let o₁ = once_left (bills bs) (x ∷ (cs ++ rest)) o in
    ⊎_elim
    (λ (p : c ≡ x). subst (λ (y : Bill). NamesOne y (bills bs)) (sym p) (names_at_turn bs x e o₁ m.0 k))
    (λ (j : Memᴰ c cs).
    let n = names_cancels (turn bs x) cs rest h.1 (once_turn bs x (cs ++ rest) o) m.1 (pair_off_cancel bs x e m.0 k) c j in
    (n.0, sym (skip x e c) ∙ n.1, n.2))
    (Memᴰ.cases_cons i)
  where
    skip : (x : Bill) → x.cancel ≡ true → (c : Bill) → filter (names c) (bills (turn bs x)) ≡ filter (names c) (bills bs)
    skip x e c =
        ap (filter (names c)) (bills_turn bs x) ∙ filter_append (names c) (bills bs) (x ∷ [])
        ∙ ap (λ (y : Bool). filter (names c) (bills bs) ++ cond y (x ∷ []) []) (names_no_cancel c x e) ∙ append-nil (filter (names c) (bills bs))
