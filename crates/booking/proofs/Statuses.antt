-- What the booking order decides: no two live periods of a site share a day; and, of records without a key twice, what each is after the list.
--     cancel_each      where a cancel fits one record at most, to change the earliest that it fits is to change each that it fits
-- Assumes nothing.
use mathlib.Core.Path.{◌≡◌, refl, sym, ap, ◌∙◌, subst, subst⁻¹}
use mathlib.Core.Logic.{◌↔◌, ⊎_elim}
use mathlib.Core.Bool.{Bool, true, false, not, ◌&&◌, ◌||◌, cond, and-true, true≢false, false≢true}
use mathlib.Core.List.{List, [], ◌∷◌, ◌++◌, map, append_assoc, append-nil}
use Prim.Native.Nat.{ℕ, suc, ◌+◌, ◌≤◌}
use native.Mathlib.Omega.{arith}
use lib.Dec.{T, eqb, eqb→eq}
use lib.ListN.{length, get_or, length-append, length-map}
use lib.Seq.{get_or-append_seam}
use Rattle.lists.specs.Selections.{filter, any, count}
use Rattle.lists.specs.InsideSelections.{distinct}
use Rattle.lists.proofs.Selections.{is_true, from_true, eq→eqb, and_left, and_right, and_both, both, is_false, neither, cases, map_append, filter_append, any_ext, distinct_snoc}
use Rattle.calendar.specs.Periods.{shares_day}
use Rattle.calendar.proofs.Periods.{shares_day_lem}
use Rattle.bill_files.specs.Accepted.{Bill}
use Rattle.booking.specs.Guarantee.{fits, names, is_period, days, shares_site_day, HasDay, Status, live, held, cancelled, cancelling, is_live_status, is_held_status, Standing, standing, live_periods, is_held_at_turn, at_turn, is_uncancelled, cancel_fitting, turn, turns, status_at}
use Rattle.booking.proofs.Turns.{turn_cancel, turn_original, turns_append, bills, bills_cancelled, bills_turn, bills_turns, Once, fits_once, once_left, once_turn, Named, NoneNamed, named_or_none, chosen_with, chosen_same, chosen_left, chosen_after_cancel}

-- ════ no two live periods of a site share a day

-- two periods share a day of their site just where some site and day are in both
pub shares_site_day_lem : (p q : Bill) → (shares_site_day p q ≡ true) ↔ ((site : ℕ) × (day : ℕ) × HasDay p site day × HasDay q site day)
unfolding shares_site_day
shares_site_day_lem p q = (
  λ e.
      let s = eqb→eq p.site q.site (from_true (and_left (eqb p.site q.site) (shares_day (days p) (days q)) e)) in
      let d = (shares_day_lem (days p) (days q)).0 (and_right (eqb p.site q.site) (shares_day (days p) (days q)) e) in
      (p.site, d.0, (refl, d.1.0, d.1.1), (sym s, d.2.0, d.2.1)),
  λ w.
      and_both (eqb p.site q.site) (shares_day (days p) (days q))
      (is_true (eqb p.site q.site) (eq→eqb (w.2.0 ∙ sym w.3.0)))
      ((shares_day_lem (days p) (days q)).1 (w.1, (w.2.1, w.2.2), (w.3.1, w.3.2))),
)

abbrev is_live_period : Standing → Bool
is_live_period s = is_live_status s.status && is_period s.bill

-- all that matters here of what holds an original at its turn: a period that isn't held shares no day with a live period of its site
unheld_apart : (bs : List Standing) (b : Bill) → is_held_at_turn bs b ≡ false → is_period b ≡ true → any (shares_site_day b) (live_periods bs) ≡ false
unfolding is_held_at_turn
unheld_apart bs b h p = ap (λ (x : Bool). x && any (shares_site_day b) (live_periods bs)) (sym p) ∙ h

unfoldable pub Apart : List Standing → Type 0
Apart bs = T (distinct (λ p q. shares_site_day q p) (live_periods bs))

-- one of them less
module _ {A : Type 0} where
  any_less : (p : A → Bool) (xs ys : List A) (y : A) → any p (xs ++ y ∷ ys) ≡ false → any p (xs ++ ys) ≡ false
  any_less p [] ys y e = (neither (p y) (any p ys) e).1
  any_less p (x ∷ xs) ys y e = let n = neither (p x) (any p (xs ++ y ∷ ys)) e in rw n.0 (any_less p xs ys y n.1)

  distinct_less : (same : A → A → Bool) (xs ys : List A) (y : A) → T (distinct same (xs ++ y ∷ ys)) → T (distinct same (xs ++ ys))
  distinct_less same [] ys y t = (both (not (any (same y) ys)) (distinct same ys) t).1
  distinct_less same (x ∷ xs) ys y t =
      let h = both (not (any (same x) (xs ++ y ∷ ys))) (distinct same (xs ++ y ∷ ys)) t in
      rw (any_less (same x) xs ys y (is_false (any (same x) (xs ++ y ∷ ys)) h.0)) (distinct_less same xs ys y h.1)

apart_cancel : (bs : List Standing) (c : Bill) → c.cancel ≡ true → Apart bs → Apart (turn bs c)
unfolding Apart
apart_cancel bs c y a =
    rw (chosen_after_cancel c is_live_period refl bs y)
    (⊎_elim named (λ (n : NoneNamed c bs). rw n.leaves a) (named_or_none c bs))
  where
    named : Named c bs → T (distinct (λ p q. shares_site_day q p) (live_periods (cancel_fitting c bs)))
    named n =
        let xs = live_periods n.before in
        let ys = live_periods n.after in
        subst⁻¹ (λ (l : List Bill). T (distinct (λ p q. shares_site_day q p) l)) (chosen_left c is_live_period (λ b. refl) bs n)
        (cases (is_live_period n.at)
        (λ e. distinct_less (λ p q. shares_site_day q p) xs ys n.at.bill (subst (λ (l : List Bill). T (distinct (λ p q. shares_site_day q p) l)) (chosen_with c is_live_period (λ b. refl) bs n e) a))
        (λ e. subst (λ (l : List Bill). T (distinct (λ p q. shares_site_day q p) l)) (chosen_same c is_live_period (λ b. refl) bs n e) a))

apart_original : (bs : List Standing) (b : Bill) → Apart bs → Apart (bs ++ standing b (at_turn bs b) ∷ [])
unfolding Apart
apart_original bs b a =
    rw (
      filter_append is_live_period bs (standing b (at_turn bs b) ∷ []),
      map_append (λ s. s.bill) (filter is_live_period bs) (filter is_live_period (standing b (at_turn bs b) ∷ [])),
    ) (go (is_held_at_turn bs b) (is_period b) refl refl)
  where
    alone : T (distinct (λ p q. shares_site_day q p) (live_periods bs ++ []))
    alone = rw (append-nil (live_periods bs)) a

    go : (x y : Bool) → is_held_at_turn bs b ≡ x → is_period b ≡ y
        → T (distinct (λ p q. shares_site_day q p)
        (live_periods bs ++ map (λ s. s.bill) (cond (is_live_status (cond x held live) && y) (standing b (cond x held live) ∷ []) [])))
    go true y e p = alone
    go false false e p = alone
    go false true e p = distinct_snoc (λ p q. shares_site_day q p) (live_periods bs) b a (unheld_apart bs b e p)

pub apart_turns : (bs : List Standing) (rest : List Bill) → Apart bs → Apart (turns bs rest)
apart_turns bs [] a = a
apart_turns bs (b ∷ rest) a =
    apart_turns (turn bs b) rest
    (cases b.cancel
    (λ e. apart_cancel bs b e a)
    (λ e. subst Apart (sym (turn_original bs b e)) (apart_original bs b a)))

pub apart_none : Apart []
unfolding Apart
apart_none = tt

-- where no two share a day, a day is in one at most
pub apart_days : (bs : List Standing) → Apart bs → (before between after : List Bill) (p q : Bill) (site day : ℕ)
    → live_periods bs ≡ before ++ p ∷ (between ++ q ∷ after) → HasDay p site day → HasDay q site day → ⊥
unfolding Apart
apart_days bs a before between after p q site day e hp hq =
    go before (subst (λ (l : List Bill). T (distinct (λ p q. shares_site_day q p) l)) e a)
  where
    at : (between : List Bill) → any (λ r. shares_site_day r p) (between ++ q ∷ after) ≡ false → ⊥
    at [] n =
        true≢false (sym ((shares_site_day_lem q p).1 (site, day, hq, hp)) ∙ (neither (shares_site_day q p) (any (λ r. shares_site_day r p) after) n).0)
    at (x ∷ xs) n = at xs (neither (shares_site_day x p) (any (λ r. shares_site_day r p) (xs ++ q ∷ after)) n).1

    go : (before : List Bill) → T (distinct (λ p q. shares_site_day q p) (before ++ p ∷ (between ++ q ∷ after))) → ⊥
    go [] t =
        at between (is_false (any (λ r. shares_site_day r p) (between ++ q ∷ after))
        (both (not (any (λ r. shares_site_day r p) (between ++ q ∷ after))) (distinct (λ p q. shares_site_day q p) (between ++ q ∷ after)) t).0)
    go (x ∷ xs) t =
        go xs
        (both (not (any (λ r. shares_site_day r x) (xs ++ p ∷ (between ++ q ∷ after)))) (distinct (λ p q. shares_site_day q p) (xs ++ p ∷ (between ++ q ∷ after))) t).1

-- ════ what a record is after the list

turn_length : (bs : List Standing) (b : Bill) → length (turn bs b) ≡ suc (length bs)
turn_length bs b = sym (length-map (turn bs b) (λ s. s.bill)) ∙ ap length (bills_turn bs b) ∙ length-append (bills bs) (b ∷ []) ∙ omega (arith, length-map bs (λ (s : Standing). s.bill))

turns_length : (bs : List Standing) (rest : List Bill) → length (turns bs rest) ≡ length bs + length rest
turns_length bs [] = omega arith
turns_length bs (b ∷ rest) = turns_length (turn bs b) rest ∙ omega (arith, turn_length bs b)

-- ---- where a cancel fits one record at most, it changes that one and no other

abbrev pub once_named : Status → Status
once_named live = cancelled
once_named held = cancelled
once_named cancelled = cancelled
once_named cancelling = cancelling

abbrev pub after_cancel : Bill → Standing → Standing
after_cancel c s = cond (fits c s.bill) (standing s.bill (once_named s.status)) s

fits_none : (c : Bill) (bs : List Standing) → count (fits c) (bills bs) ≤ 0 → map (after_cancel c) bs ≡ bs
fits_none c [] h = refl
fits_none c (s ∷ bs) h = cases (fits c s.bill)
    (λ e. let h' : suc (count (fits c) (bills bs)) ≤ 0 = rw e at h in absurd (omega arith))
    (λ e. rw e (ap (λ (l : List Standing). s ∷ l) (fits_none c bs (rw e at h))))

pub cancel_each : (c : Bill) (bs : List Standing) → count (fits c) (bills bs) ≤ 1 → cancel_fitting c bs ≡ map (after_cancel c) bs
cancel_each c [] h = refl
cancel_each c (s ∷ bs) h = cases (fits c s.bill)
    (λ e.
    let h' : suc (count (fits c) (bills bs)) ≤ 1 = rw e at h in
    let none = fits_none c bs (omega arith) in
    rw e (here s.status none (cancel_each c bs (omega arith) ∙ none)))
    (λ e. rw e (missed (is_uncancelled s) (cancel_each c bs (rw e at h))))
  where
    here : (t : Status) → map (after_cancel c) bs ≡ bs → cancel_fitting c bs ≡ bs
        → cond ((is_live_status t || is_held_status t) && true) (standing s.bill cancelled ∷ bs) (standing s.bill t ∷ cancel_fitting c bs)
        ≡ standing s.bill (once_named t) ∷ map (after_cancel c) bs
    here live m n = ap (λ (l : List Standing). standing s.bill cancelled ∷ l) (sym m)
    here held m n = ap (λ (l : List Standing). standing s.bill cancelled ∷ l) (sym m)
    here cancelled m n = ap (λ (l : List Standing). standing s.bill cancelled ∷ l) (n ∙ sym m)
    here cancelling m n = ap (λ (l : List Standing). standing s.bill cancelling ∷ l) (n ∙ sym m)

    missed : (x : Bool) → cancel_fitting c bs ≡ map (after_cancel c) bs → cond (x && false) (standing s.bill cancelled ∷ bs) (s ∷ cancel_fitting c bs) ≡ s ∷ map (after_cancel c) bs
    missed true m = ap (λ (l : List Standing). s ∷ l) m
    missed false m = ap (λ (l : List Standing). s ∷ l) m

-- ---- the status of a booked record, after more turns

cond_same : (x : Bool) (s : Status) → cond x s s ≡ s
cond_same true s = refl
cond_same false s = refl

named_twice : (s : Status) → once_named (once_named s) ≡ once_named s
named_twice live = refl
named_twice held = refl
named_twice cancelled = refl
named_twice cancelling = refl

-- a cancel that fits it
abbrev cancels_it : Bill → Bill → Bool
cancels_it b c = c.cancel && fits c b

pub names_fits : (c b : Bill) → c.cancel ≡ true → b.cancel ≡ false → names c b ≡ fits c b
names_fits c b e o = λ i. e i && not (o i) && fits c b

status_after : (xs ys : List Standing) (b : Bill) (s : Status) (after : List Bill) → Once (bills (xs ++ standing b s ∷ ys) ++ after)
    → status_at (length xs) (turns (xs ++ standing b s ∷ ys) after) ≡ cond (any (cancels_it b) after) (once_named s) s
status_after xs ys b s [] once =
    ap (λ (l : List Status). get_or l (length xs) cancelled) (map_append (λ x. x.status) xs (standing b s ∷ ys))
    ∙ ap (λ (n : ℕ). get_or (map (λ x. x.status) xs ++ s ∷ map (λ x. x.status) ys) n cancelled) (sym (length-map xs (λ x. x.status)))
    ∙ get_or-append_seam (map (λ x. x.status) xs) s (map (λ x. x.status) ys) cancelled
status_after xs ys b s (a ∷ after) once = cases a.cancel
    (λ e.
    ap (λ (l : List Standing). status_at (length xs) (turns l after)) (cancelled_turn e)
    ∙ ap (λ (n : ℕ). status_at n (turns (map (after_cancel a) xs ++ standing b (cond (fits a b) (once_named s) s) ∷ (map (after_cancel a) ys ++ standing a cancelling ∷ [])) after))
    (sym (length-map xs (after_cancel a)))
    ∙ status_after (map (after_cancel a) xs) (map (after_cancel a) ys ++ standing a cancelling ∷ []) b (cond (fits a b) (once_named s) s) after
    (subst (λ (l : List Standing). Once (bills l ++ after)) (cancelled_turn e) next_once)
    ∙ merge (fits a b) (any (cancels_it b) after)
    ∙ ap (λ (x : Bool). cond ((x && fits a b) || any (cancels_it b) after) (once_named s) s) (sym e))
    (λ e.
    ap (λ (l : List Standing). status_at (length xs) (turns l after)) (original_turn e)
    ∙ status_after xs (ys ++ standing a (at_turn (xs ++ standing b s ∷ ys) a) ∷ []) b s after (subst (λ (l : List Standing). Once (bills l ++ after)) (original_turn e) next_once)
    ∙ ap (λ (x : Bool). cond ((x && fits a b) || any (cancels_it b) after) (once_named s) s) (sym e))
  where
    next_once : Once (bills (turn (xs ++ standing b s ∷ ys) a) ++ after)
    next_once = once_turn (xs ++ standing b s ∷ ys) a after once

    outside : (x : Bool) → cond x (standing b (once_named s)) (standing b s) ≡ standing b (cond x (once_named s) s)
    outside true = refl
    outside false = refl

    cancelled_turn : a.cancel ≡ true → turn (xs ++ standing b s ∷ ys) a
        ≡ map (after_cancel a) xs ++ standing b (cond (fits a b) (once_named s) s) ∷ (map (after_cancel a) ys ++ standing a cancelling ∷ [])
    cancelled_turn e =
        turn_cancel (xs ++ standing b s ∷ ys) a e
        ∙ ap (λ (l : List Standing). l ++ standing a cancelling ∷ [])
        (cancel_each a (xs ++ standing b s ∷ ys) (fits_once a (bills (xs ++ standing b s ∷ ys)) (once_left (bills (xs ++ standing b s ∷ ys)) (a ∷ after) once))
        ∙ map_append (after_cancel a) xs (standing b s ∷ ys))
        ∙ append_assoc (map (after_cancel a) xs) (after_cancel a (standing b s) ∷ map (after_cancel a) ys) (standing a cancelling ∷ [])
        ∙ ap (λ (x : Standing). map (after_cancel a) xs ++ x ∷ (map (after_cancel a) ys ++ standing a cancelling ∷ [])) (outside (fits a b))

    original_turn : a.cancel ≡ false → turn (xs ++ standing b s ∷ ys) a ≡ xs ++ standing b s ∷ (ys ++ standing a (at_turn (xs ++ standing b s ∷ ys) a) ∷ [])
    original_turn e = turn_original (xs ++ standing b s ∷ ys) a e ∙ append_assoc xs (standing b s ∷ ys) (standing a (at_turn (xs ++ standing b s ∷ ys) a) ∷ [])

    merge : (x y : Bool) → cond y (once_named (cond x (once_named s) s)) (cond x (once_named s) s) ≡ cond (x || y) (once_named s) s
    merge true y = ap (λ (t : Status). cond y t (once_named s)) (named_twice s) ∙ cond_same y (once_named s)
    merge false y = refl

-- of records without a key twice, from a start on: the place of a booked one is after those of the start
module _ (start : List Standing) (before after : List Bill) (b : Bill) (once : Once (bills start ++ (before ++ b ∷ after))) where
  status_archive : (s : Status) (others : List Standing) → turn (turns start before) b ≡ others ++ standing b s ∷ [] → length others ≡ length start + length before
      → status_at (length start + length before) (turns start (before ++ b ∷ after)) ≡ cond (any (cancels_it b) after) (once_named s) s
  status_archive s others e size =
      ap (λ (l : List Standing). status_at (length start + length before) l) (turns_append start before (b ∷ after) ∙ ap (λ (l : List Standing). turns l after) e)
      ∙ ap (λ (n : ℕ). status_at n (turns (others ++ standing b s ∷ []) after)) (sym size)
      ∙ status_after others [] b s after (subst (λ (l : List Standing). Once (bills l ++ after)) e (once_turn (turns start before) b after at_turn_lem))
    where
      at_turn_lem : Once (bills (turns start before) ++ b ∷ after)
      at_turn_lem = subst⁻¹ Once (ap (λ (l : List Bill). l ++ b ∷ after) (bills_turns start before) ∙ append_assoc (bills start) before (b ∷ after)) once

  -- an original
  status_original : b.cancel ≡ false
      → status_at (length start + length before) (turns start (before ++ b ∷ after)) ≡ cond (any (λ c. names c b) after) cancelled (at_turn (turns start before) b)
  status_original o =
      status_archive (at_turn (turns start before) b) (turns start before) (turn_original (turns start before) b o) (turns_length start before)
      ∙ (λ i. cond (any_ext (cancels_it b) (λ c. names c b) after (λ c. regroup c.cancel (fits c b)) i) (named_at_turn (is_held_at_turn (turns start before) b) i) (at_turn (turns start before) b))
    where
      named_at_turn : (x : Bool) → once_named (cond x held live) ≡ cancelled
      named_at_turn true = refl
      named_at_turn false = refl

      regroup : (x y : Bool) → (x && y) ≡ (x && not b.cancel && y)
      regroup x y = sym ((λ i. x && not (o i) && y) ∙ (λ i. and-true x i && y))

  -- "A cancel is neither."
  pub status_cancel : b.cancel ≡ true → status_at (length start + length before) (turns start (before ++ b ∷ after)) ≡ cancelling
  status_cancel y =
      status_archive cancelling (cancel_fitting b (turns start before)) (turn_cancel (turns start before) b y)
      (sym (length-map (cancel_fitting b (turns start before)) (λ s. s.bill)) ∙ ap length (bills_cancelled b (turns start before)) ∙ length-map (turns start before) (λ s. s.bill) ∙ turns_length start before)
      ∙ cond_same (any (cancels_it b) after) cancelling

  -- named or not, held at its turn or not: it is what it was at its turn just where no cancel has named it since
  unnamed_exactly : (named h t : Bool) → (cond named cancelled (cond h held live) ≡ cond t held live) ↔ ((h ≡ t) × (named ≡ false))
  unnamed_exactly true h true = (λ e. absurd (false≢true (ap is_held_status e)), λ w. absurd (true≢false w.1))
  unnamed_exactly true h false = (λ e. absurd (false≢true (ap is_live_status e)), λ w. absurd (true≢false w.1))
  unnamed_exactly false true true = (λ e. (refl, refl), λ w. refl)
  unnamed_exactly false true false = (λ e. absurd (false≢true (ap is_live_status e)), λ w. absurd (true≢false w.0))
  unnamed_exactly false false true = (λ e. absurd (false≢true (ap is_held_status e)), λ w. absurd (false≢true w.0))
  unnamed_exactly false false false = (λ e. (refl, refl), λ w. refl)

  -- an original is held (t is true), or live (t is false), just where it was so at its turn and no cancel has named it since
  pub status_exactly : (t : Bool) → b.cancel ≡ false
      → (status_at (length start + length before) (turns start (before ++ b ∷ after)) ≡ cond t held live) ↔ ((is_held_at_turn (turns start before) b ≡ t) × (any (λ c. names c b) after ≡ false))
  status_exactly t o =
      subst (λ (s : Status). (s ≡ cond t held live) ↔ ((is_held_at_turn (turns start before) b ≡ t) × (any (λ c. names c b) after ≡ false)))
      (sym (status_original o)) (unnamed_exactly (any (λ c. names c b) after) (is_held_at_turn (turns start before) b) t)
