-- The turns of the booked records: their order, and their senders and Record IDs.
-- Assumes nothing.
use mathlib.Core.Path.{◌≡◌, refl, sym, ap, ◌∙◌, subst}
use mathlib.Core.Logic.{◌⊎◌, inl, inr, ⊎_elim}
use mathlib.Core.Bool.{Bool, true, false, ◌&&◌, cond, false≢true}
use Rattle.std.specs.Prelude.{Option, Some, None}
use mathlib.Core.List.{List, [], ◌∷◌, ◌++◌, map, append_assoc, append-nil}
use Prim.Native.Nat.{ℕ, ◌≤◌}
use native.Mathlib.Nat.{le_trans}
use native.Mathlib.Omega.{arith}
use lib.Dec.{T, eqb, eqb→eq, eqb_refl}
use Rattle.lists.specs.Selections.{filter, count}
use Rattle.lists.proofs.Selections.{is_true, from_true, both, cases, and_left, and_right, map_append, filter_append, count_append, count_mono}
use Rattle.bill_files.specs.Accepted.{Bill}
use Rattle.booking.specs.Booking.{id_or_zero, refers_to}
use Rattle.booking.specs.InsidePasses.{Key, same_key, key_of}
use Rattle.booking.specs.Guarantee.{fits, cancelled, cancelling, Standing, standing, at_turn, is_uncancelled, cancel_fitting, turn, turns}

-- ---- a turn, for a cancel and for an original

pub turn_cancel : (bs : List Standing) (c : Bill) → c.cancel ≡ true → turn bs c ≡ cancel_fitting c bs ++ standing c cancelling ∷ []
turn_cancel bs c e = ap (λ (x : Bool). cond x (cancel_fitting c bs ++ standing c cancelling ∷ []) (bs ++ standing c (at_turn bs c) ∷ [])) e

pub turn_original : (bs : List Standing) (b : Bill) → b.cancel ≡ false → turn bs b ≡ bs ++ standing b (at_turn bs b) ∷ []
turn_original bs b e = ap (λ (x : Bool). cond x (cancel_fitting b bs ++ standing b cancelling ∷ []) (bs ++ standing b (at_turn bs b) ∷ [])) e

pub turns_append : (bs : List Standing) (xs ys : List Bill) → turns bs (xs ++ ys) ≡ turns (turns bs xs) ys
turns_append bs [] ys = refl
turns_append bs (x ∷ xs) ys = turns_append (turn bs x) xs ys

-- ---- the order of the records

abbrev pub bills : List Standing → List Bill
bills bs = map (λ s. s.bill) bs

pub bills_cancelled : (c : Bill) (bs : List Standing) → bills (cancel_fitting c bs) ≡ bills bs
bills_cancelled c [] = refl
bills_cancelled c (s ∷ bs) = cases (is_uncancelled s && fits c s.bill)
    (λ e. rw e)
    (λ e. rw e (ap (λ (l : List Bill). s.bill ∷ l) (bills_cancelled c bs)))

pub bills_turn : (bs : List Standing) (b : Bill) → bills (turn bs b) ≡ bills bs ++ b ∷ []
bills_turn bs b = cases b.cancel
    (λ e.
    ap bills (turn_cancel bs b e) ∙ map_append (λ s. s.bill) (cancel_fitting b bs) (standing b cancelling ∷ [])
    ∙ ap (λ (l : List Bill). l ++ b ∷ []) (bills_cancelled b bs))
    (λ e. ap bills (turn_original bs b e) ∙ map_append (λ s. s.bill) bs (standing b (at_turn bs b) ∷ []))

pub bills_turns : (bs : List Standing) (rest : List Bill) → bills (turns bs rest) ≡ bills bs ++ rest
bills_turns bs [] = sym (append-nil (bills bs))
bills_turns bs (b ∷ rest) = bills_turns (turn bs b) rest ∙ ap (λ (l : List Bill). l ++ rest) (bills_turn bs b) ∙ append_assoc (bills bs) (b ∷ []) rest

-- ---- keys: a sender and a Record ID

abbrev pub has : Key → Bill → Bool
has k b = same_key (key_of b) k

-- no sender and Record ID twice
abbrev pub Once : List Bill → Type 0
Once bs = (k : Key) → count (has k) bs ≤ 1

-- what a cancel's Reference ID refers to
abbrev pub reference_key : Bill → Key
reference_key c = (c.sender, id_or_zero c.reference)

pub same_key_lem : (k m : Key) → same_key k m ≡ true → k ≡ m
same_key_lem k m e =
    let h = both (eqb k.0 m.0) (eqb k.1 m.1) (from_true e) in
    λ i. (eqb→eq k.0 m.0 h.0 i, eqb→eq k.1 m.1 h.1 i)

pub key_same : (k m : Key) → k ≡ m → same_key k m ≡ true
key_same k m e =
    subst (λ (x : Key). same_key k x ≡ true) e (rw (is_true (eqb k.0 k.0) (eqb_refl k.0), is_true (eqb k.1 k.1) (eqb_refl k.1)))

refers : (o : Option ℕ) (n : ℕ) → T (refers_to o n) → id_or_zero o ≡ n
refers None n t = absurd t
refers (Some m) n t = eqb→eq m n t

first_two : (a b c d e f g : Bool) → (a && b && c && d && e && f && g) ≡ true → T a × T b
first_two true true c d e f g h = (tt, tt)
first_two true false c d e f g h = absurd (false≢true h)
first_two false b c d e f g h = absurd (false≢true h)

pub fits_key : (c b : Bill) → fits c b ≡ true → key_of b ≡ reference_key c
unfolding fits
fits_key c b e =
    let h =
    first_two (refers_to c.reference b.record_id) (eqb c.sender b.sender) (eqb c.commodity b.commodity) (eqb c.kind b.kind)
    (eqb c.site b.site) (eqb c.start b.start) (eqb c.end b.end) e in
    let s : b.sender ≡ c.sender = sym (eqb→eq c.sender b.sender h.1) in
    let n : b.record_id ≡ id_or_zero c.reference = sym (refers c.reference b.record_id h.0) in
    λ i. (s i, n i)

-- so a cancel fits one record at most
pub fits_once : (c : Bill) (bs : List Bill) → Once bs → count (fits c) bs ≤ 1
fits_once c bs o =
    let m = count_mono (fits c) (has (reference_key c)) bs (λ b e. key_same (key_of b) (reference_key c) (fits_key c b e)) in
    let k = o (reference_key c) in
    omega arith

-- a part of the records has no key twice if the whole has none
pub once_left : (xs ys : List Bill) → Once (xs ++ ys) → Once xs
once_left xs ys o k = le_trans (omega (arith, count_append (has k) xs ys)) (o k)

pub once_turn : (bs : List Standing) (b : Bill) (rest : List Bill) → Once (bills bs ++ b ∷ rest) → Once (bills (turn bs b) ++ rest)
once_turn bs b rest o = subst Once (sym (ap (λ (l : List Bill). l ++ rest) (bills_turn bs b) ∙ append_assoc (bills bs) (b ∷ []) rest)) o

-- ---- what a cancel does to the records

-- the earliest record that it fits of those that are live or held
abbrev pub named_standing : Bill → List Standing → Option Standing
named_standing c [] = None
named_standing c (s ∷ bs) = cond (is_uncancelled s && fits c s.bill) (Some s) (named_standing c bs)

-- that record, and those before and after it, which stay as they are
pub record Named (c : Bill) (bs : List Standing) : Type 0 where
  pub before : List Standing
  pub at : Standing
  pub after : List Standing
  pub stands : bs ≡ before ++ at ∷ after
  pub leaves : cancel_fitting c bs ≡ before ++ standing at.bill cancelled ∷ after
  pub named : named_standing c bs ≡ Some at
  pub uncancelled : is_uncancelled at ≡ true
  pub fitting : fits c at.bill ≡ true

pub record NoneNamed (c : Bill) (bs : List Standing) : Type 0 where
  pub leaves : cancel_fitting c bs ≡ bs
  pub named : named_standing c bs ≡ None

pub named_or_none : (c : Bill) (bs : List Standing) → Named c bs ⊎ NoneNamed c bs
named_or_none c [] = inr (record { leaves = refl; named = refl })
named_or_none c (s ∷ bs) = cases (is_uncancelled s && fits c s.bill)
    (λ e. inl (record {
      before = [];
      at = s;
      after = bs;
      stands = refl;
      leaves = rw e;
      named = rw e;
      uncancelled = and_left (is_uncancelled s) (fits c s.bill) e;
      fitting = and_right (is_uncancelled s) (fits c s.bill) e;
    }))
    (λ e. ⊎_elim (λ (n : Named c bs). inl (later e n)) (λ (n : NoneNamed c bs). inr (record { leaves = rw e (ap (λ (l : List Standing). s ∷ l) n.leaves); named = rw e n.named })) (named_or_none c bs))
  where
    later : (is_uncancelled s && fits c s.bill) ≡ false → Named c bs → Named c (s ∷ bs)
    later e n =
        record {
          before = s ∷ n.before;
          at = n.at;
          after = n.after;
          stands = ap (λ (l : List Standing). s ∷ l) n.stands;
          leaves = rw e (ap (λ (l : List Standing). s ∷ l) n.leaves);
          named = rw e n.named;
          uncancelled = n.uncancelled;
          fitting = n.fitting;
        }

-- a selection that no cancelled record is in loses that record and no other
module _ (c : Bill) (chosen : Standing → Bool) (drops : (b : Bill) → chosen (standing b cancelled) ≡ false) (bs : List Standing) (n : Named c bs) where
  pub chosen_with : chosen n.at ≡ true → bills (filter chosen bs) ≡ bills (filter chosen n.before) ++ n.at.bill ∷ bills (filter chosen n.after)
  chosen_with e =
      ap (λ (l : List Standing). bills (filter chosen l)) n.stands
      ∙ ap bills (filter_append chosen n.before (n.at ∷ n.after))
      ∙ map_append (λ s. s.bill) (filter chosen n.before) (filter chosen (n.at ∷ n.after))
      ∙ ap (λ (x : Bool). bills (filter chosen n.before) ++ bills (cond x (n.at ∷ filter chosen n.after) (filter chosen n.after))) e

  pub chosen_same : chosen n.at ≡ false → bills (filter chosen bs) ≡ bills (filter chosen n.before) ++ bills (filter chosen n.after)
  chosen_same e =
      ap (λ (l : List Standing). bills (filter chosen l)) n.stands
      ∙ ap bills (filter_append chosen n.before (n.at ∷ n.after))
      ∙ map_append (λ s. s.bill) (filter chosen n.before) (filter chosen (n.at ∷ n.after))
      ∙ ap (λ (x : Bool). bills (filter chosen n.before) ++ bills (cond x (n.at ∷ filter chosen n.after) (filter chosen n.after))) e

  pub chosen_left : bills (filter chosen (cancel_fitting c bs)) ≡ bills (filter chosen n.before) ++ bills (filter chosen n.after)
  chosen_left =
      let gone = standing n.at.bill cancelled in
      ap (λ (l : List Standing). bills (filter chosen l)) n.leaves
      ∙ ap bills (filter_append chosen n.before (gone ∷ n.after))
      ∙ map_append (λ s. s.bill) (filter chosen n.before) (filter chosen (gone ∷ n.after))
      ∙ ap (λ (x : Bool). bills (filter chosen n.before) ++ bills (cond x (gone ∷ filter chosen n.after) (filter chosen n.after))) (drops n.at.bill)

-- the cancel itself, whose record is appended, isn't chosen
pub chosen_after_cancel : (c : Bill) (chosen : Standing → Bool) → chosen (standing c cancelling) ≡ false → (bs : List Standing) → c.cancel ≡ true
    → bills (filter chosen (turn bs c)) ≡ bills (filter chosen (cancel_fitting c bs))
chosen_after_cancel c chosen e bs y =
    ap (λ (l : List Standing). bills (filter chosen l)) (turn_cancel bs c y)
    ∙ ap bills (filter_append chosen (cancel_fitting c bs) (standing c cancelling ∷ [])
    ∙ ap (λ (x : Bool). filter chosen (cancel_fitting c bs) ++ cond x (standing c cancelling ∷ []) []) e
    ∙ append-nil (filter chosen (cancel_fitting c bs)))
