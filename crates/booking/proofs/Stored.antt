-- The ledger's entries, those of files left out, are the entries of the booked records with what they are now, in booking order.
-- Assumes nothing.
use mathlib.Core.Path.{◌≡◌, refl, sym, ap, ◌∙◌}
use mathlib.Core.Bool.{Bool, true, false, not, ◌&&◌, ◌||◌, cond, and_assoc, true≢false}
use mathlib.Core.List.{List, [], ◌∷◌, ◌++◌, map, map-map, append-nil}
use Prim.Native.Nat.{ℕ, suc}
use lib.Dec.{T, eqb, eqb→eq, eqb-zero-suc}
use borrow.Author.Tests.{eqb-true, eqb-false, eq-eqb, not-false}
use Rattle.lists.specs.Selections.{filter, any}
use Rattle.lists.specs.InsideSelections.{all}
use Rattle.lists.proofs.Selections.{is_true, from_true, both, is_false, and_left, cases, map_append, filter_map, any_map, map_filter_ext, filter_append, filter_ext, any_ext, filter_under, any_under, any_filter, all_filter}
use Rattle.calendar.specs.Periods.{shares_day}
use Rattle.calendar.proofs.Periods.{shares_day_symmetric}
use Rattle.bill_files.specs.Accepted.{Bill, BillFile}
use Rattle.entries.specs.declared.Entry.{Entry}
use Rattle.entries.specs.Entries.{is_live, is_held, in_state}
use Rattle.soundness.specs.Sound.{same_subject}
use Rattle.booking.specs.Booking.{cancels, originals, entry, file_entry, refers_to, is_live_or_held, names_entry, cancel_named, overlaps, state_of, original, book_cancels, book_originals, booked}
use Rattle.booking.specs.Guarantee.{fits, is_period, days, shares_site_day, Status, live, held, cancelled, cancelling, is_live_status, is_held_status, Standing, standing, live_periods, is_held_at_turn, at_turn, is_uncancelled, cancel_fitting, turn, turns, live_of, held_of}
use Rattle.booking.proofs.Turns.{turn_cancel, turn_original, turns_append}
use Rattle.booking.proofs.Overlaps.{overlap_found}

-- "state (1 live, 2 held, 3 cancelled, 4 cancel)"
abbrev pub code : Status → ℕ
code live = 1
code held = 2
code cancelled = 3
code cancelling = 4

-- the entry of a booked record
abbrev pub entry_now : Standing → Entry
entry_now s = entry s.bill (code s.status)

-- an entry of a record, and not of a file
abbrev pub is_record : Entry → Bool
is_record e = not (eqb e.state 0)

abbrev pub Stores : List Entry → List Standing → Type 0
Stores l bs = filter is_record l ≡ map entry_now bs

pub file_state : (e : Entry) → is_record e ≡ false → e.state ≡ 0
file_state e h = eqb→eq e.state 0 (from_true (not-false (eqb e.state 0) h))

-- ════ what a cancel names

-- the test 39 but for the state
abbrev pub fits_entry : Bill → Entry → Bool
fits_entry c e = refers_to c.reference e.id && same_subject (entry c 4) e

pub names_fits_entry : (c : Bill) (e : Entry) → names_entry c e ≡ (is_live_or_held e && fits_entry c e)
unfolding names_entry
names_fits_entry c e = and_assoc (is_live_or_held e) (refers_to c.reference e.id) (same_subject (entry c 4) e)

pub fits_entry_lem : (c b : Bill) (n : ℕ) → fits_entry c (entry b n) ≡ fits c b
unfolding fits
fits_entry_lem c b n =
    regroup (refers_to c.reference b.record_id) (eqb c.sender b.sender) (eqb c.commodity b.commodity) (eqb c.kind b.kind)
    (eqb c.site b.site) (eqb c.start b.start) (eqb c.end b.end)
  where
    regroup : (a b c d e f g : Bool) → (a && (b && c && d && e && f && g)) ≡ (a && b && c && d && e && f && g)
    regroup true b c d e f g = refl
    regroup false b c d e f g = refl

-- a cancel names the entry of a record just where the record is live or held and the cancel fits it
pub names_now : (c : Bill) (s : Standing) → names_entry c (entry_now s) ≡ (is_uncancelled s && fits c s.bill)
names_now c s = names_fits_entry c (entry_now s) ∙ (λ i. uncancelled_code s.status i && fits_entry_lem c s.bill (code s.status) i)
  where
    uncancelled_code : (s : Status) → (eqb (code s) 1 || eqb (code s) 2) ≡ (is_live_status s || is_held_status s)
    uncancelled_code live = refl
    uncancelled_code held = refl
    uncancelled_code cancelled = refl
    uncancelled_code cancelling = refl

names_no_file : (c : Bill) (e : Entry) → is_record e ≡ false → names_entry c e ≡ false
unfolding names_entry
names_no_file c e h = rw (file_state e h)

pub names_record : (c : Bill) (e : Entry) → names_entry c e ≡ true → is_record e ≡ true
names_record c e n = cases (is_record e) (λ h. h) (λ h. absurd (true≢false (sym n ∙ names_no_file c e h)))

-- ════ a cancel

-- no file entry is named: the entries of the records are changed as by themselves
records_cancelled : (c : Bill) (l : List Entry) → filter is_record (cancel_named c l) ≡ cancel_named c (filter is_record l)
records_cancelled c [] = refl
records_cancelled c (e ∷ l) = cases (names_entry c e)
    (λ n. rw (n, names_record c e n) (rw n))
    (λ n. rw n (go n (is_record e) (records_cancelled c l)))
  where
    go : names_entry c e ≡ false → (x : Bool) → filter is_record (cancel_named c l) ≡ cancel_named c (filter is_record l)
        → cond x (e ∷ filter is_record (cancel_named c l)) (filter is_record (cancel_named c l)) ≡ cancel_named c (cond x (e ∷ filter is_record l) (filter is_record l))
    go n true h = rw n (ap (λ (m : List Entry). e ∷ m) h)
    go n false h = h

-- the earliest entry that it names is that of the earliest record
cancels_now : (c : Bill) (bs : List Standing) → cancel_named c (map entry_now bs) ≡ map entry_now (cancel_fitting c bs)
cancels_now c [] = refl
cancels_now c (s ∷ bs) =
    ap (λ (x : Bool). cond x (in_state (entry_now s) 3 ∷ map entry_now bs) (entry_now s ∷ cancel_named c (map entry_now bs))) (names_now c s)
    ∙ cases (is_uncancelled s && fits c s.bill)
    (λ e. rw e (ap (λ (x : Entry). x ∷ map entry_now bs) (cancelled_now s.status (and_left (is_uncancelled s) (fits c s.bill) e))))
    (λ e. rw e (ap (λ (m : List Entry). entry_now s ∷ m) (cancels_now c bs)))
  where
    cancelled_now : (t : Status) → (is_live_status t || is_held_status t) ≡ true → in_state (entry s.bill (code t)) 3 ≡ entry s.bill 3
    cancelled_now live e = refl
    cancelled_now held e = refl
    cancelled_now cancelled e = absurd (true≢false (sym e))
    cancelled_now cancelling e = absurd (true≢false (sym e))

pub stores_cancel : (l : List Entry) (bs : List Standing) (c : Bill) → c.cancel ≡ true → Stores l bs → Stores (cancel_named c l ++ entry c 4 ∷ []) (turn bs c)
stores_cancel l bs c y t =
    filter_append is_record (cancel_named c l) (entry c 4 ∷ [])
    ∙ ap (λ (x : List Entry). x ++ entry c 4 ∷ []) (records_cancelled c l ∙ ap (cancel_named c) t ∙ cancels_now c bs)
    ∙ sym (map_append entry_now (cancel_fitting c bs) (standing c cancelling ∷ []))
    ∙ ap (map entry_now) (sym (turn_cancel bs c y))

-- ════ an original

eqb_symmetric : (m n : ℕ) → eqb m n ≡ eqb n m
eqb_symmetric m n = cases (eqb m n)
    (λ e. e ∙ sym (eq-eqb n m (sym (eqb-true m n e))))
    (λ e. e ∙ sym (cases (eqb n m) (λ h. absurd (eqb-false m n e (sym (eqb-true n m h)))) (λ h. h)))

-- an original overlaps a live entry just where that is a period, of its site, with a day in common
pub overlaps_entry_lem : (b q : Bill) → overlaps b (entry q 1) ≡ (is_period q && shares_site_day b q)
unfolding overlaps shares_site_day
overlaps_entry_lem b q =
    and_assoc (is_period q) (eqb q.site b.site) (shares_day (days q) (days b))
    ∙ (λ i. is_period q && (eqb_symmetric q.site b.site i && shares_day_symmetric (days q) (days b) i))

overlaps_now : (b q : Bill) (s : Status) → overlaps b (entry q (code s)) ≡ (is_live_status s && is_period q && shares_site_day b q)
unfolding overlaps
overlaps_now b q live = overlaps_entry_lem b q
overlaps_now b q held = refl
overlaps_now b q cancelled = refl
overlaps_now b q cancelling = refl

overlaps_no_file : (b : Bill) (e : Entry) → is_record e ≡ false → overlaps b e ≡ false
unfolding overlaps
overlaps_no_file b e h = rw (file_state e h)

any_overlaps : (l : List Entry) (bs : List Standing) (b : Bill) → Stores l bs → any (overlaps b) l ≡ any (shares_site_day b) (live_periods bs)
any_overlaps l bs b t =
    sym (any_under (overlaps b) is_record l (overlaps_no_file b))
    ∙ ap (any (overlaps b)) t
    ∙ any_map (overlaps b) entry_now bs
    ∙ any_ext (λ s. overlaps b (entry_now s)) (λ s. is_live_status s.status && is_period s.bill && shares_site_day b s.bill) bs
    (λ s. overlaps_now b s.bill s.status)
    ∙ sym (any_filter (λ s. shares_site_day b s.bill) (λ s. is_live_status s.status && is_period s.bill) bs)
    ∙ sym (any_map (shares_site_day b) (λ s. s.bill) (filter (λ s. is_live_status s.status && is_period s.bill) bs))

code_at_turn : (x : Bool) → cond x 2 1 ≡ code (cond x held live)
code_at_turn true = refl
code_at_turn false = refl

-- the state of its entry is what the record is at its turn
pub state_at_turn : (l : List Entry) (bs : List Standing) (b : Bill) → Stores l bs → state_of l b ≡ code (at_turn bs b)
unfolding state_of is_held_at_turn
state_at_turn l bs b t =
    ap (λ (x : Bool). cond (is_period b && x) 2 1) (overlap_found l b ∙ any_overlaps l bs b t) ∙ code_at_turn (is_period b && any (shares_site_day b) (live_periods bs))

record_one : (b : Bill) (s : Status) → filter is_record (entry b (code s) ∷ []) ≡ entry b (code s) ∷ []
record_one b live = refl
record_one b held = refl
record_one b cancelled = refl
record_one b cancelling = refl

-- its entry is that of the record with what it is at its turn
pub original_at_turn : (l : List Entry) (bs : List Standing) (b : Bill) → Stores l bs → original l b ≡ entry_now (standing b (at_turn bs b))
original_at_turn l bs b t = ap (entry b) (state_at_turn l bs b t)

stores_original : (l : List Entry) (bs : List Standing) (b : Bill) → b.cancel ≡ false → Stores l bs → Stores (l ++ original l b ∷ []) (turn bs b)
stores_original l bs b o t =
    ap (λ (e : Entry). filter is_record (l ++ e ∷ [])) (original_at_turn l bs b t)
    ∙ filter_append is_record l (entry b (code (at_turn bs b)) ∷ [])
    ∙ ap (λ (x : List Entry). filter is_record l ++ x) (record_one b (at_turn bs b))
    ∙ ap (λ (x : List Entry). x ++ entry b (code (at_turn bs b)) ∷ []) t
    ∙ sym (map_append entry_now bs (standing b (at_turn bs b) ∷ []))
    ∙ ap (map entry_now) (sym (turn_original bs b o))

-- ════ a file

stores_cancels : (l : List Entry) (bs : List Standing) (cs : List Bill) → T (all (λ b. b.cancel) cs) → Stores l bs → Stores (book_cancels l cs) (turns bs cs)
stores_cancels l bs [] a t = t
stores_cancels l bs (c ∷ cs) a t =
    let h = both c.cancel (all (λ b. b.cancel) cs) a in
    stores_cancels (cancel_named c l ++ entry c 4 ∷ []) (turn bs c) cs h.1 (stores_cancel l bs c (is_true c.cancel h.0) t)

stores_originals : (l : List Entry) (bs : List Standing) (os : List Bill) → T (all (λ b. not b.cancel) os) → Stores l bs
    → Stores (book_originals l os) (turns bs os)
stores_originals l bs [] a t = t
stores_originals l bs (b ∷ os) a t =
    let h = both (not b.cancel) (all (λ b. not b.cancel) os) a in
    stores_originals (l ++ original l b ∷ []) (turn bs b) os h.1 (stores_original l bs b (is_false b.cancel h.0) t)

stores_file_entry : (l : List Entry) (bs : List Standing) (file : BillFile) → Stores l bs → Stores (l ++ file_entry file ∷ []) bs
stores_file_entry l bs file t = filter_append is_record l (file_entry file ∷ []) ∙ append-nil (filter is_record l) ∙ t

pub stores_booked : (l : List Entry) (bs : List Standing) (file : BillFile) → Stores l bs → Stores (booked l file) (turns bs (cancels file ++ originals file))
stores_booked l bs file t =
    rw turns_append
    (stores_originals (book_cancels (l ++ file_entry file ∷ []) (cancels file)) (turns bs (cancels file)) (originals file) (all_filter (λ b. not b.cancel) file.bills)
    (stores_cancels (l ++ file_entry file ∷ []) bs (cancels file) (all_filter (λ b. b.cancel) file.bills) (stores_file_entry l bs file t)))

-- ════ the entries in a state are those of the booked records that have the status with that code

no_file_state : (n : ℕ) (e : Entry) → is_record e ≡ false → eqb e.state (suc n) ≡ false
no_file_state n e h = rw (file_state e h, eqb-zero-suc n)

in_state_lem : (l : List Entry) (bs : List Standing) (n : ℕ) (is : Status → Bool) → Stores l bs → ((s : Status) → eqb (code s) (suc n) ≡ is s)
    → filter (λ e. eqb e.state (suc n)) l ≡ map (λ b. entry b (suc n)) (map (λ s. s.bill) (filter (λ s. is s.status) bs))
in_state_lem l bs n is t same =
    sym (filter_under (λ e. eqb e.state (suc n)) is_record l (no_file_state n))
    ∙ ap (filter (λ e. eqb e.state (suc n))) t
    ∙ filter_map (λ e. eqb e.state (suc n)) entry_now bs
    ∙ ap (map entry_now) (filter_ext (λ s. eqb (code s.status) (suc n)) (λ s. is s.status) bs (λ s. same s.status))
    ∙ map_filter_ext (λ s. is s.status) entry_now (λ s. entry s.bill (suc n)) bs
    (λ s e. ap (entry s.bill) (eqb-true (code s.status) (suc n) (same s.status ∙ e)))
    ∙ sym (map-map (λ b. entry b (suc n)) (λ s. s.bill) (filter (λ s. is s.status) bs))

live_code : (s : Status) → eqb (code s) 1 ≡ is_live_status s
live_code live = refl
live_code held = refl
live_code cancelled = refl
live_code cancelling = refl

held_code : (s : Status) → eqb (code s) 2 ≡ is_held_status s
held_code live = refl
held_code held = refl
held_code cancelled = refl
held_code cancelling = refl

pub live_entries : (l : List Entry) (bs : List Standing) → Stores l bs → filter is_live l ≡ map (λ b. entry b 1) (live_of bs)
live_entries l bs t = in_state_lem l bs 0 is_live_status t live_code

pub held_entries : (l : List Entry) (bs : List Standing) → Stores l bs → filter is_held l ≡ map (λ b. entry b 2) (held_of bs)
held_entries l bs t = in_state_lem l bs 1 is_held_status t held_code
