-- Document 01, "The ledger": "A ledger is sound if ..", sentence by sentence.
-- Assumes nothing.
use Rattle.std.specs.Prelude.{ℕ, ◌^◌, List, Bool, not, ◌&&◌, ◌||◌, cond, eqb, leb, ltb, ℤ, nat_abs, ◌+ℤ◌, length, take}
use Rattle.lists.specs.Below.{some_below, count_below}
use Rattle.calendar.specs.Periods.{shares_day}
use Rattle.entries.specs.declared.Entry.{Entry}
use Rattle.entries.specs.Entries.{entry_of, is_live, is_period, period}

-- ---- "the run has at most 8,192 entries and the used count doesn't exceed it"
unfoldable pub sizes_fit : ℕ → ℕ → Bool
sizes_fit places used = leb places 8192 && leb used places

-- ---- "senders have at most 4 digits, sites 13, IDs and amounts 15"
unfoldable pub digits_fit : Entry → Bool
digits_fit e =
    ltb e.sender (10 ^ 4) && ltb e.site (10 ^ 13) && ltb e.id (10 ^ 15) && ltb e.cancels (10 ^ 15)
    && ltb (nat_abs e.charge) (10 ^ 15) && ltb (nat_abs e.usage) (10 ^ 15)

-- ---- "commodities, kinds, states and days are in range, state 0 being for file entries and no others"
abbrev pub within : ℕ → ℕ → ℕ → Bool
within low high n = leb low n && leb n high

unfoldable pub ranges_fit : Entry → Bool
ranges_fit e =
    within 1 2 e.commodity && within 1 3 e.kind && leb e.state 4 && leb e.start 36524 && leb e.end 36524
    && cond (eqb e.kind 1) (eqb e.state 0) (not (eqb e.state 0))

-- ---- "no start day is after its end day"
unfoldable pub days_fit : Entry → Bool
days_fit e = leb e.start e.end

-- ---- "what a kind lacks is 0, as is the cancelled ID outside state 4": only periods have days and usage, and a file has no site
abbrev pub is_zero : ℤ → Bool
is_zero z = eqb (nat_abs z) 0

unfoldable pub lacks_fit : Entry → Bool
lacks_fit e =
    (is_period e || (eqb e.start 0 && eqb e.end 0 && is_zero e.usage)) && (not (eqb e.kind 1) || eqb e.site 0)
    && (eqb e.state 4 || eqb e.cancels 0)

-- the four sentences that look at one entry
unfoldable pub entry_fits : Entry → Bool
entry_fits e = digits_fit e && ranges_fit e && days_fit e && lacks_fit e

-- ---- "no sender and Record ID pair repeats"
abbrev pub same_key : Entry → Entry → Bool
same_key a b = eqb a.sender b.sender && eqb a.id b.id

-- an entry before the one at i has its sender and Record ID
unfoldable pub repeats_key : List Entry → ℕ → Bool
repeats_key es i = some_below (λ (j : ℕ). same_key (entry_of es j) (entry_of es i)) i

-- ---- "live periods of a site share no day"
abbrev pub is_live_period : Entry → Bool
is_live_period e = is_live e && is_period e

unfoldable pub clash : Entry → Entry → Bool
clash a b = is_live_period a && is_live_period b && eqb a.site b.site && shares_day (period a) (period b)

-- a live period before the one at i, of its site, shares a day with it
unfoldable pub clashes : List Entry → ℕ → Bool
clashes es i = some_below (λ (j : ℕ). clash (entry_of es j) (entry_of es i)) i

-- ---- "cancels and cancelled entries pair off as 39 and 40 require, the cancelled one earlier"
-- alike in what test 39 compares, but for the Record ID
abbrev pub same_subject : Entry → Entry → Bool
same_subject a b =
    eqb a.sender b.sender && eqb a.commodity b.commodity && eqb a.kind b.kind && eqb a.site b.site
    && eqb a.start b.start && eqb a.end b.end

-- a cancelled entry that has what the cancel c names
unfoldable pub is_named : Entry → Entry → Bool
is_named c e = eqb e.state 3 && eqb e.id c.cancels && same_subject c e

-- a cancel that names what the cancel c names
unfoldable pub names_alike : Entry → Entry → Bool
names_alike c d = eqb d.state 4 && eqb d.cancels c.cancels && same_subject c d

-- test 40's: charge and usage are the opposites
unfoldable pub opposite : Entry → Entry → Bool
opposite c e = is_zero (c.charge +ℤ e.charge) && is_zero (c.usage +ℤ e.usage)

-- how many before i name what the cancel c names, and how many before j have it
unfoldable pub cancels_before : List Entry → Entry → ℕ → ℕ
cancels_before es c i = count_below (λ (k : ℕ). names_alike c (entry_of es k)) i

unfoldable pub cancelled_before : List Entry → Entry → ℕ → ℕ
cancelled_before es c j = count_below (λ (k : ℕ). is_named c (entry_of es k)) j

-- the cancel at i pairs with the cancelled entry at j, before it: the k-th cancel with the k-th cancelled entry of those alike
unfoldable pub pairs : List Entry → ℕ → ℕ → Bool
pairs es i j =
    eqb (entry_of es i).state 4 && ltb j i && is_named (entry_of es i) (entry_of es j) && opposite (entry_of es i) (entry_of es j)
    && eqb (cancels_before es (entry_of es i) i) (cancelled_before es (entry_of es i) j)

-- the entry at i is a cancel without its cancelled entry, or a cancelled entry without its cancel
unfoldable pub unpaired : List Entry → ℕ → Bool
unpaired es i =
    (eqb (entry_of es i).state 4 && not (some_below (λ (j : ℕ). pairs es i j) (length es)))
    || (eqb (entry_of es i).state 3 && not (some_below (λ (k : ℕ). pairs es k i) (length es)))

-- ---- their conjunction, over the entries that are in use
unfoldable pub is_faulty : List Entry → ℕ → Bool
is_faulty es i = not (entry_fits (entry_of es i)) || repeats_key es i || clashes es i || unpaired es i

unfoldable pub entries_sound : List Entry → Bool
entries_sound es = not (some_below (is_faulty es) (length es))

-- a run, and how many of its entries are in use; what stands past them doesn't matter
unfoldable pub is_sound : List Entry → ℕ → Bool
is_sound run used = sizes_fit (length run) used && entries_sound (take used run)
