-- Demand 3, the archive's guarantee: "a single claim about a whole list of Book calls". Document 01, "The ledger"; what is quoted with "Demand 3" before
-- it is the demand itself.
-- "The words of demand 3 are taken from the files and from the answers that say which were accepted, never from the entries".
-- Assumes nothing.
use Rattle.std.specs.Prelude.{◌≡◌, ◌↔◌, Bool, true, false, not, ◌&&◌, ◌||◌, cond, ℕ, ◌≤◌, length, get_or, take, neg_ℤ, ◌+ℤ◌, eqb}
use mathlib.Core.List.{List, [], ◌∷◌, ◌++◌, map, Memᴰ}
use Rattle.lists.specs.Selections.{filter, any, count, sum}
use Rattle.calendar.specs.declared.Period.{Period}
use Rattle.calendar.specs.Periods.{shares_day}
use Rattle.bill_files.specs.Accepted.{Bill, BillFile}
use Rattle.entries.specs.declared.Entry.{Entry}
use Rattle.entries.specs.Entries.{is_live, is_held}
use Rattle.booking.specs.Answers.{Answer}
use Rattle.booking.specs.Booking.{Input, file_of, cancels, originals, refers_to, entry, result_of, Booked}

-- ════ a list of Book calls

-- "Each call has a file and settings of its own": what it is given and lent, and its answer
pub record Call : Type 0 where
  pub input : Input
  pub answer : Answer

-- Demand 3: "The first gets a ledger with no entries; each later one gets the ledger as the booking before it left it, and nobody else writes to it
-- meanwhile." A step takes a run and a used count to others: the call is lent them, and meets Book's contract.
pub record Step (run : List Entry) (used : ℕ) (c : Call) (run' : List Entry) (used' : ℕ) : Type 0 where
  pub lent_run : c.input.run ≡ run
  pub lent_used : c.input.used ≡ used
  pub met : Booked c.input c.answer run' used'

abbrev pub Calls : List Entry → ℕ → List Call → List Entry → ℕ → Type 0
Calls run used [] run' used' = (run ≡ run') × (used ≡ used')
Calls run used (c ∷ cs) run' used' = (next : List Entry) × (count : ℕ) × Step run used c next count × Calls next count cs run' used'

-- the accepted files, from the answers
abbrev pub is_accepted : Answer → Bool
is_accepted answer = eqb (result_of answer).number 0

abbrev pub accepted_files : List Call → List BillFile
accepted_files calls = map (λ c. file_of c.input) (filter (λ c. is_accepted c.answer) calls)

-- ════ the booked records

-- "Booked records are the TH and OC of the accepted files, file by file, in each file the cancels (Y) and then the originals (N), both in file order."
abbrev pub booking : List BillFile → List Bill
booking [] = []
booking (file ∷ files) = (cancels file ++ originals file) ++ booking files

-- the original b "has the cancel's Reference ID as its Record ID and the cancel's sender, commodity, kind, site and (for a period) days"
unfoldable pub fits : Bill → Bill → Bool
fits c b =
    refers_to c.reference b.record_id && eqb c.sender b.sender && eqb c.commodity b.commodity && eqb c.kind b.kind
    && eqb c.site b.site && eqb c.start b.start && eqb c.end b.end

-- "A booked cancel names the original .. that has .."
abbrev pub names : Bill → Bill → Bool
names c b = c.cancel && not b.cancel && fits c b

-- with opposite charge and usage
abbrev pub Opposite : Bill → Bill → Type 0
Opposite c b = (c.charge ≡ neg_ℤ b.charge) × (c.usage ≡ neg_ℤ b.usage)

abbrev pub is_period : Bill → Bool
is_period b = eqb b.kind 2

abbrev pub days : Bill → Period
days b = record { start = b.start; end = b.end }

-- of one site, and with a day in common
unfoldable pub shares_site_day : Bill → Bill → Bool
shares_site_day p q = eqb p.site q.site && shares_day (days p) (days q)

-- ════ live and held

pub data Status : Type 0 where
  live : Status
  held : Status
  cancelled : Status
  cancelling : Status

abbrev pub is_live_status : Status → Bool
is_live_status live = true
is_live_status held = false
is_live_status cancelled = false
is_live_status cancelling = false

abbrev pub is_held_status : Status → Bool
is_held_status live = false
is_held_status held = true
is_held_status cancelled = false
is_held_status cancelling = false

-- a booked record and what it is now
pub record Standing : Type 0 where
  pub bill : Bill
  pub status : Status

abbrev pub standing : Bill → Status → Standing
standing b s = record { bill = b; status = s }

abbrev pub live_periods : List Standing → List Bill
live_periods bs = map (λ b. b.bill) (filter (λ b. is_live_status b.status && is_period b.bill) bs)

-- "At its turn an original period is held if it shares a day with a period of its site that is live then, whoever sent either;"
unfoldable pub is_held_at_turn : List Standing → Bill → Bool
is_held_at_turn bs b = is_period b && any (shares_site_day b) (live_periods bs)

-- "every other original is live."
abbrev pub at_turn : List Standing → Bill → Status
at_turn bs b = cond (is_held_at_turn bs b) held live

abbrev pub is_uncancelled : Standing → Bool
is_uncancelled s = is_live_status s.status || is_held_status s.status

-- "It stays so until a booked cancel names it, and is neither from then on." A cancel changes the earliest record that it fits of those that are live or
-- held. It fits one record at most, since no sender and Record ID pair repeats (proofs/Turns, `fits_once`; proofs/Statuses, `cancel_each`).
abbrev pub cancel_fitting : Bill → List Standing → List Standing
cancel_fitting c [] = []
cancel_fitting c (s ∷ bs) = cond (is_uncancelled s && fits c s.bill) (standing s.bill cancelled ∷ bs) (s ∷ cancel_fitting c bs)

-- "A record's turn is when all those before it in this order are booked." "A cancel is neither."
abbrev pub turn : List Standing → Bill → List Standing
turn bs b = cond b.cancel (cancel_fitting b bs ++ standing b cancelling ∷ []) (bs ++ standing b (at_turn bs b) ∷ [])

abbrev pub turns : List Standing → List Bill → List Standing
turns bs [] = bs
turns bs (b ∷ rest) = turns (turn bs b) rest

-- the records at the start, and then every booked record of the files, with what they are after them, in booking order
abbrev pub archive : List Standing → List BillFile → List Standing
archive start files = turns start (booking files)

abbrev pub live_of : List Standing → List Bill
live_of bs = map (λ b. b.bill) (filter (λ b. is_live_status b.status) bs)

abbrev pub held_of : List Standing → List Bill
held_of bs = map (λ b. b.bill) (filter (λ b. is_held_status b.status) bs)

-- the status of the record at a place
abbrev pub status_at : ℕ → List Standing → Status
status_at i bs = get_or (map (λ b. b.status) bs) i cancelled

-- ════ the guarantee

abbrev pub HasDay : Bill → ℕ → ℕ → Type 0
HasDay p site day = (p.site ≡ site) × (p.start ≤ day) × (day ≤ p.end)

-- of the accepted files, and of the used entries after the list; no record stands at the start
pub record Guarantee (files : List BillFile) (ledger : List Entry) : Type 0 where
  -- what stands in the archive are the booked records, in booking order
  pub order : map (λ b. b.bill) (archive [] files) ≡ booking files
  -- Demand 3: "After the list, no two live periods of a site share a day."
  pub apart : (before between after : List Bill) (p q : Bill) (site day : ℕ)
      → live_periods (archive [] files) ≡ before ++ p ∷ (between ++ q ∷ after)
      → HasDay p site day → HasDay q site day → ⊥
  -- Demand 3: "Every booked cancel names exactly one record, which an earlier file booked, with opposite charge and usage,"
  pub names_one : (earlier later : List BillFile) (file : BillFile) (c : Bill) → files ≡ earlier ++ file ∷ later → Memᴰ c (cancels file)
      → (b : Bill) × (filter (names c) (booking earlier) ≡ b ∷ []) × Opposite c b
  -- Demand 3: "and no record is named by two cancels."
  pub named_once : (b : Bill) → count (λ c. names c b) (booking files) ≤ 1
  -- Demand 3: "A booked original period is held exactly when at its turn it shared a day with a live period of its site and no booked cancel has named
  -- it since."
  pub held_exactly : (before after : List Bill) (b : Bill) → booking files ≡ before ++ b ∷ after → b.cancel ≡ false
      → (status_at (length before) (archive [] files) ≡ held) ↔ ((is_held_at_turn (turns [] before) b ≡ true) × (any (λ c. names c b) after ≡ false))
  -- Demand 3: "Every other booked original that no booked cancel has named is live."
  pub live_exactly : (before after : List Bill) (b : Bill) → booking files ≡ before ++ b ∷ after → b.cancel ≡ false
      → (status_at (length before) (archive [] files) ≡ live) ↔ ((is_held_at_turn (turns [] before) b ≡ false) × (any (λ c. names c b) after ≡ false))
  -- "A cancel is neither."
  pub cancel_neither : (before after : List Bill) (c : Bill) → booking files ≡ before ++ c ∷ after → c.cancel ≡ true
      → status_at (length before) (archive [] files) ≡ cancelling
  -- Demand 3: "The File Trailer charge totals of the accepted files sum to the charges of live records plus the charges of held ones."
  pub totals : sum (λ f. f.total) files ≡ sum (λ b. b.charge) (live_of (archive [] files)) +ℤ sum (λ b. b.charge) (held_of (archive [] files))
  -- "After the list the used entries in state 1 are exactly those of the live records, and the used entries in state 2 exactly those of the held ones,
  -- in booking order."
  pub live_entries : filter is_live ledger ≡ map (λ b. entry b 1) (live_of (archive [] files))
  pub held_entries : filter is_held ledger ≡ map (λ b. entry b 2) (held_of (archive [] files))

-- Demand 3: "This holds for every list of bookings, whatever their files and settings, refused ones included. The first gets a ledger with no entries";
-- "Before it the used count is 0, over a run of any length and content."
abbrev pub Guaranteed : Type 0
Guaranteed = (run run' : List Entry) (used' : ℕ) (calls : List Call) → Calls run 0 calls run' used' → Guarantee (accepted_files calls) (take used' run')
