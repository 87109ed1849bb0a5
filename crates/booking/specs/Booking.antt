-- Booking: what Book answers, and the ledger that it leaves. Document 01, "The ledger" and "Operations".
-- Assumes nothing.
use Rattle.std.specs.Prelude.{ℕ, suc, ◌+◌, ◌≡◌, Bool, true, false, not, ◌&&◌, ◌||◌, cond, List, [], ◌∷◌, ◌++◌, eqb, ltb, pos, length, get_or, take, drop}
use Rattle.std.specs.Prelude.{Option, Some, None}
use Rattle.lists.specs.First.{first_where}
use Rattle.lists.specs.Selections.{filter, any, count}
use Rattle.calendar.specs.Periods.{shares_day}
use Rattle.records.specs.Text.{lines_of}
use Rattle.refusals.specs.declared.Outcome.{Outcome}
use Rattle.refusals.specs.Check.{tests_to12, tests_from14, settings_fit, is_too_large}
use Rattle.refusals.specs.Refusals.{Refusal, at_line, house, first_refusal}
use Rattle.bill_files.specs.Accepted.{Bill, BillFile, bill_file}
use Rattle.entries.specs.declared.Entry.{Entry}
use Rattle.entries.specs.Entries.{is_live, is_held, is_period, period, in_state}
use Rattle.soundness.specs.Sound.{is_sound, same_subject, opposite, is_live_period}
use Rattle.booking.specs.Answers.{Answer}
use Rattle.std.specs.Prelude.{Ok, Err}

-- ════ a file's entries

-- "An accepted file appends its file entry, then its cancels (Indicator Y) in file order, then its originals (N) in file order, TH and OC alike."
abbrev pub cancels : BillFile → List Bill
cancels file = filter (λ b. b.cancel) file.bills

abbrev pub originals : BillFile → List Bill
originals file = filter (λ b. not b.cancel) file.bills

abbrev pub id_or_zero : Option ℕ → ℕ
id_or_zero None = 0
id_or_zero (Some n) = n

-- a TH or OC in a state; a cancel, state 4, has the Record ID it cancels
abbrev pub entry : Bill → ℕ → Entry
entry b s =
    record {
      sender = b.sender;
      commodity = b.commodity;
      kind = b.kind;
      id = b.record_id;
      site = b.site;
      start = b.start;
      end = b.end;
      charge = b.charge;
      usage = b.usage;
      state = s;
      cancels = cond (eqb s 4) (id_or_zero b.reference) 0;
    }

-- "Fields that a kind lacks are 0; a file entry has its trailer charge total, state 0"
abbrev pub file_entry : BillFile → Entry
file_entry file =
    record {
      sender = file.sender;
      commodity = file.commodity;
      kind = 1;
      id = file.record_id;
      site = 0;
      start = 0;
      end = 0;
      charge = file.total;
      usage = pos 0;
      state = 0;
      cancels = 0;
    }

-- ════ what a cancel names

-- "an empty one names none"
abbrev pub refers_to : Option ℕ → ℕ → Bool
refers_to None n = false
refers_to (Some m) n = eqb m n

abbrev pub is_live_or_held : Entry → Bool
is_live_or_held e = is_live e || is_held e

-- "a Y record's Reference ID .. names an entry of the same sender, commodity, kind, site and (for a period) days, live or held": what isn't a period
-- has no days, and 0 for them
unfoldable pub names_entry : Bill → Entry → Bool
names_entry c e = is_live_or_held e && refers_to c.reference e.id && same_subject (entry c 4) e

-- the earliest such entry
abbrev pub named_entry : Bill → List Entry → Option Entry
named_entry c [] = None
named_entry c (e ∷ l) = cond (names_entry c e) (Some e) (named_entry c l)

-- "A cancel turns the record that it names into state 3."
abbrev pub cancel_named : Bill → List Entry → List Entry
cancel_named c [] = []
cancel_named c (e ∷ l) = cond (names_entry c e) (in_state e 3 ∷ l) (e ∷ cancel_named c l)

-- ════ an original at its turn

-- a live period of its site that shares a day with it
unfoldable pub overlaps : Bill → Entry → Bool
overlaps b e = is_live_period e && eqb e.site b.site && shares_day (period e) (period (entry b 1))

-- the place of the first such entry, or the number of entries
unfoldable pub first_overlap : List Entry → Bill → ℕ
first_overlap l b = first_where (overlaps b) l

-- "An original period is held if it shares a day with a live period of its site at that moment, whoever sent either; otherwise live. Original one-time
-- charges are live."
unfoldable pub state_of : List Entry → Bill → ℕ
state_of l b = cond (is_period (entry b 1) && ltb (first_overlap l b) (length l)) 2 1

-- the entry of an original at its turn: all that booking decides of it is decided here
abbrev pub original : List Entry → Bill → Entry
original l b = entry b (state_of l b)

-- ════ the ledger after an acceptance

abbrev pub book_cancels : List Entry → List Bill → List Entry
book_cancels l [] = l
book_cancels l (c ∷ cs) = book_cancels (cancel_named c l ++ entry c 4 ∷ []) cs

abbrev pub book_originals : List Entry → List Bill → List Entry
book_originals l [] = l
book_originals l (b ∷ bs) = book_originals (l ++ original l b ∷ []) bs

abbrev pub booked : List Entry → BillFile → List Entry
booked l file = book_originals (book_cancels (l ++ file_entry file ∷ []) (cancels file)) (originals file)

-- ════ tests that read the ledger, after 38

-- 8: "no file entry of this sender has FH's Record ID."
unfoldable pub has_file : List Entry → BillFile → Bool
has_file l file = any (λ e. eqb e.kind 1 && eqb e.sender file.sender && eqb e.id file.record_id) l

-- the first Y record that fails, in the ledger as the Y records before it leave it; or the number of records
abbrev pub first_cancel : (List Entry → Bill → Bool) → List Entry → List Bill → ℕ
first_cancel fails l [] = 0
first_cancel fails l (b ∷ bs) = cond (b.cancel && fails l b) 0 (suc (first_cancel fails (cond b.cancel (cancel_named b l) l) bs))

-- 39: it names an entry "live or held before this file, that no earlier Y record of the file names"
abbrev pub is_unnamed : Option Entry → Bool
is_unnamed None = true
is_unnamed (Some e) = false

-- 40: "its charge and usage totals (for an OC, its Charge Amount) are the opposites of that entry's."
abbrev pub is_unopposed : Bill → Option Entry → Bool
is_unopposed c None = false
is_unopposed c (Some e) = not (opposite (entry c 4) e)

unfoldable pub first_unnamed : List Entry → BillFile → ℕ
first_unnamed l file = first_cancel (λ l c. is_unnamed (named_entry c l)) l file.bills

unfoldable pub first_unopposed : List Entry → BillFile → ℕ
first_unopposed l file = first_cancel (λ l c. is_unopposed c (named_entry c l)) l file.bills

-- 102: "no FH, TH or OC Record ID is stored under this sender."
unfoldable pub is_stored : List Entry → ℕ → ℕ → Bool
is_stored l sender id = any (λ e. eqb e.sender sender && eqb e.id id) l

unfoldable pub has_stored : List Entry → BillFile → Bool
has_stored l file = is_stored l file.sender file.record_id || any (λ b. is_stored l b.sender b.record_id) file.bills

-- ════ refusals

-- a test that answers the place of the first failing TH or OC, or their number
abbrev pub at_bill : ℕ → BillFile → ℕ → Refusal
at_bill number file place = at_line number (get_or file.lines place 0) (ltb place (length file.bills))

-- tests 39 and 40, of the Y records
abbrev pub cancel_refusals : List Entry → BillFile → List Refusal
cancel_refusals l file =
    at_bill 39 file (first_unnamed l file)
    ∷ at_bill 40 file (first_unopposed l file)
    ∷ []

-- 102, and 101: "the used count plus 1 plus the number of TH and OC exceeds the run's length."
abbrev pub storage_refusals : ℕ → List Entry → BillFile → List Refusal
storage_refusals places l file =
    house 102 (has_stored l file)
    ∷ house 101 (ltb places (length l + 1 + length file.bills))
    ∷ []

-- "Tests that read it, after 38"
unfoldable pub ledger_refusals : ℕ → List Entry → BillFile → List Refusal
ledger_refusals places l file = at_line 8 1 (has_file l file) ∷ (cancel_refusals l file ++ storage_refusals places l file)

-- ════ Book

pub record Settings : Type 0 where
  pub retailer : ℕ
  pub distributors : List ℕ

-- what a call is given, and the run and the used count that it is lent
pub record Input : Type 0 where
  pub settings : Settings
  pub file : List ℕ
  pub run : List Entry
  pub used : ℕ

abbrev pub input_of : ℕ → List ℕ → List ℕ → List Entry → ℕ → Input
input_of retailer distributors file run used = record { settings = record { retailer = retailer; distributors = distributors }; file = file; run = run; used = used }

-- what its file says, and the used entries
abbrev pub file_of : Input → BillFile
file_of i = bill_file (lines_of i.file)

abbrev pub ledger_of : Input → List Entry
ledger_of i = take i.used i.run

-- "104, 105 (ledger not sound), 103"
unfoldable pub opening_refusals : Input → List Refusal
opening_refusals i =
    house 104 (not (settings_fit i.settings.retailer i.settings.distributors))
    ∷ house 105 (not (is_sound i.run i.used))
    ∷ house 103 (is_too_large i.file)
    ∷ []

-- "Book. 104, 105 (ledger not sound), 103, 2 to 38, 8, 39, 40, 102, 101."
unfoldable pub book_refusals : Input → List Refusal
book_refusals i =
    opening_refusals i
    ++ (tests_to12 i.settings.retailer i.settings.distributors (lines_of i.file)
    ++ (tests_from14 (lines_of i.file)
    ++ ledger_refusals (length i.run) (ledger_of i) (file_of i)))

unfoldable pub book_refusal : Input → Outcome
book_refusal i = first_refusal (book_refusals i)

abbrev pub is_booked : Input → Bool
is_booked i = eqb (book_refusal i).number 0

-- the used entries after the file is booked, and those of them that it added
abbrev pub ledger_after : Input → List Entry
ledger_after i = booked (ledger_of i) (file_of i)

abbrev pub added_by : Input → List Entry
added_by i = drop (length (ledger_of i)) (ledger_after i)

-- document 01's number and values: "Returns number and line, ledger unchanged; or how many entries were added and how many held."
pub record Result : Type 0 where
  pub number : ℕ
  pub line : ℕ
  pub added : ℕ
  pub held : ℕ

abbrev pub refused_result : ℕ → ℕ → Result
refused_result number line = record { number = number; line = line; added = 0; held = 0 }

abbrev pub accepted_result : ℕ → ℕ → Result
accepted_result added held = record { number = 0; line = 0; added = added; held = held }

-- of each case of the answer; an accepted file has number 0
abbrev pub result_of : Answer → Result
result_of (Err refusal) = refused_result refusal.number refusal.line
result_of (Ok accepted) = accepted_result accepted.added accepted.held

unfoldable pub book_result : Input → Result
book_result i = cond (is_booked i) (accepted_result (length (added_by i)) (count is_held (added_by i))) (refused_result (book_refusal i).number (book_refusal i).line)

unfoldable pub used_after : Input → ℕ
used_after i = cond (is_booked i) (length (ledger_after i)) i.used

-- "places past the new used count keep their content"
unfoldable pub run_after : Input → List Entry
run_after i = cond (is_booked i) (ledger_after i ++ drop (length (ledger_after i)) i.run) i.run

-- what a call of Book meets: its answer, and the run and the used count that it leaves
pub record Booked (i : Input) (answer : Answer) (run' : List Entry) (used' : ℕ) : Type 0 where
  pub answers : result_of answer ≡ book_result i
  pub leaves_run : run' ≡ run_after i
  pub leaves_used : used' ≡ used_after i
