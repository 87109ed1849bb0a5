-- A list of accepted files: what each leaves of the booked records, of the ledger and of the trailers' sum.
-- Assumes nothing.
use mathlib.Core.Path.{◌≡◌, refl, sym, ap, ◌∙◌, subst, subst⁻¹}
use mathlib.Core.Bool.{not}
use mathlib.Core.List.{List, [], ◌∷◌, ◌++◌, append_assoc, append-nil, Memᴰ}
use Prim.Native.Nat.{ℕ}
use native.Mathlib.Omega.{arith}
use lib.IntN.{ℤ, ◌+ℤ◌, +ℤ_assoc, +ℤ_idr}
use Rattle.lists.specs.Selections.{sum}
use Rattle.lists.proofs.Selections.{all_filter, sum_append, sum_split}
use Rattle.bill_files.specs.Accepted.{Bill, BillFile}
use Rattle.entries.specs.declared.Entry.{Entry}
use Rattle.booking.specs.Booking.{cancels, originals, booked}
use Rattle.booking.specs.InsidePasses.{Passes}
use Rattle.booking.specs.Guarantee.{booking, Standing, turns, archive}
use Rattle.booking.proofs.Turns.{turns_append, bills, bills_turns, Once}
use Rattle.booking.proofs.Stored.{Stores, stores_booked}
use Rattle.booking.proofs.Named.{uncancelled, charges, PairOff, NamesOne, After, after_cancels, after_originals, names_cancels}
use Rattle.booking.proofs.Tests.{all_have_opposites, once_booked}

-- the files take the ledger l to l': each passes the tests against the ledger that those before it leave, and is booked
abbrev pub Accepted : ℕ → List Entry → List BillFile → List Entry → Type 0
Accepted places l [] l' = l ≡ l'
Accepted places l (file ∷ files) l' = Passes places l file × Accepted places (booked l file) files l'

-- ════ one more accepted file

-- the trailers' sum
abbrev pub totals : List BillFile → ℤ
totals files = sum (λ f. f.total) files

-- what holds of the accepted files and the ledger that they leave, from the records of a start on
pub record Agrees (start : List Standing) (files : List BillFile) (l : List Entry) : Type 0 where
  pub stores : Stores l (archive start files)
  pub once : Once (bills (archive start files))
  pub pair_off : PairOff (archive start files)
  pub sums : charges (uncancelled start) +ℤ totals files ≡ charges (uncancelled (archive start files))

booking_append : (xs ys : List BillFile) → booking (xs ++ ys) ≡ booking xs ++ booking ys
booking_append [] ys = refl
booking_append (f ∷ xs) ys = rw (booking_append xs ys) (simp append_assoc)

-- what one more file adds to the sum
sums_next : (files : List BillFile) (file : BillFile) (start bs : List Standing) → file.total ≡ charges file.bills → charges (uncancelled start) +ℤ totals files ≡ charges (uncancelled bs)
    → After bs (cancels file) → After (turns bs (cancels file)) (originals file)
    → charges (uncancelled start) +ℤ totals (files ++ file ∷ []) ≡ charges (uncancelled (turns (turns bs (cancels file)) (originals file)))
sums_next files file start bs t s c d =
    ap (λ (z : ℤ). charges (uncancelled start) +ℤ z) (sum_append (λ f. f.total) files (file ∷ []))
    ∙ sym (+ℤ_assoc (charges (uncancelled start)) (totals files) (totals (file ∷ [])))
    ∙ ap (λ (z : ℤ). (charges (uncancelled start) +ℤ totals files) +ℤ z) (+ℤ_idr file.total ∙ t ∙ sym (sum_split (λ b. b.charge) (λ b. b.cancel) file.bills))
    ∙ ap (λ (z : ℤ). z +ℤ (charges (cancels file) +ℤ charges (originals file))) s
    ∙ sym (+ℤ_assoc (charges (uncancelled bs)) (charges (cancels file)) (charges (originals file)))
    ∙ ap (λ (z : ℤ). z +ℤ charges (originals file)) (sym c.sums)
    ∙ sym d.sums

module _ (start : List Standing) where
  pub archive_next : (files : List BillFile) (file : BillFile) → archive start (files ++ file ∷ []) ≡ turns (archive start files) (cancels file ++ originals file)
  archive_next files file =
      ap (turns start) (booking_append files (file ∷ []) ∙ ap (λ (l : List Bill). booking files ++ l) (append-nil (cancels file ++ originals file)))
      ∙ turns_append start (booking files) (cancels file ++ originals file)

  -- the records that a cancel of the file after these may name
  abbrev before : List BillFile → List Bill
  before files = bills start ++ booking files

  pub record NextFile (files : List BillFile) (l : List Entry) (file : BillFile) : Type 0 where
    pub next : Agrees start (files ++ file ∷ []) (booked l file)
    pub names_one : (c : Bill) → Memᴰ c (cancels file) → NamesOne c (before files)

  pub next_file : (places : ℕ) (files : List BillFile) (l : List Entry) (file : BillFile) → Agrees start files l → Passes places l file → NextFile files l file
  next_file places files l file v p =
      let bs = archive start files in
      let y = all_filter (λ b. b.cancel) file.bills in
      let o = once_booked places l bs file v.stores p v.once in
      let m = all_have_opposites l bs (cancels file) y v.stores p.named in
      let c = after_cancels bs (cancels file) y m v.pair_off in
      let d = after_originals (turns bs (cancels file)) (originals file) (all_filter (λ b. not b.cancel) file.bills) c.pair_off in
      let next : archive start (files ++ file ∷ []) ≡ turns (turns bs (cancels file)) (originals file) =
      archive_next files file ∙ turns_append bs (cancels file) (originals file) in
      record {
        next =
            record {
              stores = subst⁻¹ (Stores (booked l file)) (archive_next files file) (stores_booked l bs file v.stores);
              once = subst⁻¹ Once (ap bills (archive_next files file) ∙ bills_turns bs (cancels file ++ originals file)) o;
              pair_off = subst⁻¹ PairOff next d.pair_off;
              sums = sums_next files file start bs p.total v.sums c d ∙ ap (λ (x : List Standing). charges (uncancelled x)) (sym next);
            };
        names_one =
            λ x i.
            subst (NamesOne x) (bills_turns start (booking files)) (names_cancels bs (cancels file) (originals file) y o m v.pair_off x i);
      }

  -- ════ the list of files

  -- what a step says of the cancels of its file, for each of the later files
  NamesAll : List BillFile → List BillFile → Type 0
  NamesAll earlier [] = Unit {0}
  NamesAll earlier (file ∷ later) = ((c : Bill) → Memᴰ c (cancels file) → NamesOne c (before earlier)) × NamesAll (earlier ++ file ∷ []) later

  names_all_one : (first earlier later : List BillFile) (file : BillFile) → NamesAll first (earlier ++ file ∷ later)
      → (c : Bill) → Memᴰ c (cancels file) → NamesOne c (before (first ++ earlier))
  unfolding NamesAll
  names_all_one first [] later file n c i = subst (λ (l : List BillFile). NamesOne c (before l)) (sym (append-nil first)) (n.0 c i)
  names_all_one first (f ∷ earlier) later file n c i =
      subst (λ (l : List BillFile). NamesOne c (before l)) (append_assoc first (f ∷ []) earlier) (names_all_one (first ++ f ∷ []) earlier later file n.1 c i)

  record Ran (first files : List BillFile) (l : List Entry) : Type 0 where
    agrees : Agrees start (first ++ files) l
    names_all : NamesAll first files

  ran : (places : ℕ) (first files : List BillFile) (l l' : List Entry) → Agrees start first l → Accepted places l files l' → Ran first files l'
  unfolding NamesAll
  ran places first [] l l' v r =
      record { agrees = subst (Agrees start (first ++ [])) r (subst⁻¹ (λ (x : List BillFile). Agrees start x l) (append-nil first) v); names_all = tt }
  ran places first (file ∷ files) l l' v r =
      let s = next_file places first l file v r.0 in
      let d = ran places (first ++ file ∷ []) files (booked l file) l' s.next r.1 in
      record {
        agrees = subst (λ (x : List BillFile). Agrees start x l') (append_assoc first (file ∷ []) files) d.agrees;
        names_all = (s.names_one, d.names_all);
      }

  module _ (places : ℕ) (files : List BillFile) (l ledger : List Entry) (agrees : Agrees start [] l) (accepted : Accepted places l files ledger) where
    pub files_agree : Agrees start files ledger
    files_agree = (ran places [] files l ledger agrees accepted).agrees

    pub files_names_one : (earlier later : List BillFile) (file : BillFile) (c : Bill) → files ≡ earlier ++ file ∷ later → Memᴰ c (cancels file)
        → NamesOne c (before earlier)
    files_names_one earlier later file c e = names_all_one [] earlier later file (subst (NamesAll []) e (ran places [] files l ledger agrees accepted).names_all) c

-- no record stands at the start, and the ledger is empty
pub empty_agrees : Agrees [] [] []
empty_agrees = record { stores = refl; once = λ k. omega arith; pair_off = record { originals_only = refl; counted = λ k. refl }; sums = refl }
