-- What an accepted file says as it was before request 1, when an empty amount was read as 0.
--     file_before_lem    a file says the same as before
-- Assumes nothing.
use mathlib.Core.Path.{◌≡◌, refl}
use mathlib.Core.Bool.{cond}
use mathlib.Core.List.{List, [], ◌∷◌, map}
use Prim.Native.Nat.{ℕ, ◌-◌}
use lib.IntN.{pos}
use lib.ListN.{length}
use Rattle.lists.specs.Selections.{filter}
use Rattle.format.specs.Format.{line_at}
use Rattle.refusals.proofs.Before.{charge_before, usage_before, charge_before_lem, usage_before_lem}
use Rattle.bill_files.specs.Accepted.{Bill, BillFile, is_period, is_bill, bill_in, bills_in, bill_file}

-- a TH or OC as it was: its amounts by that reading, and all else as now
abbrev pub bill_before : List ℕ → List ℕ → Bill
bill_before header line =
    let now = bill_in header line in
    record {
      sender = now.sender;
      commodity = now.commodity;
      file_id = now.file_id;
      kind = now.kind;
      record_id = now.record_id;
      site = now.site;
      start = now.start;
      end = now.end;
      charge = charge_before line;
      usage = cond (is_period line) (usage_before line) (pos 0);
      cancel = now.cancel;
      reference = now.reference;
    }

abbrev pub file_before : List (List ℕ) → BillFile
file_before lines =
    let now = bill_file lines in
    record {
      sender = now.sender;
      commodity = now.commodity;
      record_id = now.record_id;
      total = charge_before (line_at lines (length lines - 1));
      bills = map (bill_before (line_at lines 0)) (filter is_bill lines);
      lines = now.lines;
    }

bill_before_lem : (header line : List ℕ) → bill_in header line ≡ bill_before header line
unfolding bill_in
bill_before_lem header line = rw (charge_before_lem line, usage_before_lem line) refl

bills_before : (header : List ℕ) (lines : List (List ℕ)) → map (bill_in header) lines ≡ map (bill_before header) lines
bills_before header [] = refl
bills_before header (line ∷ lines) = rw (bill_before_lem header line, bills_before header lines)

pub file_before_lem : (lines : List (List ℕ)) → bill_file lines ≡ file_before lines
unfolding bill_file bills_in
file_before_lem lines = rw (charge_before_lem (line_at lines (length lines - 1)), bills_before (line_at lines 0) (filter is_bill lines)) refl
