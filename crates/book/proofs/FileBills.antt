-- What is read of a file's columns, as what the tests of the ledger are given.
--     bills_read                    its TH and OC
--     sender_own, commodity_own     the sender and the commodity of its own entry are those of its header
-- Assumes nothing.
use mathlib.Core.Path.{◌≡◌, ap, ◌∙◌, subst}
use mathlib.Core.List.{List}
use Prim.Native.Nat.{ℕ, ◌≤◌, ◌<◌}
use native.Mathlib.Omega.{arith}
use lib.ListN.{length, get_or, take}
use lib.Seq.{get_or-take, length-take-le}
use Rattle.format.specs.Format.{line_at}
use Rattle.bill_files.specs.Accepted.{Bill, bill_file, sender_in, commodity_in}
use Rattle.entries.specs.declared.Entry.{Entry}
use Rattle.booking.specs.Booking.{file_entry}
use Rattle.file_bills.specs.declared.SourceBill.{SourceBill}
use Rattle.file_bills.specs.InsideBills.{blank_source, Source, References}
use Rattle.file_bills.specs.InsideReading.{Reading}
use Rattle.file_bills.proofs.Laws.{all_bills, all_lines}
use Rattle.ledger_tests.specs.InsideBills.{Bills}

pub bills_read : (lines : List (List ℕ)) (n r : ℕ) (sources : List SourceBill) → n ≡ length lines → n ≤ 4096 → Reading lines n r sources → Bills (bill_file lines) (take r sources)
bills_read lines n r sources e few R =
    let long : length (take r sources) ≡ r = length-take-le r sources R.room in
    record {
      few = omega (arith, R.few, long);
      source = subst (λ (bs : List Bill). Source bs (take r sources)) (all_bills lines n e) R.source;
      refers = subst (λ (bs : List Bill). References bs (take r sources)) (all_bills lines n e) R.refers;
      stands = λ k h.
          let below : k < r = omega (arith, long, h) in
          ap (λ (s : SourceBill). s.line) (get_or-take r sources k blank_source below) ∙ R.stands k below ∙ ap (λ (xs : List ℕ). get_or xs k 0) (all_lines lines n e);
    }

pub sender_own : (lines : List (List ℕ)) (header : Entry) → header ≡ file_entry (bill_file lines) → header.sender ≡ sender_in (line_at lines 0)
unfolding bill_file
sender_own lines header e = ap (λ (x : Entry). x.sender) e

pub commodity_own : (lines : List (List ℕ)) (header : Entry) → header ≡ file_entry (bill_file lines) → header.commodity ≡ commodity_in (line_at lines 0)
unfolding bill_file
commodity_own lines header e = ap (λ (x : Entry). x.commodity) e
