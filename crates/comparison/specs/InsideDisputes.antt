-- What the benchmarks get of a dispute's line that is written: its length, and the bytes afterwards.
-- Assumes nothing.
use Rattle.std.specs.Prelude.{ℕ, List, Bool, cond, not, ◌&&◌, eqb, leb, length, get_or}
use Rattle.writing.specs.InsideWriting.{written_at}
use Rattle.dispute_lines.specs.declared.Dispute.{Dispute}
use Rattle.dispute_lines.specs.Line.{dispute_line}

-- the dispute that seven numbers say
abbrev pub dispute_said : List ℕ → Dispute
dispute_said numbers =
    record {
      transaction = get_or numbers 0 0;
      retailer = get_or numbers 1 0;
      distributor = get_or numbers 2 0;
      file = get_or numbers 3 0;
      site = get_or numbers 4 0;
      once = not (eqb (get_or numbers 5 0) 0);
      id = get_or numbers 6 0;
      code = 7004;
    }

abbrev pub line_said : List ℕ → List ℕ → List ℕ
line_said numbers created = dispute_line (dispute_said numbers) created

-- there are seven numbers and a Date Created of 14 bytes, and the line has room
unfoldable pub is_written : List ℕ → List ℕ → List ℕ → Bool
is_written numbers created out = leb 7 (length numbers) && (eqb (length created) 14 && leb (length (line_said numbers created)) (length out))

abbrev pub dispute_length : List ℕ → List ℕ → List ℕ → ℕ
dispute_length numbers created out = cond (is_written numbers created out) (length (line_said numbers created)) 0

abbrev pub dispute_after : List ℕ → List ℕ → List ℕ → List ℕ
dispute_after numbers created out = cond (is_written numbers created out) (written_at out 0 (line_said numbers created)) out
