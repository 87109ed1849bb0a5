-- What the desk program answers to its input. Document 01, "Operations": "A program reads standard input (at most 65,536 bytes; longer input counts as
-- 103), books it into an empty ledger of 512 entries with retailer 999999999 and distributor 0040, and prints one line".
-- Assumes nothing.
use Rattle.std.specs.Prelude.{ℕ, cond, List, ltb, length, replicate}
use Rattle.lists.specs.Written.{written}
use Rattle.entries.specs.Entries.{blank}
use Rattle.booking.specs.Booking.{input_of, Result, refused_result, book_result}

unfoldable pub desk_result : List ℕ → Result
desk_result input =
    cond (ltb 65536 (length input)) (refused_result 103 0) (book_result (input_of 999999999 (written "0040") input (replicate 512 blank) 0))
