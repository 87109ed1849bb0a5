-- `comparison::comparison_date` meets its contract: each test answers its number and leaves the bytes, and else `written_dates::write_date` writes the date.
-- Assumes nothing.
use borrow.Author.Tests.{le-leb, lt-leb, lt-ltb, le-ltb}
use Rattle.comparison.specs.InsideDates.{date_number, date_after}
use Rattle.comparison.proofs.comparison_date.Goals as goal

pub returns-then-day-gt36524 : goal.returns-then-day-gt36524
unfolding date_after date_number
returns-then-day-gt36524 c = let late = lt-leb _ _ c.if-day-gt36524.true in record { number = rw late; written = rw late }

pub returns-then-out-lt8 : goal.returns-then-out-lt8
unfolding date_after date_number
returns-then-out-lt8 c = let day = le-leb _ _ c.if-day-gt36524.false in let short = lt-ltb _ _ c.if-out-lt8.true in record { number = rw (day, short); written = rw (day, short) }

pub returns : goal.returns
unfolding date_after date_number
returns c =
    let day = le-leb _ _ c.if-day-gt36524.false in
    let room = le-ltb _ _ c.if-out-lt8.false in record { number = rw (day, room); written = rw (day, room) c.write_date.ensures }
