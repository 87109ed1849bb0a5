-- `store_line` meets its contract. The loop's invariant: the numbers of the columns before c are stored, and no other line's word is changed.
-- Assumes nothing.
use Rattle.columns.specs.InsideRows.{RowStored}
use Rattle.codes_and_rows.specs.InsideNumbers.{column_numbers}
use Rattle.codes_and_rows.proofs.store_line.Given as goal

abbrev pub invariant-loop-c : goal.invariant-loop-c
invariant-loop-c l = RowStored l.room l.initial.words l.i (column_numbers l.record_type l.numbers) l.c l.words
