-- Document 01's number and value for each case of an answer, and the word in which the host gets them.
-- Assumes nothing.
use Rattle.std.specs.Prelude.{ℕ, ◌+◌, ◌*◌, ◌^◌}
use Rattle.std.specs.Prelude.{Option, Some, None}
use Rattle.refusals.specs.declared.Outcome.{Outcome}

-- the refusal's number, 0 where there is none, and the line or the value asked for
pub record Answer : Type 0 where
  pub number : ℕ
  pub value : ℕ

abbrev pub packed : Answer → ℕ
packed a = a.number * 2 ^ 32 + a.value

-- document 01, "Operations": Check "Returns number and line"
abbrev pub check_answer : Outcome → Answer
check_answer o = record { number = o.number; value = o.line }

-- document 01, "Operations": "Day of a date. 3 if it isn't one."
abbrev pub day_answer : Option ℕ → Answer
day_answer (Some day) = record { number = 0; value = day }
day_answer None = record { number = 3; value = 0 }

-- document 01, "Operations": "Rejection code of a test. 107 if the number isn't a Table 5-1 test listed here"
abbrev pub code_answer : Option ℕ → Answer
code_answer (Some code) = record { number = 0; value = code }
code_answer None = record { number = 107; value = 0 }
