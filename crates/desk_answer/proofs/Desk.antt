-- A line of each kind, computed through the definitions.
-- Assumes nothing.
use mathlib.Core.Path.{◌≡◌, refl}
use mathlib.Core.List.{[], ◌∷◌, ◌++◌}
use Rattle.lists.specs.Written.{written}
use Rattle.refusals.specs.Codes.{code_in, code_of}
use Rattle.booking.specs.Booking.{refused_result, accepted_result}
use Rattle.writing.specs.Decimals.{digits_in, count_up_to, digit_count, plain_digits}
use Rattle.desk_answer.specs.Line.{code_number, parted, accepted_line, rejected_line, line_of}

-- "Empty input prints `rejected 2 6002 1`."
pub empty_line : line_of (refused_result 2 1) ≡ written "rejected 2 6002 1" ++ (10 ∷ [])
unfolding code_in code_of digits_in count_up_to digit_count plain_digits code_number parted rejected_line line_of
empty_line = refl

pub accepted_line_lem : line_of (accepted_result 3 0) ≡ written "accepted 3 0" ++ (10 ∷ [])
unfolding digits_in count_up_to digit_count plain_digits parted accepted_line line_of
accepted_line_lem = refl
