-- `examples::book_named` meets its contract: the used count stays within the places (`used_within`).
-- Assumes nothing.
use Rattle.std.proofs.Common.{arith}
use Rattle.booking.specs.Booking.{input_of}
use Rattle.examples.proofs.Rooms.{used_within}
use Rattle.examples.proofs.book_named.Goals as goal

pub overflow_add-result : goal.overflow_add-result
overflow_add-result g c = omega (arith, c.added.ensures, used_within (input_of _ _ _ _ _) c.requires c.book-answer.ensures)

pub returns : goal.returns
returns g c = omega (arith, c.added.ensures, used_within (input_of _ _ _ _ _) c.requires c.book-answer.ensures)
