-- `book::book_with_columns` meets its contract: tests 2 to 38 over the lines, and then what they say.
-- Assumes nothing.
use Rattle.std.proofs.lemmas.Result.{err_from_is_err_and}
use Rattle.soundness.proofs.Meaning.{sound_means}
use Rattle.booking.specs.Booking.{Input, input_of}
use Rattle.book.proofs.Answers.{refuses}
use Rattle.book.proofs.Refusing.{refused_tests}
use Rattle.book.proofs.book_with_columns.Goals as goal

pub returns-in_err-check_in_room : goal.returns-in_err-check_in_room
returns-in_err-check_in_room g c =
    let input : Input = input_of c.args.retailer c.args.distributors.now c.args.lines.now.bytes.now c.args.run.now c.args.used in
    let p = err_from_is_err_and c.from_residual.result c.from_residual.ensures.1 in
    let e = c.in_err-check_in_room.ensures in
    rw (p.1, p.2) (refuses input (refused_tests input c.requires.opened e.value e.numbered) e.numbered)

pub book_passing-requires-clause-sizes : goal.book_passing-requires-clause-sizes
book_passing-requires-clause-sizes g c =
    let sound = (sound_means c.args.run.now c.args.used).0 c.requires.opened.ready.sound in
    (sound.few, sound.room)
