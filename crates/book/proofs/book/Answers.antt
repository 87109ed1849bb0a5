-- `book::book` meets its contract: 104, 105 and 103 for the bytes, and then the file.
-- Assumes nothing.
use mathlib.Core.Path.{sym}
use native.Mathlib.Omega.{arith}
use Rattle.validation.proofs.Limits.{too_many_bytes}
use Rattle.booking.specs.Booking.{Input, input_of}
use Rattle.book.specs.InsideBook.{Ready}
use Rattle.book.proofs.Answers.{refuses}
use Rattle.book.proofs.Refusing.{refused_104, refused_105, refused_103}
use Rattle.book.proofs.book.Goals as goal

pub returns-then-not-settings_fit : goal.returns-then-not-settings_fit
returns-then-not-settings_fit c =
    let input : Input = input_of c.args.retailer c.args.distributors.now c.args.file.now c.args.run.now c.args.used in
    rw c.refused.ensures (refuses input (refused_104 input (sym c.if-not-settings_fit.ensures)) (λ z. omega (arith, z)))

pub returns-then-not-is_sound : goal.returns-then-not-is_sound
returns-then-not-is_sound c =
    let input : Input = input_of c.args.retailer c.args.distributors.now c.args.file.now c.args.run.now c.args.used in
    rw c.refused-then-not-is_sound.ensures (refuses input (refused_105 input (sym c.if-not-settings_fit.ensures) (sym c.if-not-is_sound.ensures)) (λ z. omega (arith, z)))

pub returns-then-is_long : goal.returns-then-is_long
returns-then-is_long c =
    let input : Input = input_of c.args.retailer c.args.distributors.now c.args.file.now c.args.run.now c.args.used in
    let ready : Ready input = record { fit = sym c.if-not-settings_fit.ensures; sound = sym c.if-not-is_sound.ensures } in
    rw c.refused-then-is_long.ensures (refuses input (refused_103 input ready (too_many_bytes c.args.file.now c.if-is_long.true)) (λ z. omega (arith, z)))
