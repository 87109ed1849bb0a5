-- Laws of the supplied fields, by what is read of them.
--     id_unfit, moment_unfit     a supplied ID, and a Date Created, is empty or misses its type just where it isn't read
--     ids_unread, ids_read       what is read of all three
--     ids_passed                 what is passed on of it
-- Assumes nothing.
use Rattle.std.specs.Prelude.{is_some, Option, Some, None, Result, Ok, Err}
use Rattle.std.specs.Option.{ok_or}
use Prim.Native.Nat.{ℕ, suc}
use mathlib.Core.Path.{◌≡◌, refl, sym}
use mathlib.Core.Bool.{Bool, true, not, ◌||◌}
use mathlib.Core.List.{List, [], ◌∷◌}
use native.Mathlib.Omega.{arith}
use borrow.Author.Tests.{ne_eqb}
use lib.ListN.{length}
use Rattle.calendar.specs.declared.Moment.{Moment}
use Rattle.digits.specs.Digits.{digits_of}
use Rattle.digits.proofs.Laws.{digits_too_few, digits_say}
use Rattle.calendar.specs.Calendar.{moment, date_time_of}
use Rattle.calendar.proofs.Dates.{date_time_digits}
use Rattle.fields.specs.declared.FieldType.TheVariants.{RecordId, DateTime}
use Rattle.fields.specs.Fields.{fits_type}
use Rattle.disputes.specs.declared.Ids.{Ids}
use Rattle.disputes.specs.Disputes.{empty_or_unfit}
use Rattle.disputes.specs.declared.Refusal.{Refusal}
use Rattle.disputes.specs.declared.Refusal.TheVariants.{Unfit}
use Rattle.disputes.specs.InsideHeldEntry.{unfit, IdsRead, IdsTold}

pub id_unfit : (s : List ℕ) → empty_or_unfit RecordId s ≡ not (is_some (digits_of s))
unfolding fits_type
id_unfit [] = rw (digits_too_few [] (omega arith))
id_unfit (b ∷ s) = rw (ne_eqb (suc (length s)) 0 (λ e. omega arith))

moment_none : date_time_of [] ≡ None
unfolding date_time_of
moment_none = refl

pub moment_unfit : (s : List ℕ) → empty_or_unfit DateTime s ≡ not (is_some (date_time_of s))
unfolding fits_type
moment_unfit [] = rw moment_none
moment_unfit (b ∷ s) = rw (ne_eqb (suc (length s)) 0 (λ e. omega arith))

-- whether one of the three is not read
abbrev misses : Option ℕ → Option Moment → Option ℕ → Bool
misses a b c = not (is_some a) || (not (is_some b) || not (is_some c))

module _ (transaction created file : List ℕ) where
  is_unfit : {b : Bool} → misses (digits_of transaction) (date_time_of created) (digits_of file) ≡ b → unfit transaction created file ≡ b
  is_unfit e = rw (id_unfit transaction, moment_unfit created, id_unfit file) e

  pub ids_unread : misses (digits_of transaction) (date_time_of created) (digits_of file) ≡ true → IdsTold transaction created file None
  ids_unread e = is_unfit e

  pub ids_read : (m d s n : ℕ) → digits_of transaction ≡ Some m → date_time_of created ≡ Some (moment d s) → digits_of file ≡ Some n
      → IdsTold transaction created file (Some (record { transaction = m; file = n }))
  ids_read m d s n a b c =
      record {
        fits = is_unfit (rw (a, b, c));
        first = sym (digits_say transaction m a).value;
        second = sym (digits_say file n c).value;
        moment = (date_time_digits created d s b).0;
      }

  -- what is passed on
  abbrev pub Passed : Result Ids Refusal → Type 0
  Passed (Ok ids) = IdsRead transaction created file ids
  Passed (Err e) = (unfit transaction created file ≡ true) × (e ≡ Unfit)

  pub ids_passed : (o : Option Ids) → IdsTold transaction created file o → Passed (ok_or o Unfit)
  ids_passed (Some ids) h = h
  ids_passed None h = (h, refl)
