-- What a host is told of a dispute's line that was written: the numbers that it was written of.
--     reply_says    the whole reply
-- Assumes nothing.
use Rattle.std.specs.Prelude.{is_some}
use mathlib.Core.Path.{◌≡◌, refl, ◌∙◌, ap}
use mathlib.Core.List.{List}
use mathlib.Core.Bool.{Bool, true, false, cond, not}
use Prim.Native.Nat.{ℕ, ◌^◌, ◌≤◌, ◌<◌}
use native.Mathlib.Omega.{arith}
use borrow.Author.Tests.{ne_eqb}
use lib.IntN.{pos}
use lib.ListN.{length}
use Rattle.digits.specs.Digits.{number_of}
use Rattle.calendar.specs.Calendar.{date_time_of}
use Rattle.writing.specs.Decimals.{digits_in, plain_digits}
use Rattle.writing.proofs.Numbers.{digits_in_length}
use Rattle.writing.proofs.ReadBack.{digits_in_number, plain_some, plain_number}
use Rattle.dispute_lines.specs.declared.Dispute.{Dispute}
use Rattle.dispute_lines.specs.declared.DisputeField.{DisputeField}
use Rattle.dispute_lines.specs.declared.DisputeReply.{DisputeReply}
use Rattle.dispute_lines.specs.Line.{shown_id, dispute_line}
use Rattle.dispute_lines.specs.Reading.{field_said, code_said, read_dispute, dispute_reply}
use Rattle.dispute_lines.proofs.Fields.{code_says, moment_digits}
use Rattle.dispute_lines.proofs.RoundTrip.{written_read}

abbrev pub filled_with : ℕ → DisputeField
filled_with n = record { filled = 1; value = n }

abbrev pub empty : DisputeField
empty = record { filled = 0; value = 0 }

-- what a host is told of a dispute: its Record ID as the period's or as the one-time charge's
abbrev pub reply_of : Dispute → List ℕ → DisputeReply
reply_of d created =
    record {
      number = 0;
      transaction = filled_with d.transaction;
      retailer = filled_with d.retailer;
      distributor = filled_with d.distributor;
      created = filled_with (number_of created);
      file = filled_with d.file;
      site = filled_with d.site;
      period = cond d.once empty (filled_with d.id);
      child = empty;
      charge = cond d.once (filled_with d.id) empty;
      code = record { filled = 1; value = pos d.code };
    }

-- ---- a field that has bytes
filled_said : (s : List ℕ) → 1 ≤ length s → field_said s ≡ filled_with (number_of s)
unfolding field_said
filled_said s h = rw (ne_eqb (length s) 0 (λ e. omega arith))

id_said : (n : ℕ) → n < 10 ^ 15 → field_said (plain_digits n) ≡ filled_with n
id_said n h = filled_said (plain_digits n) (plain_some n) ∙ ap filled_with (plain_number n (omega arith))

fixed_said : (w n : ℕ) → 1 ≤ w → n < 10 ^ w → field_said (digits_in w n) ≡ filled_with n
fixed_said w n l h = filled_said (digits_in w n) (omega (arith, digits_in_length w n)) ∙ ap filled_with (digits_in_number w n h)

shown_said : (b : Bool) (n : ℕ) → n < 10 ^ 15 → field_said (shown_id b n) ≡ cond b (filled_with n) empty
unfolding shown_id field_said
shown_said true n h = id_said n h
shown_said false n h = refl

hidden_said : (b : Bool) (n : ℕ) → n < 10 ^ 15 → field_said (shown_id (not b) n) ≡ cond b empty (filled_with n)
unfolding shown_id field_said
hidden_said true n h = refl
hidden_said false n h = id_said n h

code_said_lem : (n : ℕ) → n < 10 ^ 4 → code_said (digits_in 4 n) ≡ record { filled = 1; value = pos n }
unfolding code_said
code_said_lem n h = rw (ne_eqb (length (digits_in 4 n)) 0 (λ e. omega (arith, digits_in_length 4 n)), code_says 4 n (omega arith) (omega arith) h)

module _ (d : Dispute) (created : List ℕ) (transaction : d.transaction < 10 ^ 15) (retailer : d.retailer < 10 ^ 9) (distributor : d.distributor < 10 ^ 4)
    (file : d.file < 10 ^ 15) (site : d.site < 10 ^ 13) (id : d.id < 10 ^ 15) (code : d.code < 10 ^ 4) (moment : is_some (date_time_of created) ≡ true) where
  pub reply_says : dispute_reply (read_dispute (dispute_line d created)) ≡ reply_of d created
  unfolding field_said
  reply_says =
      ap dispute_reply (written_read d created transaction retailer distributor file site id code moment)
      ∙ (λ i.
      record {
        number = 0;
        transaction = id_said d.transaction transaction i;
        retailer = fixed_said 9 d.retailer (omega arith) retailer i;
        distributor = fixed_said 4 d.distributor (omega arith) distributor i;
        created = filled_said created (omega (arith, (moment_digits created moment).0)) i;
        file = id_said d.file file i;
        site = fixed_said 13 d.site (omega arith) site i;
        period = hidden_said d.once d.id id i;
        child = empty;
        charge = shown_said d.once d.id id i;
        code = code_said_lem d.code code i;
      })
