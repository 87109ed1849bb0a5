-- What the columns of a line say of a TH or OC.
--     bill_type       whether it is one
--     bill_entry      its entry
--     reference_is    its Reference ID
-- Assumes nothing.
use mathlib.Core.Path.{◌≡◌, refl, sym, ap, ◌∙◌, subst}
use mathlib.Core.Bool.{Bool, true, false, ◌||◌, cond}
use mathlib.Core.List.{List}
use Prim.Native.Nat.{ℕ, ◌+◌, ◌-◌}
use native.Mathlib.Omega.{arith}
use borrow.Author.Tests.{eqb-true}
use lib.Dec.{eqb}
use lib.IntN.{pos}
use Rattle.lists.specs.Bytes.{same_bytes}
use Rattle.lists.specs.Written.{written}
use Rattle.std.specs.Prelude.{Option, Some, None}
use Rattle.digits.specs.Digits.{digits_of}
use Rattle.calendar.specs.Calendar.{day_of}
use Rattle.records.specs.Records.{field, type_in}
use Rattle.amounts.specs.Amounts.{or_zero}
use Rattle.columns.specs.Columns.{field_of, field_in, number_in_column, in_column, number_in, charge_in, usage_in, reference, site, start_day, end_day, cancel}
use Rattle.bill_files.specs.Accepted.{number_or_zero, sender_in, commodity_in, id_in, is_period, is_bill, bill_in}
use Rattle.entries.specs.declared.Entry.{Entry}
use Rattle.booking.specs.Booking.{id_or_zero}
use Rattle.file_bills.specs.InsideBills.{source_entry, reference_in_column}
use Rattle.bill_files.proofs.Sums.{one_counts}

-- ---- numbers that stand as themselves and one
less : (n : ℕ) → n + 1 - 1 ≡ n
less n = omega arith

number_less : (x : Option ℕ) → number_in_column x - 1 ≡ number_or_zero x
number_less (Some n) = less n
number_less None = refl

reference_less : (x : Option ℕ) → number_in_column x - 1 ≡ id_or_zero x
reference_less (Some n) = less n
reference_less None = refl

reference_kept : (x : Option ℕ) → number_in_column x ≡ reference_in_column x
reference_kept (Some n) = refl
reference_kept None = refl

cancel_state : (t : Bool) (x : ℕ) → cond t x 0 ≡ cond (eqb (cond t 4 1) 4) x 0
cancel_state true x = refl
cancel_state false x = refl

id_field : (T : ℕ) → (eqb T 2 || eqb T 7) ≡ true → field_of 1 T ≡ 1
unfolding field_of
id_field T e = go (eqb T 2) (eqb T 7) refl refl e
  where
    go : (a b : Bool) → eqb T 2 ≡ a → eqb T 7 ≡ b → (a || b) ≡ true → field_of 1 T ≡ 1
    go true b p q e = subst (λ (n : ℕ). field_of 1 n ≡ 1) (sym (eqb-true T 2 p)) refl
    go false true p q e = subst (λ (n : ℕ). field_of 1 n ≡ 1) (sym (eqb-true T 7 q)) refl
    go false false p q e = let z : ◌≡◌ {A = ℕ} 0 1 = cc in absurd (omega arith)

-- what the columns of a line hold
type_at_lem : (line : List ℕ) → number_in 0 line ≡ type_in line
unfolding number_in
type_at_lem line = refl

id_at_lem : (line : List ℕ) → is_bill line ≡ true → number_in 1 line - 1 ≡ id_in line
unfolding number_in in_column
id_at_lem line e = ap (λ (k : ℕ). number_in_column (digits_of (field k line)) - 1) (id_field (type_in line) e) ∙ number_less (digits_of (field 1 line))

site_at : (line : List ℕ) → number_in 3 line - 1 ≡ number_or_zero (digits_of (field_in site line))
unfolding number_in in_column
site_at line = number_less (digits_of (field_in site line))

start_at : (line : List ℕ) → number_in 5 line - 1 ≡ number_or_zero (day_of (field_in start_day line))
unfolding number_in in_column
start_at line = number_less (day_of (field_in start_day line))

end_at : (line : List ℕ) → number_in 6 line - 1 ≡ number_or_zero (day_of (field_in end_day line))
unfolding number_in in_column
end_at line = number_less (day_of (field_in end_day line))

cancel_at : (line : List ℕ) → eqb (number_in 7 line) 1 ≡ same_bytes (field_in cancel line) (written "Y")
unfolding number_in in_column
cancel_at line = one_counts (same_bytes (field_in cancel line) (written "Y"))

reference_at : (line : List ℕ) → number_in 4 line - 1 ≡ id_or_zero (digits_of (field_in reference line))
unfolding number_in in_column
reference_at line = reference_less (digits_of (field_in reference line))

pub reference_is : (header line : List ℕ) → number_in 4 line ≡ reference_in_column (bill_in header line).reference
unfolding number_in in_column bill_in
reference_is header line = reference_kept (digits_of (field_in reference line))

pub bill_type : (line : List ℕ) → (eqb (number_in 0 line) 2 || eqb (number_in 0 line) 7) ≡ is_bill line
bill_type line = ap (λ (n : ℕ). eqb n 2 || eqb n 7) (type_at_lem line)

pub bill_entry : (header line : List ℕ) (sender commodity : ℕ) → sender ≡ sender_in header → commodity ≡ commodity_in header → is_bill line ≡ true
    → ◌≡◌ {A = Entry} (record {
      sender = sender;
      commodity = commodity;
      kind = cond (eqb (number_in 0 line) 2) 2 3;
      id = number_in 1 line - 1;
      site = number_in 3 line - 1;
      start = cond (eqb (number_in 0 line) 2) (number_in 5 line - 1) 0;
      end = cond (eqb (number_in 0 line) 2) (number_in 6 line - 1) 0;
      charge = or_zero (charge_in line);
      usage = cond (eqb (number_in 0 line) 2) (or_zero (usage_in line)) (pos 0);
      state = cond (eqb (number_in 7 line) 1) 4 1;
      cancels = cond (eqb (number_in 7 line) 1) (number_in 4 line - 1) 0;
    }) (source_entry (bill_in header line))
unfolding bill_in
bill_entry header line sender commodity s c e =
    (λ t.
    record {
      sender = s t;
      commodity = c t;
      kind = cond (period t) 2 3;
      id = id_at_lem line e t;
      site = site_at line t;
      start = cond (period t) (start_at line t) 0;
      end = cond (period t) (end_at line t) 0;
      charge = or_zero (charge_in line);
      usage = cond (period t) (or_zero (usage_in line)) (pos 0);
      state = cond (cancel_at line t) 4 1;
      cancels = (ap (λ (b : Bool). cond b (number_in 4 line - 1) 0) (cancel_at line) ∙ ap (λ (x : ℕ). cond (same_bytes (field_in cancel line) (written "Y")) x 0) (reference_at line)
          ∙ cancel_state (same_bytes (field_in cancel line) (written "Y")) (id_or_zero (digits_of (field_in reference line)))) t;
    })
  where
    period : eqb (number_in 0 line) 2 ≡ is_period line
    period = ap (λ (n : ℕ). eqb n 2) (type_at_lem line)
