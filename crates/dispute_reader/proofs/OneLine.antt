-- What is read of a line, and of bytes that are one line or not.
--     line_unprintable, line_miscounted, line_unnamed    the lines that test 2 refuses
--     line_read                   a line that it passes
--     found_placed, found_named   the places of a line's fields, and its first
--     lines_other, line_only      bytes that are no line or more than one, and those that are one
--     line_placed                 where the first line stands
-- Assumes nothing.
use Rattle.std.specs.Prelude.{Option, Some, None, Result}
use Rattle.std.specs.Option.{ok_or}
use mathlib.Core.Path.{◌≡◌, sym, ◌∙◌, ap, subst}
use mathlib.Core.List.{List, []}
use mathlib.Core.Bool.{Bool, true, false, not, or-true}
use Prim.Native.Nat.{ℕ, ◌<◌}
use native.Mathlib.Omega.{arith}
use borrow.Author.Tests.{eq-eqb, ne_eqb}
use lib.ListN.{length, get_or}
use Rattle.lists.specs.Below.{some_below}
use Rattle.lists.specs.Bytes.{same_bytes}
use Rattle.lists.specs.Written.{written}
use Rattle.records.specs.declared.Record.{Record}
use Rattle.records.specs.Text.{lines_of}
use Rattle.records.specs.Records.{record_fields}
use Rattle.records.specs.InsidePlacedLines.{part, Placed, At}
use Rattle.records.specs.InsidePlacedFields.{field_among, fields_at, FieldsPlaced, RecordFound}
use Rattle.records.proofs.Placed.{placed_at}
use Rattle.records.proofs.Laws.{record_placed}
use Rattle.format.specs.Format.{is_printable, line_at}
use Rattle.dispute_lines.specs.declared.DisputeReply.{DisputeReply}
use Rattle.dispute_reader.specs.declared.Refusal.{Refusal}
use Rattle.dispute_reader.specs.declared.Refusal.TheVariants.{Misfit}
use Rattle.dispute_reader.specs.InsideSaid.{FieldsTold, reply_of}
use Rattle.dispute_lines.specs.Reading.{reading, field_in, is_no_dispute, is_one_line, read_fields, read_line, read_dispute, dispute_reply}

-- the answer of a line that is no dispute
abbrev refused : DisputeReply
refused = dispute_reply (reading 2 [])

module _ (line : List ℕ) where
  abbrev has_unprintable : Bool
  has_unprintable = some_below (λ (i : ℕ). not (is_printable (get_or line i 0))) (length line)

  abbrev is_named : Bool
  is_named = same_bytes (field_in (record_fields line) 1) (written "TBD")

  pub line_unprintable : has_unprintable ≡ true → refused ≡ dispute_reply (read_line line)
  unfolding read_line is_no_dispute
  line_unprintable e = rw e

  pub line_miscounted : (length (record_fields line) ≡ 11 → ⊥) → refused ≡ dispute_reply (read_line line)
  unfolding read_line is_no_dispute
  line_miscounted h = rw (ne_eqb (length (record_fields line)) 11 h, or-true)

  pub line_unnamed : is_named ≡ false → refused ≡ dispute_reply (read_line line)
  unfolding read_line is_no_dispute
  line_unnamed e = rw (e, or-true, or-true)

  line_passes : has_unprintable ≡ false → length (record_fields line) ≡ 11 → is_named ≡ true → dispute_reply (read_fields (record_fields line)) ≡ dispute_reply (read_line line)
  unfolding read_line is_no_dispute
  line_passes p q r = rw (p, eq-eqb (length (record_fields line)) 11 q, r)

-- what is told of the fields of a line
fields_read_lem : (fields : List (List ℕ)) (told : Option DisputeReply) → FieldsTold fields told → reply_of (ok_or told Misfit) ≡ dispute_reply (read_fields fields)
unfolding read_fields
fields_read_lem fields (Some reply) h = rw h.0 h.1
fields_read_lem fields None h = rw h

-- a record of eleven fields
module _ {s line : List ℕ} {r : Record} (found : RecordFound s line r) (eleven : r.count ≡ 11) where
  pub found_placed : FieldsPlaced s 11 r.starts r.ends
  found_placed = subst (λ (n : ℕ). FieldsPlaced s n r.starts r.ends) eleven (record_placed found)

  found_same : fields_at s 11 r.starts r.ends ≡ record_fields line
  found_same = subst (λ (n : ℕ). fields_at s n r.starts r.ends ≡ record_fields line) eleven found.placed.same

  pub found_named : {first : List ℕ} {named : Bool} → first ≡ field_among (fields_at s 11 r.starts r.ends) 1 → named ≡ same_bytes first (written "TBD")
      → same_bytes (field_in (record_fields line) 1) (written "TBD") ≡ named
  unfolding field_among
  found_named {first} {named} e q = sym (q ∙ ap (λ (l : List ℕ). same_bytes l (written "TBD")) (e ∙ ap (λ (fields : List (List ℕ)). field_in fields 1) found_same))

  pub line_read : has_unprintable line ≡ false → is_named line ≡ true → (told : Option DisputeReply) → FieldsTold (fields_at s 11 r.starts r.ends) told
      → (reply : Result DisputeReply Refusal) → reply ≡ ok_or told Misfit → reply_of reply ≡ dispute_reply (read_line line)
  line_read p q told h reply e =
      ap reply_of e ∙ fields_read_lem (fields_at s 11 r.starts r.ends) told h
      ∙ ap (λ (fields : List (List ℕ)). dispute_reply (read_fields fields)) found_same ∙ line_passes line p (sym found.placed.count ∙ eleven) q

-- ---- the bytes
pub lines_other : (bytes : List ℕ) → (length (lines_of bytes) ≡ 1 → ⊥) → refused ≡ dispute_reply (read_dispute bytes)
unfolding read_dispute is_one_line
lines_other bytes h = rw (ne_eqb (length (lines_of bytes)) 1 h)

module _ {bytes : List ℕ} {n : ℕ} {bs es : List ℕ} (p : Placed bytes n bs es (lines_of bytes)) where
  pub line_placed : 0 < n → At bytes (get_or bs 0 0) (get_or es 0 0) (line_at (lines_of bytes) 0)
  line_placed some = placed_at p 0 some

  pub line_only : n ≡ 1 → dispute_reply (read_line (part bytes (get_or bs 0 0) (get_or es 0 0))) ≡ dispute_reply (read_dispute bytes)
  unfolding read_dispute is_one_line
  line_only one = rw ((line_placed (omega (arith, one))).same, eq-eqb (length (lines_of bytes)) 1 (sym p.count ∙ one))
