-- `read_head` meets its contract: where a byte is unprintable, one of the first three fields does not fit, or there are fewer, the line fails test 2 or 3.
-- Assumes nothing.
use mathlib.Core.Path.{refl, sym, ◌∙◌}
use native.Mathlib.Omega.{arith}
use borrow.Author.Rules.{rules}
use Rattle.line_reader.proofs.Heads.{first_miss, first_inside, first_last, second_miss, second_inside, second_last, third_miss, third_inside, head_unknown, head_all}
use Rattle.line_reader.proofs.Unread.{unread_bytes}
use Rattle.line_reader.proofs.read_head.Goals as goal

pub returns-then-has_unprintable : goal.returns-then-has_unprintable
returns-then-has_unprintable c = unread_bytes _ (sym c.has_unprintable.ensures ∙ c.if-has_unprintable.true)

pub returns-in_err-id : goal.returns-in_err-id
returns-in_err-id c = rw c.from_residual.ensures (first_miss c.requires c.in_err-id.ensures)

pub overflow_add-id_end : goal.overflow_add-id_end
overflow_add-id_end c = search (rules, first_inside)

pub returns-then-e-id_end : goal.returns-then-e-id_end
returns-then-e-id_end c = first_last c.requires c.in_ok-id.ensures (omega arith)

pub returns-in_err-parent : goal.returns-in_err-parent
returns-in_err-parent c = rw c.from_residual-in_err-parent.ensures (second_miss c.requires c.in_ok-id.ensures (omega arith) c.in_err-parent.ensures)

pub overflow_add-parent_end : goal.overflow_add-parent_end
overflow_add-parent_end c = search (rules, second_inside)

pub returns-then-e-parent_end : goal.returns-then-e-parent_end
returns-then-e-parent_end c = second_last c.requires c.in_ok-id.ensures (omega arith) c.in_ok-parent.ensures (omega arith)

pub returns-in_err-name : goal.returns-in_err-name
returns-in_err-name c =
    rw c.from_residual-in_err-name.ensures (third_miss c.requires c.in_ok-id.ensures (omega arith) c.in_ok-parent.ensures (omega arith) c.in_err-name.ensures)

pub overflow_add-type_end : goal.overflow_add-type_end
overflow_add-type_end c = search (rules, third_inside)

pub slice_bounds-type_named-end : goal.slice_bounds-type_named-end
slice_bounds-type_named-end c = search (rules, third_inside)

pub returns-then-record_type-ge-NO_TYPE : goal.returns-then-record_type-ge-NO_TYPE
returns-then-record_type-ge-NO_TYPE c =
    head_unknown c.requires c.in_ok-id.ensures (omega arith) c.in_ok-parent.ensures (omega arith) c.in_ok-name.ensures (rw c.type_named-record_type.ensures at c.if-record_type-ge-NO_TYPE.true)

pub returns : goal.returns
returns c =
    head_all c.requires c.in_ok-id.ensures (omega arith) c.in_ok-parent.ensures (omega arith) c.in_ok-name.ensures _ (sym c.has_unprintable.ensures ∙ c.if-has_unprintable.false) c.type_named-record_type.ensures refl refl refl
    c.head_filled-filled.ensures (omega arith)
