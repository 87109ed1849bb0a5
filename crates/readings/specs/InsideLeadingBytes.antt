-- What stands at the start of a line's bytes: the field there and where it ends, digits, and a short text as one number.
-- Assumes nothing.
use Rattle.std.specs.Prelude.{◌≡◌, ℕ, ◌+◌, ◌*◌, ◌<◌, ◌≤◌, true, List, [], ◌∷◌, length, take, slice_index}
use Rattle.lists.specs.First.{first_where, is_byte}
use Rattle.digits.specs.Digits.{all_digits, number_of}
use Rattle.readings.specs.declared.Run.{Run}

-- where the field at the start of s ends: at the first comma, or at the end
abbrev pub field_end : List ℕ → ℕ
field_end s = first_where (is_byte 44) s

abbrev pub leading_field : List ℕ → List ℕ
leading_field s = take (field_end s) s

-- a place at which the field at the start of s can end
abbrev pub Ends : List ℕ → ℕ → Type 0
Ends s k = (k ≤ length s) × (k < length s → slice_index s k ≡ 44)

-- the bytes of a text as one number, to the base 256
unfoldable pub packed_after : ℕ → List ℕ → ℕ
packed_after v [] = v
packed_after v (b ∷ s) = packed_after (v * 256 + b) s

abbrev pub packed : List ℕ → ℕ
packed s = packed_after 0 s

-- the digits at the start of s, at most 15
pub record DigitsRead (s : List ℕ) (r : Run) : Type 0 where
  pub inside : r.len ≤ length s
  pub few : r.len ≤ 15
  pub digits : all_digits (take r.len s) ≡ true
  pub value : r.value ≡ number_of (take r.len s)

-- and there are no more of them: where they are fewer than 15, no digit stands after them
pub record AllRead (s : List ℕ) (r : Run) : Type 0 where
  pub read : DigitsRead s r
  pub stops : r.len < 15 → r.len < length s → 48 ≤ slice_index s r.len → slice_index s r.len ≤ 57 → ⊥

-- the bytes at the start of s before a comma, at most 4
pub record TextRead (s : List ℕ) (r : Run) : Type 0 where
  pub inside : r.len ≤ length s
  pub few : r.len ≤ 4
  pub before : r.len ≤ field_end s
  pub value : r.value ≡ packed (take r.len s)
  pub stops : r.len < 4 → Ends s r.len
