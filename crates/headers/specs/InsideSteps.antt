-- What a step of test 12 asks.
-- Assumes nothing.
use Rattle.std.specs.Prelude.{ℕ, List, Bool}
use Rattle.lists.specs.Bytes.{same_bytes}
use Rattle.digits.specs.Digits.{fixed_digits_of}
use Rattle.headers.specs.Headers.{is_value, group}

-- the sender is group g of the distributors
abbrev pub is_group : List ℕ → List ℕ → ℕ → Bool
is_group distributors sender g = same_bytes (group distributors g) sender

-- group g of the distributors is four digits whose number is the sender's
abbrev pub is_sender : List ℕ → ℕ → ℕ → Bool
is_sender distributors sender g = is_value sender (fixed_digits_of 4 (group distributors g))
