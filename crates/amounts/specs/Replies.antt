-- What a host is answered that asks what a field says as an amount.
-- Assumes nothing.
use Rattle.std.specs.Prelude.{pos}
use Rattle.amounts.specs.declared.Amount.{Amount}
use Rattle.amounts.specs.declared.Amount.TheVariants.{Missing, Value as Units, Misses}
use Rattle.amounts.specs.declared.AmountReply.{AmountReply}

-- the number is 3, that of the test, where the field misses its type
abbrev pub amount_reply : Amount → AmountReply
amount_reply Missing = record { number = 0; filled = 0; units = pos 0 }
amount_reply (Units x) = record { number = 0; filled = 1; units = x }
amount_reply Misses = record { number = 3; filled = 1; units = pos 0 }
