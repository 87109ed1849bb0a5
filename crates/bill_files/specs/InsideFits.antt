-- How large what an accepted file says can be: what booking, and the soundness of a ledger, ask of a file's TH and OC.
-- Document 01, "The ledger": "senders have at most 4 digits, sites 13, IDs and amounts 15; commodities, kinds, states and days are in range";
-- "no start day is after its end day; what a kind lacks is 0".
-- Assumes nothing.
use Rattle.std.specs.Prelude.{ℕ, ◌^◌, ◌≤◌, ◌<◌, ◌≡◌, ◌⊎◌, List, length, get_or, pos, nat_abs}
use Rattle.std.specs.Prelude.{Some}
use Rattle.bill_files.specs.Accepted.{Bill, BillFile}

pub record BillFits (b : Bill) : Type 0 where
  pub sender : b.sender < 10 ^ 4
  pub commodity : (b.commodity ≡ 1) ⊎ (b.commodity ≡ 2)
  pub kind : (b.kind ≡ 2) ⊎ (b.kind ≡ 3)
  pub record_id : b.record_id < 10 ^ 15
  pub site : b.site < 10 ^ 13
  pub in_order : b.start ≤ b.end
  pub end : b.end ≤ 36524
  pub charge : nat_abs b.charge < 10 ^ 15
  pub usage : nat_abs b.usage < 10 ^ 15
  pub once : b.kind ≡ 3 → (b.start ≡ 0) × (b.end ≡ 0) × (b.usage ≡ pos 0)
  pub reference : (n : ℕ) → b.reference ≡ Some n → n < 10 ^ 15

-- the same of the file's own entry
pub record FileFits (file : BillFile) : Type 0 where
  pub sender : file.sender < 10 ^ 4
  pub commodity : (file.commodity ≡ 1) ⊎ (file.commodity ≡ 2)
  pub record_id : file.record_id < 10 ^ 15
  pub total : nat_abs file.total < 10 ^ 15

-- no two places have the same number
unfoldable pub Distinct : List ℕ → Type 0
Distinct xs = (i j : ℕ) → i < j → j < length xs → get_or xs i 0 ≡ get_or xs j 0 → ⊥
