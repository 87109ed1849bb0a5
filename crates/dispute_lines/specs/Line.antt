-- The line of a tariff bill dispute (TBD) transaction: Table 4-14. Request 4: "laid out as Table 4-14", "fields that Table 4-14 leaves optional are empty".
-- Assumes nothing.
use Rattle.std.specs.Prelude.{ℕ, List, [], ◌∷◌, Bool, cond, not}
use Rattle.lists.specs.Written.{written}
use Rattle.writing.specs.Decimals.{digits_in, plain_digits}
use Rattle.written_lines.specs.Lines.{line_of}
use Rattle.dispute_lines.specs.declared.Dispute.{Dispute}

-- a Record ID where it is shown, and else an empty field
unfoldable pub shown_id : Bool → ℕ → List ℕ
shown_id shown id = cond shown (plain_digits id) []

-- "Transaction and Record IDs are unsigned (a minus misses the type) and written without leading zeros, site, distributor and retailer IDs with all their
-- digits". Fields 8 and 10: "If disputing a tariff bill period, this field is mandatory ..; otherwise it must be [null]", and the like of a One-Time Charge.
abbrev pub dispute_fields : Dispute → List ℕ → List (List ℕ)
dispute_fields d created =
    written "TBD"  -- 1, Transaction Abbreviation
    ∷ plain_digits d.transaction  -- 2, Transaction ID
    ∷ digits_in 9 d.retailer  -- 3, Sender ID
    ∷ digits_in 4 d.distributor  -- 4, Distributor ID
    ∷ created  -- 5, Date Created
    ∷ plain_digits d.file  -- 6, Tariff Bill File Record ID
    ∷ digits_in 13 d.site  -- 7, Site ID
    ∷ shown_id (not d.once) d.id  -- 8, Tariff Bill Period Record ID
    ∷ []  -- 9, Record ID
    ∷ shown_id d.once d.id  -- 10, One-Time Charge Record ID
    ∷ digits_in 4 d.code  -- 11, Dispute Code
    ∷ []

-- "The line ends with byte 10"
abbrev pub dispute_line : Dispute → List ℕ → List ℕ
dispute_line d created = line_of 44 (dispute_fields d created)
