-- Document 01, "Operations": "Rejection code of a test. 107 if the number isn't a Table 5-1 test listed here (101 and 102 aren't). Otherwise the code from A5.24".
-- Assumes nothing.
use Rattle.std.specs.Prelude.{ℕ, List, [], ◌∷◌, cond, eqb}
use Rattle.std.specs.Prelude.{Option, Some, None}

-- the tests of Table 5-1 that document 01 lists, each with the code whose name in A5.24 is that of the test. Request 2: "tests that requests add count as listed in
-- document 01, their A5.24 codes included"
abbrev pub rejection_codes : List (ℕ × ℕ)
rejection_codes =
    (2, 6002)  -- Invalid file format
    ∷ (3, 6041)  -- Invalid data type
    ∷ (4, 6003)  -- Invalid record production sequence
    ∷ (5, 6004)  -- Failed mandatory field logic
    ∷ (6, 6005)  -- Failed conditional field logic
    ∷ (7, 6006)  -- Invalid standard code
    ∷ (8, 6007)  -- Non-unique record ID
    ∷ (9, 6007)  -- Non-unique record ID
    ∷ (10, 6008)  -- Invalid parent ID
    ∷ (11, 6009)  -- Invalid retailer ID
    ∷ (12, 6010)  -- Invalid distributor ID
    ∷ (14, 6011)  -- Invalid date logic
    ∷ (17, 6015)  -- Failed cancel indicator logic
    ∷ (18, 6016)  -- Tariff bill period overlap (within tariff bill file)
    ∷ (29, 6028)  -- Invalid usage total (Site Header record)
    ∷ (30, 6029)  -- Invalid charge total (Site Header record)
    ∷ (31, 6031)  -- Invalid usage total (Tariff Bill Period Header record)
    ∷ (32, 6032)  -- Invalid charge total (Tariff Bill Period Header record)
    ∷ (33, 6033)  -- Invalid file record count (File Trailer record)
    ∷ (34, 6034)  -- Invalid charge total (File Trailer record)
    ∷ (38, 6040)  -- Invalid child record values
    ∷ (39, 6043)  -- Failed cancel reference logic
    ∷ (40, 6044)  -- Failed cancel value logic
    ∷ []

-- the code that a list of tests gives a number
unfoldable pub code_in : List (ℕ × ℕ) → ℕ → Option ℕ
code_in [] n = None
code_in (t ∷ rest) n = cond (eqb n t.0) (Some t.1) (code_in rest n)

unfoldable pub code_of : ℕ → Option ℕ
code_of n = code_in rejection_codes n
