-- Tables 4-2 to 4-10: the fields of each record type in order, with their types and Mandatory marks.
-- Assumes nothing.
use Rattle.std.specs.Prelude.{ℕ, zero, suc, List, [], ◌∷◌, map, Bool, true, false, cond, ◌&&◌, length, get_or, ltb}
use Rattle.fields.specs.declared.FieldType.{FieldType}
use Rattle.fields.specs.declared.FieldType.TheVariants.{RecordId, Digits, Number, Date, DateTime, Char, Varchar}

-- a field's type, and whether it is marked Mandatory
abbrev pub Field : Type 0
Field = FieldType × Bool

abbrev pub mandatory : FieldType → Field
mandatory t = (t, true)

abbrev pub other : FieldType → Field
other t = (t, false)

-- the ID formats of Appendix A
abbrev pub site_id : FieldType
site_id = Digits 13

abbrev pub retailer_id : FieldType
retailer_id = Digits 9

abbrev pub distributor_id : FieldType
distributor_id = Digits 4

abbrev pub zone_id : FieldType
zone_id = Digits 4

-- Table 4-2, FH: 1 Record ID, 2 Parent ID, 3 Record Type, 4 Retailer ID, 5 Sender ID, 6 Commodity Code, 7 Date Created, 8 Billing Cycle, 9 Tariff Bill
-- File Reference ID
abbrev pub file_header : List Field
file_header =
    mandatory RecordId ∷ mandatory RecordId ∷ mandatory (Char 2) ∷ mandatory retailer_id ∷ mandatory distributor_id ∷ mandatory (Char 2)
    ∷ mandatory DateTime ∷ other (Varchar 9) ∷ other RecordId ∷ []

-- Table 4-3, SH: 1 Record ID, 2 Parent ID, 3 Record Type, 4 Site ID, 5 Current Billing Period Start Date, 6 Current Billing Period End Date, 7
-- Distributor ID, 8 Zone ID, 9 Municipality ID, 10 REA Code, 11 Billing Cycle, 12 Usage Total, 13 Usage UOM, 14 Charge Total, 15 Additional Site
-- Information, 16 Site Production Reason Code, 17 As-at Date, 18 Parent Site ID
abbrev pub site_header : List Field
site_header =
    mandatory RecordId ∷ mandatory RecordId ∷ mandatory (Char 2) ∷ mandatory site_id ∷ other Date ∷ other Date
    ∷ mandatory distributor_id ∷ mandatory zone_id ∷ mandatory (Varchar 4) ∷ other (Char 4) ∷ mandatory (Varchar 9) ∷ mandatory (Number 14 4)
    ∷ mandatory (Varchar 4) ∷ mandatory (Number 11 2) ∷ other (Varchar 50) ∷ mandatory (Number 4 0) ∷ other DateTime ∷ other site_id ∷ []

-- Table 4-4, TH: 1 Record ID, 2 Parent ID, 3 Record Type, 4 Site ID, 5 Tariff Bill Period Start Date, 6 Tariff Bill Period End Date, 7 Cancel Indicator,
-- 8 Tariff Bill Period Reference ID, 9 Cancel Reason Code, 10 Tariff Rate Code, 11 Site Status Code, 12 Usage Total, 13 Usage UOM, 14 Charge Total
abbrev pub period_header : List Field
period_header =
    mandatory RecordId ∷ mandatory RecordId ∷ mandatory (Char 2) ∷ mandatory site_id ∷ mandatory Date ∷ mandatory Date
    ∷ mandatory (Char 1) ∷ other RecordId ∷ other (Number 4 0) ∷ mandatory (Varchar 9) ∷ mandatory (Char 1) ∷ mandatory (Number 14 4)
    ∷ mandatory (Varchar 4) ∷ mandatory (Number 11 2) ∷ []

-- Table 4-5, DU: 1 Record ID, 2 Parent ID, 3 Record Type, 4 Site ID, 5 Usage Period Start Date, 6 Usage Period End Date, 7 Cancel Indicator, 8 Meter
-- Type Code, 9 Meter Number, 10 Number of Dials, 11 From Reading, 12 From Reading Code, 13 To Reading, 14 To Reading Code, 15 Billing Multiplier, 16
-- Usage Amount, 17 Usage UOM
abbrev pub usage_determinant : List Field
usage_determinant =
    mandatory RecordId ∷ mandatory RecordId ∷ mandatory (Char 2) ∷ mandatory site_id ∷ mandatory Date ∷ mandatory Date
    ∷ mandatory (Char 1) ∷ mandatory (Char 1) ∷ other (Varchar 20) ∷ other (Number 3 0) ∷ other (Number 14 4) ∷ other (Char 1)
    ∷ other (Number 14 4) ∷ other (Char 1) ∷ other (Number 14 9) ∷ mandatory (Number 13 4) ∷ mandatory (Varchar 4) ∷ []

-- Table 4-6, DD: 1 Record ID, 2 Parent ID, 3 Record Type, 4 Site ID, 5 Demand Period Start Date, 6 Demand Period End Date, 7 Cancel Indicator, 8 Demand
-- Type Code, 9 Demand Value, 10 Demand UOM, 11 Meter Number, 12 Ratchet Date Time, 13 Ratchet Period Months, 14 Power Factor, 15 Demand Contract End
-- Date
abbrev pub demand_determinant : List Field
demand_determinant =
    mandatory RecordId ∷ mandatory RecordId ∷ mandatory (Char 2) ∷ mandatory site_id ∷ mandatory Date ∷ mandatory Date
    ∷ mandatory (Char 1) ∷ mandatory (Number 4 0) ∷ mandatory (Number 10 4) ∷ mandatory (Varchar 4) ∷ other (Varchar 20) ∷ other DateTime
    ∷ other (Number 2 0) ∷ other (Number 7 6) ∷ other Date ∷ []

-- Table 4-7, DM: 1 Record ID, 2 Parent ID, 3 Record Type, 4 Site ID, 5 Miscellaneous Determinant Period Start Date, 6 Miscellaneous Determinant Period
-- End Date, 7 Cancel Indicator, 8 Unit Quantity, 9 Unit Quantity UOM, 10 Miscellaneous Determinant Code
abbrev pub miscellaneous_determinant : List Field
miscellaneous_determinant =
    mandatory RecordId ∷ mandatory RecordId ∷ mandatory (Char 2) ∷ mandatory site_id ∷ mandatory Date ∷ mandatory Date
    ∷ mandatory (Char 1) ∷ mandatory (Number 12 4) ∷ mandatory (Varchar 7) ∷ mandatory (Varchar 4) ∷ []

-- Table 4-8, CH: 1 Record ID, 2 Parent ID, 3 Record Type, 4 Site ID, 5 Charge Period Start Date, 6 Charge Period End Date, 7 Cancel Indicator, 8 Tariff
-- Cross Reference Code, 9 Component Category Code, 10 Component Basis Code, 11 Component Type Code, 12 Component Step Number, 13 Component Billed
-- Quantity, 14 Component Billed Quantity UOM, 15 Time Calculation Type, 16 Time Factor, 17 Component Unit Price, 18 Charge Amount, 19 GST Exemption
-- Indicator
abbrev pub tariff_charge : List Field
tariff_charge =
    mandatory RecordId ∷ mandatory RecordId ∷ mandatory (Char 2) ∷ mandatory site_id ∷ mandatory Date ∷ mandatory Date
    ∷ mandatory (Char 1) ∷ mandatory (Varchar 9) ∷ mandatory (Number 4 0) ∷ mandatory (Char 1) ∷ mandatory (Varchar 4) ∷ mandatory (Number 3 0)
    ∷ mandatory (Number 15 6) ∷ mandatory (Varchar 7) ∷ mandatory (Char 1) ∷ mandatory (Number 9 6) ∷ mandatory (Number 19 12) ∷ mandatory (Number 11 2)
    ∷ mandatory (Char 1) ∷ []

-- Table 4-9, OC: 1 Record ID, 2 Parent ID, 3 Record Type, 4 Site ID, 5 Charge Date, 6 Cancel Indicator, 7 One-Time Charge Reference ID, 8 Cancel Reason
-- Code, 9 One-Time Charge Code, 10 Charge Amount, 11 GST Exemption Indicator
abbrev pub one_time_charge : List Field
one_time_charge =
    mandatory RecordId ∷ mandatory RecordId ∷ mandatory (Char 2) ∷ mandatory site_id ∷ mandatory Date ∷ mandatory (Char 1)
    ∷ other RecordId ∷ other (Number 4 0) ∷ mandatory (Varchar 4) ∷ mandatory (Number 11 2) ∷ mandatory (Char 1) ∷ []

-- Table 4-10, FT: 1 Record ID, 2 Parent ID, 3 Record Type, 4 File Record Count, 5 Charge Total
abbrev pub file_trailer : List Field
file_trailer = mandatory RecordId ∷ mandatory RecordId ∷ mandatory (Char 2) ∷ mandatory (Number 9 0) ∷ mandatory (Number 11 2) ∷ []

abbrev pub record_tables : List (List Field)
record_tables =
    file_header ∷ site_header ∷ period_header ∷ usage_determinant ∷ demand_determinant ∷ miscellaneous_determinant ∷ tariff_charge ∷ one_time_charge ∷ file_trailer ∷ []

-- "The 2007 field counts are 9, 18, 14, 17, 15, 10, 19, 11, 5": as many as the tables have (proofs/Laws, `field_counts_lem`)
abbrev pub field_counts : List ℕ
field_counts = map (λ (fields : List Field). length fields) record_tables

unfoldable pub field_count : ℕ → ℕ
field_count type = get_or field_counts type 0

-- the constants of the code have rows of 19, the longest table's
abbrev pub padded {ℓ} : {A : Type ℓ} → ℕ → A → List A → List A
padded zero filler xs = []
padded (suc n) filler [] = filler ∷ padded n filler []
padded (suc n) filler (x ∷ xs) = x ∷ padded n filler xs

abbrev pub type_rows : List (List FieldType)
type_rows = map (λ (fields : List Field). padded 19 RecordId (map (λ (f : Field). f.0) fields)) record_tables

abbrev pub mark_rows : List (List Bool)
mark_rows = map (λ (fields : List Field). padded 19 false (map (λ (f : Field). f.1) fields)) record_tables

-- the type of the field after k others of a record of a type
unfoldable pub field_type : ℕ → ℕ → FieldType
field_type type k = cond (ltb type 9 && ltb k 19) (get_or (get_or type_rows type []) k RecordId) RecordId

-- whether it is marked Mandatory
unfoldable pub is_mandatory : ℕ → ℕ → Bool
is_mandatory type k = cond (ltb type 9 && ltb k 19) (get_or (get_or mark_rows type []) k false) false
