-- What a record's fields and its type are.
--     fields_few, fields_many    a line has its parts as fields where these are at most 24, and none otherwise
--     field_at, field_none       field k is the part after k - 1 others; there is no field 0, and none past the count
--     number_none, number_there    the start or the end of field k
--     place_among                the place of field k of a record
--     record_placed                  a record has the places of a line's fields
--     type_third                 the type of a line goes by its third place
--     fields_known               a line of a known type has its parts as fields
-- Assumes nothing.
use mathlib.Core.Path.{◌≡◌, refl, sym, ◌∙◌, ap, subst}
use mathlib.Core.List.{List, [], ◌∷◌}
use mathlib.Core.Logic.{◌⊎◌, inr, ⊎_elim}
use mathlib.Core.Bool.{cond}
use Prim.Native.Nat.{ℕ, zero, suc, ◌+◌, ◌-◌, ◌≤◌, ◌<◌, zero-le}
use native.Mathlib.Numerals.{add-one}
use native.Mathlib.Omega.{arith}
use native.Mathlib.Decide.{dec_lt}
use borrow.Author.Tests.{le-leb, lt-leb, lt-ltb, le-ltb}
use lib.Dec.{ltb}
use lib.ListN.{length, get_or, take, length-take, get_or-eq_default}
use lib.Seq.{get_or-take}
use Rattle.tables.specs.Types.{type_named}
use Rattle.records.specs.InsidePlacedLines.{part, Placed, At}
use Rattle.records.specs.Text.{fields_of}
use Rattle.records.proofs.Placed.{placed_at}
use Rattle.records.specs.Records.{record_fields, field, type_in}
use Rattle.records.specs.InsidePlacedFields.{number_among, field_among, FieldsPlaced, RecordFound}
use Rattle.records.specs.declared.Record.{Record}

pub fields_few : (line : List ℕ) → length (fields_of line) ≤ 24 → record_fields line ≡ fields_of line
unfolding record_fields
fields_few line h = simp (le-leb (length (fields_of line)) 24 h)

pub fields_many : (line : List ℕ) → 24 < length (fields_of line) → record_fields line ≡ []
unfolding record_fields
fields_many line h = simp (lt-leb (length (fields_of line)) 24 h)

-- the tables count fields from 1, a list its elements from 0
pub field_at : (line : List ℕ) (k : ℕ) → field (k + 1) line ≡ get_or (record_fields line) k []
unfolding field
field_at line k = rw add-one

pub field_none : (line : List ℕ) (k : ℕ) → (k ≡ 0) ⊎ (length (record_fields line) < k) → field k line ≡ []
unfolding field
field_none line k = ⊎_elim (λ e. rw e) (λ h. get_or-eq_default ([] ∷ record_fields line) [] {n = k} h)

-- ---- fields by their places
pub among_is : (line : List ℕ) (k : ℕ) → field_among (record_fields line) k ≡ field k line
unfolding field_among field
among_is line k = refl

pub number_none : (n : ℕ) (numbers : List ℕ) (k : ℕ) → (k ≡ 0) ⊎ (n < k) → number_among (take n numbers) k ≡ 0
unfolding number_among
number_none n numbers k = ⊎_elim (λ e. rw e) (λ h. get_or-eq_default (0 ∷ take n numbers) 0 {n = k} (omega (arith, length-take n numbers)))

pub number_there : (n : ℕ) (numbers : List ℕ) (k : ℕ) → (k ≡ 0 → ⊥) → k ≤ n → number_among (take n numbers) k ≡ get_or numbers (k - 1) 0
unfolding number_among
number_there n numbers zero some h = absurd (some refl)
number_there n numbers (suc k) some h = get_or-take n numbers k 0 h ∙ ap (λ (j : ℕ). get_or numbers j 0) before
  where
    before : k ≡ suc k - 1
    before = omega arith

none_among : (fields : List (List ℕ)) (k : ℕ) → length fields < k → field_among fields k ≡ []
unfolding field_among
none_among fields k h = get_or-eq_default ([] ∷ fields) [] {n = k} h

-- the place of field k, which stands after k - 1 others; 0 to 0 where there is none
pub place_among : {s : List ℕ} {n : ℕ} {bs es : List ℕ} {fields : List (List ℕ)} → Placed s n bs es fields → (k : ℕ)
    → At s (number_among (take n bs) k) (number_among (take n es) k) (field_among fields k)
unfolding number_among field_among
place_among p zero = record { low = zero-le; high = zero-le; same = refl }
place_among {s} {n} {bs} {es} {fields} p (suc k) = go (dec_lt k n)
  where
    go : Dec (k < n) → At s (number_among (take n bs) (suc k)) (number_among (take n es) (suc k)) (field_among fields (suc k))
    go (yes h) = rw (get_or-take n bs k 0 h, get_or-take n es k 0 h) (placed_at p k h)
    go (no h) =
        let past : n < suc k = omega (arith, h) in
        rw (number_none n bs (suc k) (inr past), number_none n es (suc k) (inr past), none_among fields (suc k) (omega (arith, p.count)))
        (record { low = zero-le; high = zero-le; same = refl })

-- a record's fields, by their places
module _ {s line : List ℕ} {r : Record} (found : RecordFound s line r) where
  pub record_placed : FieldsPlaced s r.count r.starts r.ends
  record_placed = (found.few, subst (λ (fields : List (List ℕ)). Placed s r.count r.starts r.ends fields) (sym found.placed.same) found.placed)

-- the third field, by its place
pub type_third : {s : List ℕ} {n : ℕ} {bs es : List ℕ} (line : List ℕ) → Placed s n bs es (record_fields line)
    → cond (ltb 2 n) (type_named (part s (get_or bs 2 0) (get_or es 2 0))) 9 ≡ type_in line
unfolding type_in type_named
type_third {s} {n} {bs} {es} line p = go (dec_lt 2 n)
  where
    go : Dec (2 < n) → cond (ltb 2 n) (type_named (part s (get_or bs 2 0) (get_or es 2 0))) 9 ≡ type_in line
    go (yes k) = rw (lt-ltb 2 n k) (ap type_named ((placed_at p 2 k).same ∙ sym (field_at line 2)))
    go (no k) = rw (le-ltb 2 n (omega (arith, k)), field_none line 3 (inr (omega (arith, k, p.count))))

-- a line of a known type has its parts as fields: one of more than 24 fields has none, and so no type
pub fields_known : (line : List ℕ) → type_in line < 9 → record_fields line ≡ fields_of line
unfolding type_in type_named
fields_known line h = go (dec_lt 24 (length (fields_of line)))
  where
    go : Dec (24 < length (fields_of line)) → record_fields line ≡ fields_of line
    go (yes k) =
        let none : field 3 line ≡ [] = field_none line 3 (inr (rw (fields_many line k) (omega arith))) in
        let z : type_named (field 3 line) ≡ 9 = rw none in
        absurd (omega (arith, h, z))
    go (no k) = fields_few line (omega (arith, k))
