-- Texts of printable bytes and the numbers that their bytes make to the base 256.
--     Printable, printable_line    every byte is 32 to 126, by the test of a line
--     printable_text               by a test that computes
--     printable_field              a field of a printable line is printable
--     packed_same                  two printable texts of the same number are the same
--     packed_is                    so a test on the numbers is a test on the texts
-- Assumes nothing.
use mathlib.Core.Path.{◌≡◌, refl, sym, ◌∙◌, ap, ap₂}
use mathlib.Core.List.{List, [], ◌∷◌, ◌++◌}
use mathlib.Core.Bool.{Bool, true, false, cond, not}
use Prim.Native.Nat.{ℕ, zero, suc, ◌+◌, ◌*◌, ◌-◌, ◌≤◌, ◌<◌}
use native.Mathlib.Nat.{le_of_suc-le-suc}
use native.Mathlib.Omega.{arith}
use native.Mathlib.Decide.{dec_lt}
use borrow.Author.Tests.{eq-eqb, eqb-true, leb-true, not-false}
use lib.Dec.{T, eqb, leb, leb→le}
use lib.ListN.{length, get_or, replicate, length-append, length-replicate, get_or-eq_default}
use Rattle.lists.specs.Below.{some_below}
use Rattle.lists.specs.Bytes.{same_bytes}
use Rattle.lists.proofs.Below.{some_none}
use Rattle.lists.proofs.Bytes.{same_is, is_same}
use Rattle.lists.proofs.Table.{every, every_at, and_left, and_right}
use Rattle.records.specs.Text.{onto, cut}
use Rattle.digits.proofs.Laws.{both_true}
use Rattle.format.specs.Format.{is_printable}
use Rattle.readings.specs.InsideLeadingBytes.{packed, packed_after}
use Rattle.codes_and_rows.specs.InsideFields.{field_after}

abbrev pub Printable : List ℕ → Type 0
Printable s = (i : ℕ) → i < length s → (32 ≤ get_or s i 0) × (get_or s i 0 ≤ 126)

pub printable_line : (line : List ℕ) → some_below (λ (i : ℕ). not (is_printable (get_or line i 0))) (length line) ≡ false → Printable line
printable_line line e i h =
    let both = both_true (leb 32 (get_or line i 0)) (leb (get_or line i 0) 126) (not-false _ (some_none (λ (j : ℕ). not (is_printable (get_or line j 0))) (length line) e i h)) in
    (leb-true _ _ both.0, leb-true _ _ both.1)

pub printable_text : (s : List ℕ) → T (every (λ (i b : ℕ). is_printable b) 0 s) → Printable s
printable_text s t i h =
    let here = every_at (λ (j b : ℕ). is_printable b) s (length s) i h t refl in
    (leb→le 32 (get_or s i 0) (and_left (leb 32 (get_or s i 0)) (leb (get_or s i 0) 126) here), leb→le (get_or s i 0) 126 (and_right (leb 32 (get_or s i 0)) (leb (get_or s i 0) 126) here))

-- ---- fields
first_and_rest : (b : ℕ) (s : List ℕ) → (32 ≤ b) × (b ≤ 126) → Printable s → Printable (b ∷ s)
first_and_rest b s p rest zero h = p
first_and_rest b s p rest (suc i) h = rest i (le_of_suc-le-suc h)

none_printable : Printable []
none_printable i h = absurd (omega arith)

onto_printable : (b : ℕ) (ls : List (List ℕ)) → (32 ≤ b) × (b ≤ 126) → ((k : ℕ) → Printable (get_or ls k [])) → (k : ℕ) → Printable (get_or (onto b ls) k [])
onto_printable b [] p all zero = first_and_rest b [] p none_printable
onto_printable b [] p all (suc k) = none_printable
onto_printable b (l ∷ ls) p all zero = first_and_rest b l p (all 0)
onto_printable b (l ∷ ls) p all (suc k) = all (suc k)

cut_printable : (d : ℕ) (s : List ℕ) → Printable s → (k : ℕ) → Printable (get_or (cut d s) k [])
unfolding cut
cut_printable d [] p zero = none_printable
cut_printable d [] p (suc k) = none_printable
cut_printable d (b ∷ s) p k = go (cut_printable d s (λ i h. p (suc i) (omega arith))) (eqb b d) k
  where
    go : ((j : ℕ) → Printable (get_or (cut d s) j [])) → (here : Bool) (j : ℕ) → Printable (get_or (cond here ([] ∷ cut d s) (onto b (cut d s))) j [])
    go rest true zero = none_printable
    go rest true (suc j) = rest j
    go rest false j = onto_printable b (cut d s) (p 0 (omega arith)) rest j

pub printable_field : (line : List ℕ) → Printable line → (k : ℕ) → Printable (field_after line k)
printable_field line p k = cut_printable 44 line p k

-- ---- numbers of texts
abbrev Bytes : List ℕ → Type 0
Bytes s = (i : ℕ) → get_or s i 0 < 256

bytes_of : (s : List ℕ) → Printable s → Bytes s
bytes_of s p i = go (dec_lt i (length s))
  where
    go : Dec (i < length s) → get_or s i 0 < 256
    go (yes h) = omega (arith, (p i h).1)
    go (no h) = rw (get_or-eq_default s 0 {n = i} (omega (arith, h))) (omega arith)

-- of texts of the same length
as_long : (f g : List ℕ) (v w : ℕ) → length f ≡ length g → Bytes f → Bytes g → packed_after v f ≡ packed_after w g → (v ≡ w) × (f ≡ g)
unfolding packed_after
as_long [] [] v w l p q e = (e, refl)
as_long [] (b ∷ g) v w l p q e = absurd (omega (arith, l))
as_long (a ∷ f) [] v w l p q e = absurd (omega (arith, l))
as_long (a ∷ f) (b ∷ g) v w l p q e =
    let rest = as_long f g (v * 256 + a) (w * 256 + b) (omega (arith, l)) (λ i. p (suc i)) (λ i. q (suc i)) e in
    let same : a ≡ b = omega (arith, rest.0, p 0, q 0) in
    (omega (arith, rest.0, p 0, q 0), ap₂ (λ (x : ℕ) (l : List ℕ). x ∷ l) same rest.1)

-- bytes 0 in front change nothing
zeros_packed : (n : ℕ) (f : List ℕ) → packed (replicate n 0 ++ f) ≡ packed f
unfolding packed_after
zeros_packed zero f = refl
zeros_packed (suc n) f = zeros_packed n f

zeros_bytes : (n : ℕ) (f : List ℕ) → Bytes f → Bytes (replicate n 0 ++ f)
zeros_bytes zero f p i = p i
zeros_bytes (suc n) f p zero = omega arith
zeros_bytes (suc n) f p (suc i) = zeros_bytes n f p i

-- so a shorter text has another number
shorter : (f g : List ℕ) (n : ℕ) → suc n + length f ≡ length g → Bytes f → Bytes g → 0 < get_or g 0 0 → packed f ≡ packed g → ⊥
shorter f g n l p q some e =
    let size : length (replicate (suc n) 0 ++ f) ≡ length g = length-append (replicate (suc n) 0) f ∙ ap (λ (k : ℕ). k + length f) (length-replicate (suc n) 0) ∙ l in
    let same = (as_long (replicate (suc n) 0 ++ f) g 0 0 size (zeros_bytes (suc n) f p) q (zeros_packed (suc n) f ∙ e)).1 in
    omega (arith, some, ap (λ (s : List ℕ). get_or s 0 0) same)

pub packed_same : (f g : List ℕ) → Printable f → Printable g → packed f ≡ packed g → f ≡ g
packed_same f g p q e = go (dec_lt (length f) (length g)) (dec_lt (length g) (length f))
  where
    go : Dec (length f < length g) → Dec (length g < length f) → f ≡ g
    go (yes h) second = absurd (shorter f g (length g - length f - 1) (omega arith) (bytes_of f p) (bytes_of g q) (omega (arith, (q 0 (omega arith)).0)) e)
    go (no l) (yes h) = absurd (shorter g f (length f - length g - 1) (omega arith) (bytes_of g q) (bytes_of f p) (omega (arith, (p 0 (omega arith)).0)) (sym e))
    go (no l) (no h) = (as_long f g 0 0 (omega (arith, l, h)) (bytes_of f p) (bytes_of g q) e).1

pub packed_is : (f g : List ℕ) → Printable f → Printable g → eqb (packed f) (packed g) ≡ same_bytes f g
packed_is f g p q = go (eqb (packed f) (packed g)) (same_bytes f g) refl refl
  where
    go : (a b : Bool) → eqb (packed f) (packed g) ≡ a → same_bytes f g ≡ b → a ≡ b
    go true true x y = refl
    go false false x y = refl
    go true false x y = sym (is_same g) ∙ ap (λ (s : List ℕ). same_bytes s g) (sym (packed_same f g p q (eqb-true _ _ x))) ∙ y
    go false true x y = sym x ∙ eq-eqb (packed f) (packed g) (ap (λ (s : List ℕ). packed s) (same_is f g y))
