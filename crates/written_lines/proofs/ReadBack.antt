-- A line that was written is read as its own parts, and the parts of a line that was read are written as that line. Byte 44 parts them.
--     cut_after, cut_alone    a part up to a separator, and the last part
--     digits_past             digits are past the comma
--     one_line, its_fields    a written line is one line, whose fields are its parts
--     line_fields             both at once
--     line_again              the line of the parts that a line is cut into
-- Assumes nothing.
use mathlib.Core.Path.{◌≡◌, refl, sym, ◌∙◌, ap}
use mathlib.Core.List.{List, [], ◌∷◌, ◌++◌, map, append_assoc}
use mathlib.Core.Bool.{Bool, true, false, cond, not, ◌&&◌, and_assoc}
use Prim.Native.Nat.{ℕ, zero, suc, ◌-◌, ◌≤◌, ◌<◌}
use native.Mathlib.Omega.{arith}
use borrow.Author.Tests.{eq-eqb, ne_eqb, eqb-true, not-true, leb-true, lt-ltb, ltb-true}
use lib.Dec.{eqb, leb, ltb}
use lib.ListN.{length, get_or}
use Rattle.lists.specs.InsideSelections.{all}
use Rattle.digits.specs.Digits.{is_digit, all_digits}
use Rattle.digits.proofs.Laws.{both_true}
use Rattle.records.specs.Text.{onto, cut, chomp, ended, lines_of, fields_of}
use Rattle.records.proofs.Cut.{cut_some}
use Rattle.written_lines.specs.InsideBytes.{lacks, past_comma}
use Rattle.written_lines.specs.Lines.{line_of}

-- ---- bytes that a part lacks
lacks_append : (b : ℕ) (xs ys : List ℕ) → lacks b (xs ++ ys) ≡ lacks b xs && lacks b ys
unfolding lacks
lacks_append b [] ys = refl
lacks_append b (x ∷ xs) ys = rw (lacks_append b xs ys) (sym (and_assoc (not (eqb x b)) (lacks b xs) (lacks b ys)))

past_lacks : (b : ℕ) (xs : List ℕ) → b ≤ 44 → past_comma xs ≡ true → lacks b xs ≡ true
unfolding lacks past_comma
past_lacks b [] h p = refl
past_lacks b (x ∷ xs) h p =
    let e = both_true (ltb 44 x) (past_comma xs) p in
    rw (ne_eqb x b (λ q. omega (arith, ltb-true 44 x e.0)), past_lacks b xs h e.1)

pub digits_past : (xs : List ℕ) → all_digits xs ≡ true → past_comma xs ≡ true
unfolding past_comma all_digits
digits_past [] d = refl
digits_past (x ∷ xs) d =
    let e = both_true (is_digit x) (all_digits xs) d in
    let r = both_true (leb 48 x) (leb x 57) e.0 in
    rw (lt-ltb 44 x (omega (arith, leb-true 48 x r.0)), digits_past xs e.1)

-- ---- the parts between separators
pub cut_after : (d : ℕ) (xs ys : List ℕ) → lacks d xs ≡ true → cut d (xs ++ (d ∷ ys)) ≡ xs ∷ cut d ys
unfolding cut lacks
cut_after d [] ys h = rw (eq-eqb d d refl)
cut_after d (x ∷ xs) ys h =
    let e = both_true (not (eqb x d)) (lacks d xs) h in
    rw (not-true (eqb x d) e.0, cut_after d xs ys e.1)

pub cut_alone : (d : ℕ) (xs : List ℕ) → lacks d xs ≡ true → cut d xs ≡ xs ∷ []
unfolding cut lacks
cut_alone d [] h = refl
cut_alone d (x ∷ xs) h =
    let e = both_true (not (eqb x d)) (lacks d xs) h in
    rw (not-true (eqb x d) e.0, cut_alone d xs e.1)

-- ---- a line without its end
unfoldable pub body : List (List ℕ) → List ℕ
body [] = []
body (l ∷ []) = l
body (l ∷ m ∷ ls) = l ++ (44 ∷ body (m ∷ ls))

abbrev pub all_past : List (List ℕ) → Bool
all_past ls = all past_comma ls

line_is : (ls : List (List ℕ)) → line_of 44 ls ≡ body ls ++ (10 ∷ [])
unfolding line_of body
line_is [] = refl
line_is (l ∷ []) = refl
line_is (l ∷ m ∷ ls) = rw (line_is (m ∷ ls)) (sym (append_assoc l (44 ∷ body (m ∷ ls)) (10 ∷ [])))

body_lacks : (b : ℕ) (ls : List (List ℕ)) → b < 44 → all_past ls ≡ true → lacks b (body ls) ≡ true
unfolding body lacks
body_lacks b [] h p = refl
body_lacks b (l ∷ []) h p = past_lacks b l (omega arith) (both_true (past_comma l) true p).0
body_lacks b (l ∷ m ∷ ls) h p =
    let e = both_true (past_comma l) (all_past (m ∷ ls)) p in
    lacks_append b l (44 ∷ body (m ∷ ls))
    ∙ simp (past_lacks b l (omega arith) e.0, ne_eqb 44 b (λ q. omega arith), body_lacks b (m ∷ ls) h e.1)

body_fields : (l : List ℕ) (ls : List (List ℕ)) → all_past (l ∷ ls) ≡ true → fields_of (body (l ∷ ls)) ≡ l ∷ ls
unfolding body
body_fields l [] p = cut_alone 44 l (past_lacks 44 l (omega arith) (both_true (past_comma l) true p).0)
body_fields l (m ∷ ls) p =
    let e = both_true (past_comma l) (all_past (m ∷ ls)) p in
    cut_after 44 l (body (m ∷ ls)) (past_lacks 44 l (omega arith) e.0) ∙ ap (λ (r : List (List ℕ)). l ∷ r) (body_fields m ls e.1)

-- ---- its end
lacks_at : (b : ℕ) (xs : List ℕ) (k : ℕ) → 0 < b → lacks b xs ≡ true → get_or xs k 0 ≡ b → ⊥
unfolding lacks
lacks_at b [] k h p q = omega arith
lacks_at b (x ∷ xs) zero h p q =
    let e = both_true (not (eqb x b)) (lacks b xs) p in
    let z : true ≡ false = sym (eq-eqb x b q) ∙ not-true (eqb x b) e.0 in
    let w : ◌≡◌ {A = ℕ} 0 1 = cc in
    omega arith
lacks_at b (x ∷ xs) (suc k) h p q = lacks_at b xs k h (both_true (not (eqb x b)) (lacks b xs) p).1 q

chomp_none : (l : List ℕ) → lacks 13 l ≡ true → chomp l ≡ l
chomp_none l p = rw (ne_eqb (get_or l (length l - 1) 0) 13 (lacks_at 13 l (length l - 1) (omega arith) p))

line_lines : (l : List ℕ) → lacks 10 l ≡ true → lacks 13 l ≡ true → lines_of (l ++ (10 ∷ [])) ≡ l ∷ []
unfolding ended cut
line_lines l p q = ap ended (cut_after 10 l [] p) ∙ ap (λ (m : List ℕ). m ∷ []) (chomp_none l q)

-- ---- a written line, read
module _ (l : List ℕ) (ls : List (List ℕ)) (p : all_past (l ∷ ls) ≡ true) where
  pub one_line : lines_of (line_of 44 (l ∷ ls)) ≡ body (l ∷ ls) ∷ []
  one_line =
      ap (λ (s : List ℕ). lines_of s) (line_is (l ∷ ls))
      ∙ line_lines (body (l ∷ ls)) (body_lacks 10 (l ∷ ls) (omega arith) p) (body_lacks 13 (l ∷ ls) (omega arith) p)

  pub its_fields : fields_of (body (l ∷ ls)) ≡ l ∷ ls
  its_fields = body_fields l ls p

  pub line_fields : map fields_of (lines_of (line_of 44 (l ∷ ls))) ≡ (l ∷ ls) ∷ []
  line_fields = ap (λ (r : List (List ℕ)). map fields_of r) one_line ∙ ap (λ (r : List (List ℕ)). r ∷ []) its_fields

-- ---- a line that was read, written
-- a byte in front of the first part is the byte in front of the line
line_onto : (b : ℕ) (ls : List (List ℕ)) → 0 < length ls → line_of 44 (onto b ls) ≡ b ∷ line_of 44 ls
unfolding line_of
line_onto b [] h = absurd (omega arith)
line_onto b (l ∷ []) h = refl
line_onto b (l ∷ m ∷ ls) h = refl

-- an empty part in front is the separator in front
line_empty : (ls : List (List ℕ)) → 0 < length ls → line_of 44 ([] ∷ ls) ≡ 44 ∷ line_of 44 ls
unfolding line_of
line_empty [] h = absurd (omega arith)
line_empty (l ∷ ls) h = refl

pub line_again : (line : List ℕ) → line_of 44 (fields_of line) ≡ line ++ (10 ∷ [])
unfolding cut line_of
line_again [] = refl
line_again (b ∷ s) = go (eqb b 44) refl (line_again s)
  where
    go : (q : Bool) → eqb b 44 ≡ q → line_of 44 (cut 44 s) ≡ s ++ (10 ∷ [])
        → line_of 44 (cond q ([] ∷ cut 44 s) (onto b (cut 44 s))) ≡ b ∷ (s ++ (10 ∷ []))
    go true e rest = line_empty (cut 44 s) (cut_some 44 s) ∙ (λ i. sym (eqb-true b 44 e) i ∷ rest i)
    go false e rest = line_onto b (cut 44 s) (cut_some 44 s) ∙ ap (λ (r : List ℕ). b ∷ r) rest
