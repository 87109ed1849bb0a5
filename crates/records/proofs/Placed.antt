-- Places that are stored one after the other.
-- Assumes nothing.
use mathlib.Core.Path.{◌≡◌, refl, sym, ◌∙◌, ap, ap₂, subst}
use mathlib.Core.List.{List, [], ◌∷◌, ◌++◌, append_assoc, append-nil}
use mathlib.Core.Bool.{Bool, true, false, ◌&&◌}
use Prim.Native.Nat.{ℕ, zero, suc, ◌+◌, ◌≤◌, ◌<◌, zero-le}
use native.Mathlib.Nat.{le_of_suc-le-suc, add-zero}
use native.Mathlib.Numerals.{add-one}
use native.Mathlib.Omega.{arith}
use borrow.Author.Tests.{le-leb}
use lib.Dec.{T, leb, leb→le}
use lib.ListN.{length, get_or, take, set, length-append, length-set}
use lib.Seq.{take-suc-set, length-take-le, get_or-take}
use Rattle.lists.proofs.Table.{and_left, and_right}
use Rattle.records.specs.InsidePlacedLines.{part, parts, within, Placed, At}

parts_snoc : (s bs es : List ℕ) (a e : ℕ) → length bs ≡ length es → parts s (bs ++ (a ∷ [])) (es ++ (e ∷ [])) ≡ parts s bs es ++ (part s a e ∷ [])
parts_snoc s [] [] a e h = refl
parts_snoc s [] (y ∷ es) a e h = absurd (omega arith)
parts_snoc s (x ∷ bs) [] a e h = absurd (omega arith)
parts_snoc s (x ∷ bs) (y ∷ es) a e h = ap (λ (r : List (List ℕ)). part s x y ∷ r) (parts_snoc s bs es a e (omega arith))

within_snoc : (n : ℕ) (bs es : List ℕ) (a e : ℕ) → length bs ≡ length es → a ≤ e → e ≤ n → T (within n bs es) → T (within n (bs ++ (a ∷ [])) (es ++ (e ∷ [])))
within_snoc n [] [] a e h p q t = rw (le-leb a e p, le-leb e n q) tt
within_snoc n [] (y ∷ es) a e h p q t = absurd (omega arith)
within_snoc n (x ∷ bs) [] a e h p q t = absurd t
within_snoc n (x ∷ bs) (y ∷ es) a e h p q t = go (λ u. within_snoc n bs es a e (omega arith) p q u) (leb x y && leb y n) t
  where
    go : (T (within n bs es) → T (within n (bs ++ (a ∷ [])) (es ++ (e ∷ [])))) → (b : Bool) → T (b && within n bs es) → T (b && within n (bs ++ (a ∷ [])) (es ++ (e ∷ [])))
    go rest true t = rest t
    go rest false t = t

parts_length : (s bs es : List ℕ) → length bs ≡ length es → length (parts s bs es) ≡ length bs
parts_length s [] es h = refl
parts_length s (x ∷ bs) [] h = absurd (omega arith)
parts_length s (x ∷ bs) (y ∷ es) h = ap suc (parts_length s bs es (omega arith))

-- n parts of s have their places, and the parts `rest` are left of `all`
pub record Going (s : List ℕ) (n : ℕ) (bs es : List ℕ) (all rest : List (List ℕ)) : Type 0 where
  pub starts : n ≤ length bs
  pub ends : n ≤ length es
  pub same : parts s (take n bs) (take n es) ++ rest ≡ all
  pub inside : T (within (length s) (take n bs) (take n es))

pub going_none : (s bs es : List ℕ) (all : List (List ℕ)) → Going s 0 bs es all all
going_none s bs es all = record { starts = zero-le; ends = zero-le; same = refl; inside = tt }

module _ {s : List ℕ} {n : ℕ} {bs es : List ℕ} {all rest : List (List ℕ)} (g : Going s n bs es all rest) where
  level : length (take n bs) ≡ length (take n es)
  level = length-take-le n bs g.starts ∙ sym (length-take-le n es g.ends)

  -- as many as there are, and those that are left
  pub going_count : n + length rest ≡ length all
  going_count =
      ap (λ (k : ℕ). k + length rest) (sym (parts_length s (take n bs) (take n es) level ∙ length-take-le n bs g.starts))
      ∙ sym (length-append (parts s (take n bs) (take n es)) rest)
      ∙ ap length g.same

  -- one more, at a to e
  pub going_more : (a e : ℕ) (rest' : List (List ℕ)) → n < length bs → n < length es → a ≤ e → e ≤ length s → rest ≡ part s a e ∷ rest'
      → Going s (n + 1) (set bs n a) (set es n e) all rest'
  going_more a e rest' hb he p q r =
      record {
        starts = rw (length-set, add-one) hb;
        ends = rw (length-set, add-one) he;
        same =
            rw (add-one, take-suc-set bs n a hb, take-suc-set es n e he, parts_snoc s (take n bs) (take n es) a e level, append_assoc) (ap (λ (t : List (List ℕ)). parts s (take n bs) (take n es) ++ t) (sym r) ∙ g.same);
        inside = rw (add-one, take-suc-set bs n a hb, take-suc-set es n e he) (within_snoc (length s) (take n bs) (take n es) a e level p q g.inside);
      }

-- nothing is left
pub going_end : {s : List ℕ} {n : ℕ} {bs es : List ℕ} {all : List (List ℕ)} → Going s n bs es all [] → Placed s n bs es all
going_end {s} {n} {bs} {es} {all} g =
    record { starts = g.starts; ends = g.ends; count = sym (add-zero n) ∙ going_count g; same = sym (append-nil (parts s (take n bs) (take n es))) ∙ g.same; inside = g.inside }

-- the part that stands at the k-th place
parts_at : (s bs es : List ℕ) (k : ℕ) → k < length bs → length bs ≡ length es → T (within (length s) bs es)
    → At s (get_or bs k 0) (get_or es k 0) (get_or (parts s bs es) k [])
parts_at s [] es k h l t = absurd (omega arith)
parts_at s (x ∷ bs) [] k h l t = absurd (omega arith)
parts_at s (x ∷ bs) (y ∷ es) zero h l t =
    record { low = leb→le x y (and_left (leb x y) (leb y (length s)) both); high = leb→le y (length s) (and_right (leb x y) (leb y (length s)) both); same = refl }
  where
    both : T (leb x y && leb y (length s))
    both = and_left (leb x y && leb y (length s)) (within (length s) bs es) t
parts_at s (x ∷ bs) (y ∷ es) (suc k) h l t =
    parts_at s bs es k (le_of_suc-le-suc h) (omega arith) (and_right (leb x y && leb y (length s)) (within (length s) bs es) t)

pub placed_at : {s : List ℕ} {n : ℕ} {bs es : List ℕ} {ls : List (List ℕ)} → Placed s n bs es ls
    → (k : ℕ) → k < n → At s (get_or bs k 0) (get_or es k 0) (get_or ls k [])
placed_at {s} {n} {bs} {es} {ls} p k h =
    subst (λ (l : List (List ℕ)). At s (get_or bs k 0) (get_or es k 0) (get_or l k [])) p.same
    (rw (get_or-take n bs k 0 h, get_or-take n es k 0 h) at
    (parts_at s (take n bs) (take n es) k (rw (length-take-le n bs p.starts) h) (length-take-le n bs p.starts ∙ sym (length-take-le n es p.ends)) p.inside))

-- places are those of some parts where each is that of its part
parts_all : (s bs es : List ℕ) (ls : List (List ℕ)) (n : ℕ) → n ≤ length bs → n ≤ length es → n ≡ length ls → ((k : ℕ) → k < n → At s (get_or bs k 0) (get_or es k 0) (get_or ls k []))
    → (parts s (take n bs) (take n es) ≡ ls) × T (within (length s) (take n bs) (take n es))
parts_all s bs es [] zero hb he q at = (refl, tt)
parts_all s bs es (l ∷ ls) zero hb he q at = absurd (omega (arith, q))
parts_all s bs es [] (suc n) hb he q at = absurd (omega (arith, q))
parts_all s [] es (l ∷ ls) (suc n) hb he q at = absurd (omega arith)
parts_all s (a ∷ bs) [] (l ∷ ls) (suc n) hb he q at = absurd (omega arith)
parts_all s (a ∷ bs) (e ∷ es) (l ∷ ls) (suc n) hb he q at =
    let first = at 0 (omega arith) in
    let rest = parts_all s bs es ls n (le_of_suc-le-suc hb) (le_of_suc-le-suc he) (omega (arith, q)) (λ k h. at (suc k) (omega (arith, h))) in
    (ap₂ (λ (x : List ℕ) (r : List (List ℕ)). x ∷ r) first.same rest.0, rw (le-leb a e first.low, le-leb e (length s) first.high) rest.1)

pub all_placed : {s : List ℕ} {n : ℕ} {bs es : List ℕ} {ls : List (List ℕ)} → n ≤ length bs → n ≤ length es → n ≡ length ls
    → ((k : ℕ) → k < n → At s (get_or bs k 0) (get_or es k 0) (get_or ls k [])) → Placed s n bs es ls
all_placed {s} {n} {bs} {es} {ls} hb he q at =
    let all = parts_all s bs es ls n hb he q at in
    record { starts = hb; ends = he; count = q; same = all.0; inside = all.1 }
