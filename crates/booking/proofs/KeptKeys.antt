-- The keys of the records that are still to be booked: none is in the ledger, and none stands twice among them.
-- Assumes nothing.
use mathlib.Core.Path.{◌≡◌, refl, sym, ap, ◌∙◌, subst}
use mathlib.Core.Bool.{Bool, true, false, not, cond}
use mathlib.Core.List.{List, [], ◌∷◌, ◌++◌, map}
use Prim.Native.Nat.{ℕ, suc, ◌+◌, ◌≤◌, ◌<◌}
use native.Mathlib.Omega.{arith}
use lib.Dec.{T}
use lib.ListN.{length}
use Rattle.lists.specs.Selections.{filter, count}
use Rattle.lists.specs.InsideSelections.{all, distinct}
use Rattle.lists.proofs.Selections.{cases, both, is_false, count_append, count_map, count_split, count_none, distinct_count}
use Rattle.bill_files.specs.Accepted.{Bill}
use Rattle.entries.specs.declared.Entry.{Entry}
use Rattle.entries.specs.Entries.{blank, entry_of}
use Rattle.booking.specs.Booking.{names_entry, cancel_named, is_stored}
use Rattle.booking.specs.InsidePasses.{Key, same_key, key_of, entry_key}
use Rattle.booking.proofs.KeptPlaces.{no_place}
use Rattle.booking.proofs.Turns.{same_key_lem, key_same}

-- how many entries have a key, and how often it stands in a list
abbrev having : Key → List Entry → ℕ
having k l = count (λ e. same_key (entry_key e) k) l

abbrev among : Key → List Key → ℕ
among k ks = count (λ m. same_key m k) ks

-- each key that stands among them stands once, and is no entry's
abbrev pub Fresh : List Entry → List Key → Type 0
Fresh l ks = (k : Key) → 1 ≤ count (λ m. same_key m k) ks → count (λ e. same_key (entry_key e) k) l + count (λ m. same_key m k) ks ≤ 1

-- ---- tests 9 and 102 say so of a file's keys
unstored_key : (l : List Entry) (ks : List Key) (k : Key) → T (all (λ m. not (is_stored l m.0 m.1)) ks) → 1 ≤ among k ks → having k l ≡ 0
unfolding is_stored
unstored_key l [] k t h = absurd (omega arith)
unstored_key l (m ∷ ks) k t h =
    let u = both (not (is_stored l m.0 m.1)) (all (λ m. not (is_stored l m.0 m.1)) ks) t in
    cases (same_key m k)
    (λ e. subst (λ (q : Key). having q l ≡ 0) (same_key_lem m k e) (count_none (λ e. same_key (entry_key e) m) l (is_false (is_stored l m.0 m.1) u.0)))
    (λ e. unstored_key l ks k u.1 (rw e at h))

pub fresh_keys : (l : List Entry) (ks : List Key) → T (distinct same_key ks) → T (all (λ m. not (is_stored l m.0 m.1)) ks) → Fresh l ks
fresh_keys l ks d u k h =
    let none = unstored_key l ks k u h in
    let once = distinct_count same_key (λ m. same_key m k) ks (λ m n a b. alike m n (same_key_lem m k a) (same_key_lem n k b)) d in
    omega arith
  where
    alike : (m n : Key) → m ≡ k → n ≡ k → same_key m n ≡ true
    alike m n a b = key_same m n (a ∙ sym b)

-- ---- nothing in the ledger has the first of them
pub fresh_unlike : (l : List Entry) (k : Key) (ks : List Key) → Fresh l (k ∷ ks) → (i : ℕ) → i < length l → (entry_of l i).sender ≡ k.0 → (entry_of l i).id ≡ k.1 → ⊥
fresh_unlike l k ks f i h a b = no_place blank (λ e. same_key (entry_key e) k) l none i h (key_same (entry_key (entry_of l i)) k (λ j. (a j, b j)))
  where
    here : among k (k ∷ ks) ≡ suc (among k ks)
    here = rw (key_same k k refl)

    none : having k l ≡ 0
    none = let g = f k (omega (arith, here)) in omega (arith, here)

-- ---- the first of them is booked
pub fresh_appended : (l : List Entry) (x : Entry) (ks : List Key) → Fresh l (entry_key x ∷ ks) → Fresh (l ++ x ∷ []) ks
fresh_appended l x ks f k h =
    let parts = count_append (λ e. same_key (entry_key e) k) l (x ∷ []) in
    let rest = go (same_key (entry_key x) k) (f k) in
    omega arith
  where
    go : (b : Bool) → (1 ≤ cond b (suc (among k ks)) (among k ks) → having k l + cond b (suc (among k ks)) (among k ks) ≤ 1)
        → having k l + cond b 1 0 + among k ks ≤ 1
    go true g = omega (arith, g (omega arith))
    go false g = omega (arith, g h)

-- ---- an entry is cancelled
having_cancelled : (c : Bill) (l : List Entry) (k : Key) → having k (cancel_named c l) ≡ having k l
having_cancelled c [] k = refl
having_cancelled c (e ∷ l) k = cases (names_entry c e)
    (λ n. rw n)
    (λ n. rw n (ap (λ (m : ℕ). cond (same_key (entry_key e) k) (suc m) m) (having_cancelled c l k)))

pub fresh_cancelled : (c : Bill) (l : List Entry) (ks : List Key) → Fresh l ks → Fresh (cancel_named c l) ks
fresh_cancelled c l ks f k h = let same = having_cancelled c l k in omega (arith, f k h)

-- ---- a file's cancels, and then its originals
pub fresh_parted : (l : List Entry) (p : Bill → Bool) (bs : List Bill) → Fresh l (map key_of bs) → Fresh l (map key_of (filter p bs) ++ map key_of (filter (λ b. not (p b)) bs))
fresh_parted l p bs f k h = let g = f k (omega (arith, parts)) in omega (arith, parts)
  where
    parts : among k (map key_of (filter p bs) ++ map key_of (filter (λ b. not (p b)) bs)) ≡ among k (map key_of bs)
    parts =
        let test : Key → Bool = λ m. same_key m k in
        let whole = count_append test (map key_of (filter p bs)) (map key_of (filter (λ b. not (p b)) bs)) in
        let one = count_map test key_of (filter p bs) in
        let two = count_map test key_of (filter (λ b. not (p b)) bs) in
        let all = count_map test key_of bs in
        let split = count_split (λ b. test (key_of b)) p bs in
        omega arith
