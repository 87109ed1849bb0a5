-- Laws of the words: what stands where after an entry is written, and the list of entries that the words are.
--     written_here, written_elsewhere       an entry that is written is read back; the others are as they were
--     length_entries, entry_of_lem, take_entries    how many entries the words are, which they are, and the first of them
--     set_entries                           with an entry written, they are the same list with that entry in it
-- Assumes nothing.
use mathlib.Core.Path.{◌≡◌, refl, sym, ◌∙◌, ap, subst}
use mathlib.Core.Logic.{◌≢◌}
use mathlib.Core.List.{List, [], ◌∷◌}
use Prim.Native.Nat.{ℕ, zero, suc, ◌+◌, ◌*◌, ◌≤◌, ◌<◌}
use native.Mathlib.Nat.{add-zero, zero-add, add-suc, suc-add, le_of_suc-le-suc, not-suc-le-zero}
use native.Mathlib.Omega.{arith}
use native.Mathlib.Decide.{ℕ_discrete}
use lib.IntN.{ℤ, pos}
use lib.ListN.{length, get_or, set, take, length-set}
use lib.Seq.{get_or-set_same, get_or-set_other, get_or-take, length-take-le, ext_get_or}
use Rattle.entries.specs.declared.Entry.{Entry}
use Rattle.entries.specs.Entries.{blank, entry_of}
use Rattle.runs.specs.InsideWords.{RoomFor, entry_at, writes, words_at, amounts_at, entries_from, entries_of}
use Rattle.runs.proofs.Room.{room_fewer}

-- ---- a list after some stores
module _ {X : Type 0} where
  -- the stores are at rising places, from low to below high
  abbrev Rising : ℕ → ℕ → List (ℕ × X) → Type 0
  Rising low high [] = low ≤ high
  Rising low high (w ∷ ws) = (low ≤ w.0) × Rising (suc w.0) high ws

  low_high : (low high : ℕ) (ws : List (ℕ × X)) → Rising low high ws → low ≤ high
  low_high low high [] r = r
  low_high low high (w ∷ ws) r = omega (arith, r.0, low_high (suc w.0) high ws r.1)

  -- a place that they leave out, and the place of the store number k
  missed : (l : List X) (low high : ℕ) (ws : List (ℕ × X)) (d : X) (j : ℕ) → Rising low high ws → (low ≤ j → high ≤ j) → get_or (writes l ws) j d ≡ get_or l j d
  missed l low high [] d j r out = refl
  missed l low high (w ∷ ws) d j r out =
      let bound = low_high (suc w.0) high ws r.1 in
      missed (set l w.0 w.1) (suc w.0) high ws d j r.1 (λ h. out (omega (arith, r.0)))
      ∙ get_or-set_other l w.0 j w.1 d (λ same. let far = out (omega (arith, r.0, same)) in omega (arith, same))

  stored : (l : List X) (low high : ℕ) (ws : List (ℕ × X)) (d : X) (k : ℕ) (none : ℕ × X) → Rising low high ws → high ≤ length l → k < length ws
      → get_or (writes l ws) (get_or ws k none).0 d ≡ (get_or ws k none).1
  stored l low high [] d k none r fits h = absurd (not-suc-le-zero h)
  stored l low high (w ∷ ws) d zero none r fits h =
      missed (set l w.0 w.1) (suc w.0) high ws d w.0 r.1 (λ above. absurd (omega arith))
      ∙ get_or-set_same l w.0 w.1 d (omega (arith, low_high (suc w.0) high ws r.1))
  stored l low high (w ∷ ws) d (suc k) none r fits h =
      stored (set l w.0 w.1) (suc w.0) high ws d k none r.1 (subst (λ (n : ℕ). high ≤ n) (sym (length-set l w.0 w.1)) fits) (le_of_suc-le-suc h)

-- ---- an entry that is written
module _ (words : List ℕ) (amounts : List ℤ) (i : ℕ) (e : Entry) where
  words_rise : Rising (i * 9) (i * 9 + 9) (words_at i e)
  words_rise = omega arith

  amounts_rise : Rising (i * 2) (i * 2 + 2) (amounts_at i e)
  amounts_rise = omega arith

  module _ (room : RoomFor (i + 1) words amounts) where
    word : (k : ℕ) → k < 9 → get_or (writes words (words_at i e)) (get_or (words_at i e) k (0, 0)).0 0 ≡ (get_or (words_at i e) k (0, 0)).1
    word k h = stored words (i * 9) (i * 9 + 9) (words_at i e) 0 k (0, 0) words_rise (omega arith) h

    amount : (k : ℕ) → k < 2 → get_or (writes amounts (amounts_at i e)) (get_or (amounts_at i e) k (0, pos 0)).0 (pos 0) ≡ (get_or (amounts_at i e) k (0, pos 0)).1
    amount k h = stored amounts (i * 2) (i * 2 + 2) (amounts_at i e) (pos 0) k (0, pos 0) amounts_rise (omega arith) h

    pub written_here : entry_at (writes words (words_at i e)) (writes amounts (amounts_at i e)) i ≡ e
    written_here = λ t.
        record {
          sender = word 0 (omega arith) t;
          commodity = word 1 (omega arith) t;
          kind = word 2 (omega arith) t;
          id = word 3 (omega arith) t;
          site = word 4 (omega arith) t;
          start = word 5 (omega arith) t;
          end = word 6 (omega arith) t;
          charge = amount 0 (omega arith) t;
          usage = amount 1 (omega arith) t;
          state = word 7 (omega arith) t;
          cancels = word 8 (omega arith) t;
        }

  module _ (j : ℕ) (other : j ≢ i) where
    word_kept : (m : ℕ) → j * 9 ≤ m → m < j * 9 + 9 → get_or (writes words (words_at i e)) m 0 ≡ get_or words m 0
    word_kept m low high = missed words (i * 9) (i * 9 + 9) (words_at i e) 0 m words_rise (λ h. omega (arith, other))

    amount_kept : (m : ℕ) → j * 2 ≤ m → m < j * 2 + 2 → get_or (writes amounts (amounts_at i e)) m (pos 0) ≡ get_or amounts m (pos 0)
    amount_kept m low high = missed amounts (i * 2) (i * 2 + 2) (amounts_at i e) (pos 0) m amounts_rise (λ h. omega (arith, other))

    pub written_elsewhere : entry_at (writes words (words_at i e)) (writes amounts (amounts_at i e)) j ≡ entry_at words amounts j
    written_elsewhere = λ t.
        record {
          sender = word_kept (j * 9) (omega arith) (omega arith) t;
          commodity = word_kept (j * 9 + 1) (omega arith) (omega arith) t;
          kind = word_kept (j * 9 + 2) (omega arith) (omega arith) t;
          id = word_kept (j * 9 + 3) (omega arith) (omega arith) t;
          site = word_kept (j * 9 + 4) (omega arith) (omega arith) t;
          start = word_kept (j * 9 + 5) (omega arith) (omega arith) t;
          end = word_kept (j * 9 + 6) (omega arith) (omega arith) t;
          charge = amount_kept (j * 2) (omega arith) (omega arith) t;
          usage = amount_kept (j * 2 + 1) (omega arith) (omega arith) t;
          state = word_kept (j * 9 + 7) (omega arith) (omega arith) t;
          cancels = word_kept (j * 9 + 8) (omega arith) (omega arith) t;
        }

-- ---- the list of entries that the words are
module _ (words : List ℕ) (amounts : List ℤ) where
  length_from : (n i : ℕ) → length (entries_from words amounts i n) ≡ n
  unfolding entries_from
  length_from zero i = refl
  length_from (suc n) i = ap suc (length_from n (suc i))

  entry_from_lem : (n i k : ℕ) → k < n → entry_of (entries_from words amounts i n) k ≡ entry_at words amounts (i + k)
  unfolding entries_from
  entry_from_lem zero i k h = absurd (not-suc-le-zero h)
  entry_from_lem (suc n) i zero h = ap (entry_at words amounts) (sym (add-zero i))
  entry_from_lem (suc n) i (suc k) h = entry_from_lem n (suc i) k (le_of_suc-le-suc h) ∙ ap (entry_at words amounts) (suc-add i k ∙ sym (add-suc i k))

  pub length_entries : (n : ℕ) → length (entries_of words amounts n) ≡ n
  length_entries n = length_from n 0

  pub entry_of_lem : (n i : ℕ) → i < n → entry_of (entries_of words amounts n) i ≡ entry_at words amounts i
  entry_of_lem n i h = entry_from_lem n 0 i h ∙ ap (entry_at words amounts) (zero-add i)

  -- a list is these entries where it has as many, and the same ones
  pub entries_are : (n : ℕ) (es : List Entry) → length es ≡ n → ((i : ℕ) → i < n → entry_of es i ≡ entry_at words amounts i) → entries_of words amounts n ≡ es
  entries_are n es long same =
      ext_get_or blank (entries_of words amounts n) es (length_entries n ∙ sym long)
      (λ i h. let l : i < n = subst (λ (m : ℕ). i < m) (length_entries n) h in entry_of_lem n i l ∙ sym (same i l))

  pub take_entries : (m n : ℕ) → m ≤ n → take m (entries_of words amounts n) ≡ entries_of words amounts m
  take_entries m n h =
      sym (entries_are m (take m (entries_of words amounts n)) (length-take-le m (entries_of words amounts n) (subst (λ (k : ℕ). m ≤ k) (sym (length_entries n)) h))
      (λ i l. get_or-take m (entries_of words amounts n) i blank l ∙ entry_of_lem n i (omega arith)))

-- ---- an entry that is written, in that list
module _ (words : List ℕ) (amounts : List ℤ) (n i : ℕ) (e : Entry) (room : RoomFor n words amounts) (h : i < n) where
  each : (j : ℕ) → j < n → entry_of (set (entries_of words amounts n) i e) j ≡ entry_at (writes words (words_at i e)) (writes amounts (amounts_at i e)) j
  each j l = go (ℕ_discrete j i)
    where
      go : Dec (j ≡ i) → entry_of (set (entries_of words amounts n) i e) j ≡ entry_at (writes words (words_at i e)) (writes amounts (amounts_at i e)) j
      go (yes here) =
          subst (λ (k : ℕ). entry_of (set (entries_of words amounts n) i e) k ≡ entry_at (writes words (words_at i e)) (writes amounts (amounts_at i e)) k) (sym here)
          (get_or-set_same (entries_of words amounts n) i e blank (omega (arith, length_entries words amounts n)) ∙ sym (written_here words amounts i e (room_fewer (omega arith) room)))
      go (no other) = get_or-set_other (entries_of words amounts n) i j e blank other ∙ entry_of_lem words amounts n j l ∙ sym (written_elsewhere words amounts i e j other)

  pub set_entries : entries_of (writes words (words_at i e)) (writes amounts (amounts_at i e)) n ≡ set (entries_of words amounts n) i e
  set_entries =
      entries_are (writes words (words_at i e)) (writes amounts (amounts_at i e)) n (set (entries_of words amounts n) i e)
      (length-set (entries_of words amounts n) i e ∙ length_entries words amounts n) each
