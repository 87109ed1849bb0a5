-- A ledger that is sound but for its pairs stays so when a cancel turns one of its entries into state 3, and when an entry is appended.
-- Assumes nothing.
use mathlib.Core.Path.{◌≡◌, refl, sym, ◌∙◌, subst}
use mathlib.Core.List.{List, [], ◌∷◌, ◌++◌}
use Prim.Native.Nat.{ℕ, ◌≤◌, ◌<◌}
use native.Mathlib.Omega.{arith}
use native.Mathlib.Decide.{dec_lt}
use lib.ListN.{length, set, length-set, get_or-append}
use Rattle.entries.specs.declared.Entry.{Entry}
use Rattle.entries.specs.Entries.{blank, entry_of, in_state}
use Rattle.soundness.specs.Meaning.{EntryFits}
use Rattle.booking.specs.InsideKept.{LiveOn, EntriesSound}
use Rattle.booking.proofs.KeptPlaces.{longer_each, changed_each}

-- the sentences of `EntriesSound` but for those of cancels and cancelled entries
pub record Separate (es : List Entry) : Type 0 where
  pub fits : (i : ℕ) → i < length es → EntryFits (entry_of es i)
  pub keys : (i j : ℕ) → i < j → j < length es → (entry_of es i).sender ≡ (entry_of es j).sender → (entry_of es i).id ≡ (entry_of es j).id → ⊥
  pub apart : (i j site day : ℕ) → i < j → j < length es → LiveOn (entry_of es i) site day → LiveOn (entry_of es j) site day → ⊥

pub separate : (es : List Entry) → EntriesSound es → Separate es
separate es s = record { fits = s.fits; keys = s.keys; apart = s.apart }

-- one place has a sender and a Record ID
pub one_place : (es : List Entry) → Separate es → (i j : ℕ) → i < length es → j < length es
    → (entry_of es i).sender ≡ (entry_of es j).sender → (entry_of es i).id ≡ (entry_of es j).id → i ≡ j
one_place es s i j h k a b = go (dec_lt i j) (dec_lt j i)
  where
    go : Dec (i < j) → Dec (j < i) → i ≡ j
    go (yes q) r = absurd (s.keys i j q k a b)
    go (no q) (yes r) = absurd (s.keys j i r h (sym a) (sym b))
    go (no q) (no r) = omega arith

-- an entry is new to a ledger: it fits, nothing has its sender and Record ID, and no live period shares a day with it if it is one of its site
pub record New (es : List Entry) (x : Entry) : Type 0 where
  pub fits : EntryFits x
  pub unlike : (i : ℕ) → i < length es → (entry_of es i).sender ≡ x.sender → (entry_of es i).id ≡ x.id → ⊥
  pub clear : (i site day : ℕ) → i < length es → LiveOn (entry_of es i) site day → LiveOn x site day → ⊥

-- ---- an entry is appended
module _ (l : List Entry) (x : Entry) (s : Separate l) (n : New l x) where
  -- what is said of an entry before the new one
  before : (P : Entry → Type 0) (i : ℕ) → i < length l → P (entry_of (l ++ x ∷ []) i) → P (entry_of l i)
  before P i h = subst P (get_or-append l (x ∷ []) blank i h)

  appended_keys : (j : ℕ) → j < length (l ++ x ∷ [])
      → (i : ℕ) → i < j → (entry_of (l ++ x ∷ []) i).sender ≡ (entry_of (l ++ x ∷ []) j).sender → (entry_of (l ++ x ∷ []) i).id ≡ (entry_of (l ++ x ∷ []) j).id → ⊥
  appended_keys =
      longer_each blank (λ j e. (i : ℕ) → i < j → (entry_of (l ++ x ∷ []) i).sender ≡ e.sender → (entry_of (l ++ x ∷ []) i).id ≡ e.id → ⊥) l x
      (λ j h i k a b. s.keys i j k h (before (λ e. e.sender ≡ (entry_of l j).sender) i (omega arith) a) (before (λ e. e.id ≡ (entry_of l j).id) i (omega arith) b))
      (λ i k a b. n.unlike i k (before (λ e. e.sender ≡ x.sender) i k a) (before (λ e. e.id ≡ x.id) i k b))

  appended_apart : (site day j : ℕ) → j < length (l ++ x ∷ [])
      → (i : ℕ) → i < j → LiveOn (entry_of (l ++ x ∷ []) i) site day → LiveOn (entry_of (l ++ x ∷ []) j) site day → ⊥
  appended_apart site day =
      longer_each blank (λ j e. (i : ℕ) → i < j → LiveOn (entry_of (l ++ x ∷ []) i) site day → LiveOn e site day → ⊥) l x
      (λ j h i k a b. s.apart i j site day k h (before (λ e. LiveOn e site day) i (omega arith) a) b)
      (λ i k a b. n.clear i site day k (before (λ e. LiveOn e site day) i k a) b)

  pub separate_appended : Separate (l ++ x ∷ [])
  separate_appended =
      record {
        fits = longer_each blank (λ i e. EntryFits e) l x s.fits n.fits;
        keys = λ i j k h. appended_keys j h i k;
        apart = λ i j site day k h. appended_apart site day j h i k;
      }

-- ---- a live or held entry is cancelled
cancelled_fits : (e : Entry) → 1 ≤ e.state → e.state ≤ 2 → EntryFits e → EntryFits (in_state e 3)
cancelled_fits e low high f =
    record {
      sender = f.sender;
      site = f.site;
      id = f.id;
      cancels = f.cancels;
      charge = f.charge;
      usage = f.usage;
      commodity = f.commodity;
      kind = f.kind;
      state = omega arith;
      start = f.start;
      end = f.end;
      file_state = (λ z. absurd (omega arith), λ k. absurd (omega (arith, f.file_state.1 k)));
      in_order = f.in_order;
      only_periods = f.only_periods;
      file_site = f.file_site;
      only_cancels = λ _. f.only_cancels (λ k. omega arith);
    }

module _ (l : List Entry) (p : ℕ) (inside : p < length l) (low : 1 ≤ (entry_of l p).state) (high : (entry_of l p).state ≤ 2) where
  abbrev pub after_cancelling : List Entry
  after_cancelling = set l p (in_state (entry_of l p) 3)

  -- what holds of each entry after the cancelling
  cancelled_each : (P : ℕ → Entry → Type 0) → ((i : ℕ) → i < length l → (i ≡ p → ⊥) → P i (entry_of l i)) → P p (in_state (entry_of l p) 3)
      → (i : ℕ) → i < length after_cancelling → P i (entry_of after_cancelling i)
  cancelled_each P = changed_each blank P l p (in_state (entry_of l p) 3) inside

  key_kept : (i : ℕ) → i < length after_cancelling → ((entry_of after_cancelling i).sender ≡ (entry_of l i).sender) × ((entry_of after_cancelling i).id ≡ (entry_of l i).id)
  key_kept = cancelled_each (λ i e. (e.sender ≡ (entry_of l i).sender) × (e.id ≡ (entry_of l i).id)) (λ i h n. (refl, refl)) (refl, refl)

  live_before : (site day i : ℕ) → i < length after_cancelling → LiveOn (entry_of after_cancelling i) site day → LiveOn (entry_of l i) site day
  live_before site day = cancelled_each (λ i e. LiveOn e site day → LiveOn (entry_of l i) site day) (λ i h n k. k) (λ k. absurd (omega (arith, k.live)))

  pub separate_cancelled : Separate l → Separate after_cancelling
  separate_cancelled s =
      record {
        fits = cancelled_each (λ i e. EntryFits e) (λ i h n. s.fits i h) (cancelled_fits (entry_of l p) low high (s.fits p inside));
        keys = λ i j k h a b.
            let (si, di) = key_kept i (omega arith) in
            let (sj, dj) = key_kept j h in
            s.keys i j k (subst (λ (n : ℕ). j < n) (length-set l p (in_state (entry_of l p) 3)) h) (sym si ∙ a ∙ sj) (sym di ∙ b ∙ dj);
        apart = λ i j site day k h a b.
            s.apart i j site day k (subst (λ (n : ℕ). j < n) (length-set l p (in_state (entry_of l p) 3)) h) (live_before site day i (omega arith) a) (live_before site day j h b);
      }
