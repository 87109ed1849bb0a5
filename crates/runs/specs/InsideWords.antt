-- How entries stood in two runs of numbers: nine words and two amounts an entry.
-- Assumes nothing.
use Rattle.std.specs.Prelude.{ℕ, zero, suc, ◌+◌, ◌*◌, ◌≤◌, List, [], ◌∷◌, ℤ, pos, length, get_or, set}
use Rattle.entries.specs.declared.Entry.{Entry}

-- how many words and amounts n entries take
abbrev pub words_for : ℕ → ℕ
words_for n = n * 9

abbrev pub amounts_for : ℕ → ℕ
amounts_for n = n * 2

-- room for n entries
pub record RoomFor (n : ℕ) (words : List ℕ) (amounts : List ℤ) : Type 0 where
  pub in_words : words_for n ≤ length words
  pub in_amounts : amounts_for n ≤ length amounts

abbrev pub entry_at : List ℕ → List ℤ → ℕ → Entry
entry_at words amounts i =
    record {
      sender = get_or words (i * 9) 0;
      commodity = get_or words (i * 9 + 1) 0;
      kind = get_or words (i * 9 + 2) 0;
      id = get_or words (i * 9 + 3) 0;
      site = get_or words (i * 9 + 4) 0;
      start = get_or words (i * 9 + 5) 0;
      end = get_or words (i * 9 + 6) 0;
      charge = get_or amounts (i * 2) (pos 0);
      usage = get_or amounts (i * 2 + 1) (pos 0);
      state = get_or words (i * 9 + 7) 0;
      cancels = get_or words (i * 9 + 8) 0;
    }

-- a list after some stores, in their order
abbrev pub writes : {X : Type 0} → List X → List (ℕ × X) → List X
writes l [] = l
writes l (w ∷ ws) = writes (set l w.0 w.1) ws

-- the stores that write an entry at a place
abbrev pub words_at : ℕ → Entry → List (ℕ × ℕ)
words_at i e =
    (i * 9, e.sender)
    ∷ (i * 9 + 1, e.commodity)
    ∷ (i * 9 + 2, e.kind)
    ∷ (i * 9 + 3, e.id)
    ∷ (i * 9 + 4, e.site)
    ∷ (i * 9 + 5, e.start)
    ∷ (i * 9 + 6, e.end)
    ∷ (i * 9 + 7, e.state)
    ∷ (i * 9 + 8, e.cancels)
    ∷ []

abbrev pub amounts_at : ℕ → Entry → List (ℕ × ℤ)
amounts_at i e = (i * 2, e.charge) ∷ (i * 2 + 1, e.usage) ∷ []

-- n entries, from entry i on
unfoldable pub entries_from : List ℕ → List ℤ → ℕ → ℕ → List Entry
entries_from words amounts i zero = []
entries_from words amounts i (suc n) = entry_at words amounts i ∷ entries_from words amounts (suc i) n

-- the first n entries
abbrev pub entries_of : List ℕ → List ℤ → ℕ → List Entry
entries_of words amounts n = entries_from words amounts 0 n
