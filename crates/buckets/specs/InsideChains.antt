-- Places in buckets by a value that each place has. A bucket's places hang in a chain, the latest first: all of them are there, those of equal values too.
-- A place stands as itself and one; 0 says none.
-- Assumes nothing.
use Rattle.std.specs.Prelude.{◌≡◌, Option, None, Some, Bool, true, false, List, ℕ, ◌+◌, ◌-◌, ◌≤◌, ◌<◌, length, get_or}
use Rattle.buckets.specs.InsideBuckets.{bucket_of}

-- how a column holds a place that may be none
abbrev pub link_of : Option ℕ → ℕ
link_of None = 0
link_of (Some p) = p + 1

module _ (size : ℕ) (value : ℕ → ℕ) where
  abbrev pub bucket_at : ℕ → ℕ
  bucket_at p = bucket_of size (value p)

  -- k holds the latest of the first m places that is in the bucket b
  pub record Latest (b m k : ℕ) : Type 0 where
    pub within : k ≤ m
    pub same : 0 < k → bucket_at (k - 1) ≡ b
    pub after : (p : ℕ) → p < m → bucket_at p ≡ b → p < k

  -- of the first m places, each bucket's latest
  abbrev pub Headed : ℕ → List ℕ → Type 0
  Headed m heads = (b : ℕ) → Latest b m (get_or heads b 0)

  -- of each of the first m places, the latest before it that is in its bucket
  abbrev pub Linked : ℕ → List ℕ → Type 0
  Linked m links = (q : ℕ) → q < m → Latest (bucket_at q) q (get_or links q 0)

-- room for the chains of at most 65,535 places
pub record ChainRoom (places : ℕ) (heads links : List ℕ) : Type 0 where
  pub some : 0 < length heads
  pub bounded : length heads ≤ 65536
  pub linkable : places ≤ length links
  pub few : places ≤ 65535

-- the first n places are in their buckets
pub record Chained (value : ℕ → ℕ) (n : ℕ) (heads links : List ℕ) : Type 0 where
  pub room : ChainRoom n heads links
  pub headed : Headed (length heads) value n heads
  pub linked : Linked (length heads) value n links

-- what the place m, which has the value x, makes of the chains of those before it
pub record Pushed (x m : ℕ) (heads links heads' links' : List ℕ) : Type 0 where
  pub heads_length : length heads' ≡ length heads
  pub links_length : length links' ≡ length links
  pub chains : (value : ℕ → ℕ) → value m ≡ x → Chained value m heads links → Chained value (m + 1) heads' links'

-- f holds of no other of the first n places than those that have the value x
abbrev pub Only : (ℕ → Bool) → (ℕ → ℕ) → ℕ → ℕ → Type 0
Only f value n x = (p : ℕ) → p < n → f p ≡ true → value p ≡ x

-- a walk along the chain of x has come to `at`; `best` is the first place from there on at which f holds, or n
pub record Walked (f : ℕ → Bool) (size : ℕ) (value : ℕ → ℕ) (n x at best : ℕ) : Type 0 where
  pub within : at ≤ n
  pub same : 0 < at → bucket_at size value (at - 1) ≡ bucket_of size x
  pub low : at ≤ best
  pub high : best ≤ n
  pub holds : best < n → f best ≡ true
  pub none : (p : ℕ) → at ≤ p → p < best → f p ≡ false
