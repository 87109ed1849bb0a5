-- Spans gathered from the places at which a test holds, and what it says of periods of sites that their spans are apart.
--     gathering_none, gathering_more, gathering_skip    the invariant of a loop that gathers spans: at the start; one more; the same
--     gathering_kept                                    what is written past those gathered does not matter
--     gathering_same                                    what holds of lists and a count holds of those equal to them
--     count_less                                        the spans gathered stand in the order of their places
--     day_rises, filled_above                           the number of a day of a site does not fall where the day rises, and is above 0 where the day is
--     span_of                                           where the span of a place stands, and its first and its last number
--     day_within                                        the number of a day that a period has is in its span
--     days_apart                                        where no two spans gathered meet, no day of a site is in two of the periods
--     spread_tells, day_tells                           what the number of a day says: its site and the day
--     count_place, days_meet                            a span gathered is that of a place; two that meet are of periods of a site that share a day
-- Assumes nothing.
use Rattle.std.proofs.Common.{◌≡◌, ℕ, zero, suc, ◌+◌, ◌*◌, ◌/◌, ◌%◌, ◌^◌, ◌<◌, ◌≤◌, Bool, true, false, cond, List, length, get_or, set, sym, refl, ap, ◌∙◌, subst, true≢false, arith, get_or-set_other, get_or-set_same, below_none, below_more}
use native.Mathlib.Decide.{dec_lt}
use Rattle.lists.specs.Below.{count_below}
use Rattle.lists.proofs.Below.{count_none, count_more, count_kept}
use Rattle.apart.specs.InsideApart.{Within, Apart, Meeting}
use Rattle.apart.specs.InsideGathered.{spread, day_number, Gathered, Gathering}

module _ (f : ℕ → Bool) where
  -- a place at which the test holds counts for all later ones
  pub count_less : (i j : ℕ) → i < j → f i ≡ true → count_below f i < count_below f j
  unfolding count_below
  count_less i zero h e = absurd (omega arith)
  count_less i (suc j) h e = go (dec_lt i j) (λ l. count_less i j l e)
    where
      go : Dec (i < j) → (i < j → count_below f i < count_below f j) → count_below f i < count_below f j + cond (f j) 1 0
      go (yes l) less = omega (arith, less l)
      go (no l) less = let same : i ≡ j = omega (arith, l) in subst (λ (k : ℕ). count_below f i < count_below f k + cond (f k) 1 0) same (rw e (omega arith))

  -- each count below that of n is that of a place
  pub count_place : (n a : ℕ) → a < count_below f n → (i : ℕ) × (i < n) × (f i ≡ true) × (count_below f i ≡ a)
  unfolding count_below
  count_place zero a h = absurd (omega arith)
  count_place (suc n) a h = go (f n) refl (dec_lt a (count_below f n)) (count_place n a)
    where
      go : (t : Bool) → f n ≡ t → Dec (a < count_below f n) → (a < count_below f n → (i : ℕ) × (i < n) × (f i ≡ true) × (count_below f i ≡ a))
          → (i : ℕ) × (i < suc n) × (f i ≡ true) × (count_below f i ≡ a)
      go t e (yes l) before = let w = before l in (w.0, omega (arith, w.1), w.2, w.3)
      go true e (no l) before = (n, omega arith, e, omega (arith, l, h, ap {B = ℕ} (λ (b : Bool). cond b 1 0) e))
      go false e (no l) before = absurd (omega (arith, l, h, ap {B = ℕ} (λ (b : Bool). cond b 1 0) e))

  -- and places stand in the order of their counts
  count_orders : (i j : ℕ) → f j ≡ true → count_below f i < count_below f j → i < j
  count_orders i j e h = go (dec_lt i j) (dec_lt j i)
    where
      go : Dec (i < j) → Dec (j < i) → i < j
      go (yes l) m = l
      go (no l) (yes m) = absurd (omega (arith, h, count_less j i m e))
      go (no l) (no m) = let same : i ≡ j = omega (arith, l, m) in absurd (omega (arith, h, ap (count_below f) same))

  module _ (value : ℕ → ℕ) where
    gathered_skip : (list : List ℕ) (n : ℕ) → f n ≡ false → Gathered f value list n → Gathered f value list (n + 1)
    unfolding Gathered
    gathered_skip list n none before =
        below_more (λ i. f i ≡ true → get_or list (count_below f i) 0 ≡ value i) n before (λ e. absurd (true≢false (sym e ∙ none)))

    gathered_kept : (list : List ℕ) (n count v : ℕ) → count ≡ count_below f n → Gathered f value list n → Gathered f value (set list count v) n
    unfolding Gathered
    gathered_kept list n count v counted before i h e =
        let less = count_less i n h e in
        get_or-set_other list count (count_below f i) v 0 (λ same. omega (arith, less, same, counted)) ∙ before i h e

    gathered_more : (list : List ℕ) (n count v : ℕ) → count ≡ count_below f n → count < length list → v ≡ value n → Gathered f value list n
        → Gathered f value (set list count v) (n + 1)
    unfolding Gathered
    gathered_more list n count v counted room own before =
        below_more (λ i. f i ≡ true → get_or (set list count v) (count_below f i) 0 ≡ value i) n
        (gathered_kept list n count v counted before)
        (λ e. subst (λ (k : ℕ). get_or (set list count v) k 0 ≡ value n) counted (get_or-set_same list count v 0 room ∙ own))

  module _ (first last : ℕ → ℕ) where
    pub gathering_none : (firsts lasts : List ℕ) → Gathering f first last firsts lasts 0 0
    unfolding Gathered
    gathering_none firsts lasts = record { few = omega arith; counted = sym (count_none f); begun = below_none _; over = below_none _ }

    pub gathering_same : {firsts firsts' lasts lasts' : List ℕ} {n count count' : ℕ} → firsts' ≡ firsts → lasts' ≡ lasts → count' ≡ count
        → Gathering f first last firsts lasts n count → Gathering f first last firsts' lasts' n count'
    gathering_same {firsts} {firsts'} {lasts} {lasts'} {n} {count} {count'} p q r g =
        record {
          few = omega (arith, r, g.few);
          counted = r ∙ g.counted;
          begun = subst (λ (l : List ℕ). Gathered f first l n) (sym p) g.begun;
          over = subst (λ (l : List ℕ). Gathered f last l n) (sym q) g.over;
        }

    module _ (firsts lasts : List ℕ) (n count : ℕ) (before : Gathering f first last firsts lasts n count) where
      pub gathering_skip : f n ≡ false → Gathering f first last firsts lasts (n + 1) count
      gathering_skip none =
          record {
            few = omega (arith, before.few);
            counted = before.counted ∙ sym (count_kept f n none);
            begun = gathered_skip first firsts n none before.begun;
            over = gathered_skip last lasts n none before.over;
          }

      pub gathering_kept : (v w : ℕ) → Gathering f first last (set firsts count v) (set lasts count w) n count
      gathering_kept v w =
          record {
            few = before.few;
            counted = before.counted;
            begun = gathered_kept first firsts n count v before.counted before.begun;
            over = gathered_kept last lasts n count w before.counted before.over;
          }

      pub gathering_more : (v w : ℕ) → f n ≡ true → count < length firsts → count < length lasts → v ≡ first n → w ≡ last n
          → Gathering f first last (set firsts count v) (set lasts count w) (n + 1) (count + 1)
      gathering_more v w holds room-first room-last own_IsFirst own-last =
          record {
            few = omega (arith, before.few);
            counted = ap (λ (k : ℕ). k + 1) before.counted ∙ sym (count_more f n holds);
            begun = gathered_more first firsts n count v before.counted room-first own_IsFirst before.begun;
            over = gathered_more last lasts n count w before.counted room-last own-last before.over;
          }

-- ---- periods of sites
pub day_rises : (site a b : ℕ) → a ≤ b → day_number site a ≤ day_number site b
unfolding day_number
day_rises site a b h = omega arith

pub filled_above : (site day : ℕ) → (day ≡ 0 → ⊥) → 0 < day_number site day
unfolding day_number
filled_above site day filled = omega (arith, filled)

-- two parts of a number, of which the lower is below 2^22
parts_tell : (x y u v : ℕ) → u < 4194304 → v < 4194304 → x * 4194304 + u ≡ y * 4194304 + v → (x ≡ y) × (u ≡ v)
parts_tell x y u v p q e = (omega arith, omega arith)

-- an odd number, of which a multiple is 1 past one of 2^22, tells the lower parts apart
scaled : (u b : ℕ) → (u * 2592181 + b * 4194304) * 1357981 ≡ (u * 839265 + b * 1357981) * 4194304 + u
scaled u b = omega arith

crossed : (k u v : ℕ) → (u * 2592181 + k) % 4194304 ≡ (v * 2592181 + k) % 4194304
    → u * 2592181 + (v * 2592181 + k) / 4194304 * 4194304 ≡ v * 2592181 + (u * 2592181 + k) / 4194304 * 4194304
crossed k u v e = omega arith

shift_tells : (k u v : ℕ) → u < 4194304 → v < 4194304 → (u * 2592181 + k) % 4194304 ≡ (v * 2592181 + k) % 4194304 → u ≡ v
shift_tells k u v p q e =
    let a = (u * 2592181 + k) / 4194304 in
    let b = (v * 2592181 + k) / 4194304 in
    (parts_tell (u * 839265 + b * 1357981) (v * 839265 + a * 1357981) u v p q
    (sym (scaled u b) ∙ ap (λ (z : ℕ). z * 1357981) (crossed k u v e) ∙ scaled v a)).1

small_upper : (s : ℕ) → s < 10 ^ 13 → s / 4194304 % 4194304 ≡ s / 4194304
small_upper s p = omega arith

below_22 : (s : ℕ) → s % 4194304 < 4194304
below_22 s = omega arith

pub spread_tells : (s t : ℕ) → s < 10 ^ 13 → t < 10 ^ 13 → spread s ≡ spread t → s ≡ t
unfolding spread
spread_tells s t p q e = whole s t upper lower
  where
    both : ((s % 4194304 * 2592181 + s / 4194304 * 1296111) % 4194304 ≡ (t % 4194304 * 2592181 + t / 4194304 * 1296111) % 4194304) × (s / 4194304 % 4194304 ≡ t / 4194304 % 4194304)
    both = parts_tell _ _ _ _ (below_22 (s / 4194304)) (below_22 (t / 4194304)) e

    upper : s / 4194304 ≡ t / 4194304
    upper = sym (small_upper s p) ∙ both.1 ∙ small_upper t q

    lower : s % 4194304 ≡ t % 4194304
    lower =
        shift_tells (t / 4194304 * 1296111) (s % 4194304) (t % 4194304) (below_22 s) (below_22 t)
        (ap (λ (k : ℕ). (s % 4194304 * 2592181 + k * 1296111) % 4194304) (sym upper) ∙ both.0)

    whole : (x y : ℕ) → x / 4194304 ≡ y / 4194304 → x % 4194304 ≡ y % 4194304 → x ≡ y
    whole x y a b = omega arith

pub day_tells : (site a b x : ℕ) → a < 65536 → b < 65536 → day_number site a ≤ x → x ≤ day_number site b → (x / 65536 ≡ spread site) × (a ≤ x % 65536) × (x % 65536 ≤ b)
unfolding day_number
day_tells site a b x p q from until = (omega arith, omega arith, omega arith)

module _ (f : ℕ → Bool) (site start end : ℕ → ℕ) (firsts lasts : List ℕ) (n count : ℕ)
    (G : Gathering f (λ i. day_number (site i) (start i)) (λ i. day_number (site i) (end i)) firsts lasts n count) where
  pub span_of : (i : ℕ) → i < n → f i ≡ true
      → (count_below f i < count) × (get_or firsts (count_below f i) 0 ≡ day_number (site i) (start i)) × (get_or lasts (count_below f i) 0 ≡ day_number (site i) (end i))
  unfolding Gathered
  span_of i h holds = (omega (arith, G.counted, count_less f i n h holds), G.begun i h holds, G.over i h holds)

  pub day_within : (i : ℕ) → i < n → f i ≡ true → (s d : ℕ) → site i ≡ s → start i ≤ d → d ≤ end i → Within firsts lasts (count_below f i) (day_number s d)
  day_within i h holds s d same from until =
      let span = span_of i h holds in (
        omega (arith, span.1, ap (λ (x : ℕ). day_number x (start i)) same, day_rises s (start i) d from),
        omega (arith, span.2, ap (λ (x : ℕ). day_number x (end i)) same, day_rises s d (end i) until),
      )

  pub days_apart : Apart firsts lasts count → (i j d : ℕ) → i < j → j < n → f i ≡ true → f j ≡ true → site i ≡ site j
      → (start i ≤ d) × (d ≤ end i) → (start j ≤ d) × (d ≤ end j) → ⊥
  unfolding Apart
  days_apart apart i j d earlier last holds also same in-first in-second =
      apart (count_below f i) (count_below f j) (day_number (site j) d)
      (count_less f i j earlier holds)
      (span_of j last also).0
      (day_within i (omega arith) holds (site j) d same in-first.0 in-first.1)
      (day_within j last also (site j) d refl in-second.0 in-second.1)

  -- the places of two spans that meet, and the day that they share
  pub record SharedDay : Type 0 where
    pub one : ℕ
    pub other : ℕ
    pub day : ℕ
    pub earlier : one < other
    pub last : other < n
    pub holds : f one ≡ true
    pub also : f other ≡ true
    pub same : site one ≡ site other
    pub in_one : (start one ≤ day) × (day ≤ end one)
    pub in_other : (start other ≤ day) × (day ≤ end other)

  pub days_meet : ((i : ℕ) → i < n → f i ≡ true → (site i < 10 ^ 13) × (start i < 65536) × (end i < 65536)) → Meeting firsts lasts count → SharedDay
  days_meet fit m =
      let v = count_place f n m.one (omega (arith, G.counted, m.earlier, m.last)) in
      let w = count_place f n m.other (omega (arith, G.counted, m.last)) in
      let i = v.0 in
      let j = w.0 in
      let span_i = span_of i v.1 v.2 in
      let span_j = span_of j w.1 w.2 in
      let in_i = subst (λ (a : ℕ). Within firsts lasts a m.number) (sym v.3) m.in_one in
      let in_j = subst (λ (a : ℕ). Within firsts lasts a m.number) (sym w.3) m.in_other in
      let fit_i = fit i v.1 v.2 in
      let fit_j = fit j w.1 w.2 in
      let tell_i = day_tells (site i) (start i) (end i) m.number fit_i.1 fit_i.2 (omega (arith, span_i.1, in_i.0)) (omega (arith, span_i.2, in_i.1)) in
      let tell_j = day_tells (site j) (start j) (end j) m.number fit_j.1 fit_j.2 (omega (arith, span_j.1, in_j.0)) (omega (arith, span_j.2, in_j.1)) in
      record {
        one = i;
        other = j;
        day = m.number % 65536;
        earlier = count_orders f i j w.2 (omega (arith, v.3, w.3, m.earlier));
        last = w.1;
        holds = v.2;
        also = w.2;
        same = spread_tells (site i) (site j) fit_i.0 fit_j.0 (sym tell_i.0 ∙ tell_j.0);
        in_one = (tell_i.1, tell_i.2);
        in_other = (tell_j.1, tell_j.2);
      }
