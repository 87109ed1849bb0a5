-- The steps of reading columns.
--     field_lent                                the field that a column reads of a type, by the table that is lent
--     row_none, row_more                        a loop that stores the numbers of a line
--     Rows, rows_none, rows_more, rows_end      a loop over the lines, which have their numbers in the columns
--     Amounts, amounts_none, -more, -end        and their amounts
--     Reading, reading_none, -more, -end        and both
-- Assumes nothing.
use mathlib.Core.Path.{◌≡◌, refl, sym, ◌∙◌, ap, subst}
use mathlib.Core.List.{List, [], map}
use Prim.Native.Nat.{ℕ, zero, suc, ◌+◌, ◌*◌, ◌≤◌, ◌<◌}
use native.Mathlib.Nat.{zero-mul, suc-mul, mul-le-mul_right}
use native.Mathlib.Omega.{arith}
use borrow.Author.Count.{below_more}
use lib.ListN.{length, get_or, take, drop, set, length-set, length-map, length-drop}
use lib.Seq.{get_or-set_same, get_or-set_other, get_or-take, get_or-drop, length-take-le, ext_get_or}
use Rattle.lists.proofs.AllBelow.{at_below}
use Rattle.lists.proofs.Column.{stored}
use Rattle.lists.proofs.Table.{tabulate_at}
use Rattle.amounts.specs.declared.Amount.{Amount}
use Rattle.amounts.specs.declared.Amount.TheVariants.{Missing}
use Rattle.amounts.specs.InsideSaid.{said_by, amounts_said}
use Rattle.columns.specs.Columns.{field_of, number_in, charge_in, usage_in}
use Rattle.columns.specs.InsideColumns.{column_at, ColumnsRead}
use Rattle.columns.specs.InsideRows.{field_row, column_fields, RowStored}
use Rattle.columns.proofs.Laws.{map_at}

-- ---- the fields of the columns, by the table that is lent
RowLent : List (List ℕ) → ℕ → Type 0
RowLent fields type = get_or fields type [] ≡ field_row type

pub field_lent : {fields : List (List ℕ)} → fields ≡ column_fields → (type column : ℕ) → type < 9 → column < 10 → get_or (get_or fields type []) column 0 ≡ field_of column type
unfolding RowLent
field_lent lent type column known small =
    ap (λ (rows : List (List ℕ)). get_or (get_or rows type []) column 0) lent
    ∙ ap (λ (row : List ℕ). get_or row column 0) (at_below (RowLent column_fields) 9 (((((((((tt, refl), refl), refl), refl), refl), refl), refl), refl), refl) type known)
    ∙ tabulate_at (λ (c : ℕ). field_of c type) 10 column small

-- ---- the words of the columns
pub column_inside : (room column : ℕ) → column < 8 → column * room + room ≤ 8 * room
column_inside room column h = let next = suc-mul column room in let most = mul-le-mul_right {m = suc column} {n = 8} room h in omega (arith, next, most)

-- a word belongs to one line of one column
pub same_place : (room a b i k : ℕ) → i < room → k < room → a * room + i ≡ b * room + k → (a ≡ b) × (i ≡ k)
same_place room zero zero i k l m e = (refl, (let none = zero-mul room in omega (arith, none, e)))
same_place room zero (suc b) i k l m e = let none = zero-mul room in let next = suc-mul b room in absurd (omega (arith, none, next, e, l))
same_place room (suc a) zero i k l m e = let none = zero-mul room in let next = suc-mul a room in absurd (omega (arith, none, next, e, m))
same_place room (suc a) (suc b) i k l m e =
    let here = suc-mul a room in
    let there = suc-mul b room in
    let earlier = same_place room a b i k l m (omega (arith, here, there, e)) in
    (ap suc earlier.0, earlier.1)

-- ---- storing the numbers of a line
pub row_none : (room : ℕ) (words : List ℕ) (i : ℕ) (numbers : List ℕ) → RowStored room words i numbers 0 words
row_none room words i numbers = record { size = refl; here = λ column h. absurd (omega arith); other = λ column k h n. refl }

pub row_more : {room : ℕ} {before : List ℕ} {i : ℕ} {numbers : List ℕ} {c : ℕ} {after : List ℕ} → RowStored room before i numbers c after
    → i < room → c * room + i < length before → (x : ℕ) → x ≡ get_or numbers c 0 → RowStored room before i numbers (c + 1) (set after (c * room + i) x)
row_more {room} {before} {i} {numbers} {c} {after} r small inside x e =
    let place = c * room + i in
    record {
      size = length-set after place x ∙ r.size;
      here =
          below_more (λ (column : ℕ). get_or (set after place x) (column * room + i) 0 ≡ get_or numbers column 0) c
          (λ column l. get_or-set_other after place (column * room + i) x 0 (λ q. let p = (same_place room column c i i small small q).0 in omega (arith, p)) ∙ r.here column l)
          (get_or-set_same after place x 0 (omega (arith, r.size)) ∙ e);
      other = λ column k h n. get_or-set_other after place (column * room + k) x 0 (λ q. n (same_place room column c k i h small q).1) ∙ r.other column k h n;
    }

-- ---- the lines
-- the first i lines have their numbers in the columns
pub record Rows (room : ℕ) (lines : List (List ℕ)) (i : ℕ) (words : List ℕ) : Type 0 where
  pub size : length words ≡ 8 * room
  pub at : (column k : ℕ) → column < 8 → k < i → get_or words (column * room + k) 0 ≡ number_in column (get_or lines k [])

pub rows_none : (room : ℕ) (lines : List (List ℕ)) (words : List ℕ) → length words ≡ 8 * room → Rows room lines 0 words
rows_none room lines words e = record { size = e; at = λ column k h l. absurd (omega arith) }

pub rows_more : {room : ℕ} {lines : List (List ℕ)} {i : ℕ} {words numbers after : List ℕ} → Rows room lines i words → i < room → RowStored room words i numbers 8 after
    → ((column : ℕ) → column < 8 → get_or numbers column 0 ≡ number_in column (get_or lines i [])) → Rows room lines (i + 1) after
rows_more {room} {lines} {i} {words} {numbers} {after} r small s line =
    record {
      size = s.size ∙ r.size;
      at = λ column k h.
          below_more (λ (j : ℕ). get_or after (column * room + j) 0 ≡ number_in column (get_or lines j [])) i
          (λ j l. s.other column j (omega arith) (λ e. omega (arith, e)) ∙ r.at column j h l)
          (s.here column h ∙ line column h)
          k;
    }

pub rows_end : {room : ℕ} {lines : List (List ℕ)} {i : ℕ} {words : List ℕ} → Rows room lines i words → i ≡ length lines → i ≤ room
    → (column : ℕ) → column < 8 → column_at room column (length lines) words ≡ map (number_in column) lines
rows_end {room} {lines} {i} {words} r all few column h =
    ext_get_or 0 (column_at room column (length lines) words) (map (number_in column) lines) (long ∙ sym (length-map lines (number_in column)))
    (λ k l. number k (omega (arith, l, long)))
  where
    long : length (column_at room column (length lines) words) ≡ length lines
    long = length-take-le (length lines) (drop (column * room) words) (rw length-drop (let in_room = column_inside room column h in omega (arith, all, r.size, in_room)))

    number : (k : ℕ) → k < length lines → get_or (column_at room column (length lines) words) k 0 ≡ get_or (map (number_in column) lines) k 0
    number k l =
        get_or-take (length lines) (drop (column * room) words) k 0 l
        ∙ get_or-drop (column * room) words k 0
        ∙ r.at column k h (omega (arith, all))
        ∙ sym (map_at (number_in column) [] 0 lines k l)

-- a column of amounts, as long as `before`, says f of the first i lines
pub record Amounts (f : List ℕ → Amount) (lines : List (List ℕ)) (before : List ℕ) (i : ℕ) (column : List ℕ) : Type 0 where
  pub size : length column ≡ length before
  pub at : (k : ℕ) → k < i → said_by (get_or column k 0) ≡ f (get_or lines k [])

pub amounts_none : (f : List ℕ → Amount) (lines : List (List ℕ)) (before : List ℕ) → Amounts f lines before 0 before
amounts_none f lines before = record { size = refl; at = λ k l. absurd (omega arith) }

pub amounts_more : {f : List ℕ → Amount} {lines : List (List ℕ)} {before : List ℕ} {i : ℕ} {column : List ℕ} → Amounts f lines before i column
    → i < length before → (x : ℕ) → said_by x ≡ f (get_or lines i []) → Amounts f lines before (i + 1) (set column i x)
amounts_more {f} {lines} {before} {i} {column} r room x e =
    record {
      size = length-set column i x ∙ r.size;
      at = stored 0 (λ (k v : ℕ). said_by v ≡ f (get_or lines k [])) column i x (omega (arith, room, r.size)) r.at e;
    }

pub amounts_end : {f : List ℕ → Amount} {lines : List (List ℕ)} {before : List ℕ} {i : ℕ} {column : List ℕ} → Amounts f lines before i column → i ≡ length lines → i ≤ length before
    → amounts_said (take (length lines) column) ≡ map f lines
amounts_end {f} {lines} {before} {i} {column} r all few =
    ext_get_or Missing (amounts_said front) (map f lines) (length-map front said_by ∙ long ∙ sym (length-map lines f)) (λ k l. amount k (omega (arith, l, length-map front said_by, long)))
  where
    front : List ℕ
    front = take (length lines) column

    long : length front ≡ length lines
    long = length-take-le (length lines) column (omega (arith, all, few, r.size))

    amount : (k : ℕ) → k < length lines → get_or (amounts_said front) k Missing ≡ get_or (map f lines) k Missing
    amount k l =
        map_at said_by 0 Missing front k (omega (arith, l, long))
        ∙ ap said_by (get_or-take (length lines) column k 0 l)
        ∙ r.at k (omega (arith, all, l))
        ∙ sym (map_at f [] Missing lines k l)

-- ---- the columns: the first i lines are read, into columns of amounts that kept `charges₀` and `usages₀`
pub record Reading (lines : List (List ℕ)) (charges₀ usages₀ : List ℕ) (i : ℕ) (words charges usages : List ℕ) : Type 0 where
  pub numbers : Rows (length charges₀) lines i words
  pub charge : Amounts charge_in lines charges₀ i charges
  pub usage : Amounts usage_in lines usages₀ i usages

pub reading_none : (lines : List (List ℕ)) (words charges usages : List ℕ) → length words ≡ 8 * length charges → Reading lines charges usages 0 words charges usages
reading_none lines words charges usages size =
    record { numbers = rows_none (length charges) lines words size; charge = amounts_none charge_in lines charges; usage = amounts_none usage_in lines usages }

-- one line more, whose numbers and amounts are stored
module _ {lines : List (List ℕ)} {charges₀ usages₀ : List ℕ} {i : ℕ} {words charges usages : List ℕ} (r : Reading lines charges₀ usages₀ i words charges usages) where
  pub reading_more : {numbers after : List ℕ} (x y : ℕ) → i < length charges₀ → length usages₀ ≡ length charges₀ → RowStored (length charges) words i numbers 8 after
      → ((column : ℕ) → column < 8 → get_or numbers column 0 ≡ number_in column (get_or lines i [])) → said_by x ≡ charge_in (get_or lines i []) → said_by y ≡ usage_in (get_or lines i [])
      → Reading lines charges₀ usages₀ (i + 1) after (set charges i x) (set usages i y)
  reading_more {numbers} {after} x y small space stored line p q =
      record {
        numbers = rows_more r.numbers small (subst (λ (room : ℕ). RowStored room words i numbers 8 after) r.charge.size stored) line;
        charge = amounts_more r.charge small x p;
        usage = amounts_more r.usage (omega (arith, small, space)) y q;
      }

  pub reading_end : i ≡ length lines → i ≤ length charges₀ → length usages₀ ≡ length charges₀ → ColumnsRead lines words charges usages
  reading_end all few space = record { numbers = λ column h. ap (λ (room : ℕ). column_at room column (length lines) words) r.charge.size ∙ rows_end r.numbers all few column h; charges = amounts_end r.charge all few; usages = amounts_end r.usage all (omega (arith, few, space)) }
