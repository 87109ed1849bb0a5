-- `records::line_ends` meets its contract. The loop's invariant: the bytes 10 of the file are those counted and those of the bytes that are left.
-- Assumes nothing.
use Rattle.std.proofs.Common.{◌≡◌, ◌+◌, ◌-◌, ◌*◌, ◌/◌, ℕ, List, length, drop, take, ◌∙◌, subst, arith}
use Rattle.std.proofs.Math.Nat.{div-mul-le_self}
use native.Mathlib.Nat.{le_refl}
use Rattle.records.specs.InsideLineEnds.{line_ends}
use Rattle.records.proofs.LineEnds.{ends_none, ends_part, ends_few}
use Rattle.records.proofs.line_ends.Goals as goal

-- with block k counted
module _ (file : List ℕ) (k count more : ℕ) (so-far : line_ends file ≡ count + line_ends (drop (k * 128) file))
    (counted : more ≡ line_ends (take (k * 128 + 128 - k * 128) (drop (k * 128) file))) where
  with_block : line_ends file ≡ count + more + line_ends (drop ((k + 1) * 128) file)
  with_block =
      let next : k * 128 + 128 ≡ (k + 1) * 128 = omega arith in
      subst (λ (i : ℕ). line_ends file ≡ count + more + line_ends (drop i file)) next
      (omega (arith, so-far, counted, ends_part file (k * 128) (k * 128 + 128) (omega arith)))

-- the last block, which is not full
module _ (file : List ℕ) (k count more : ℕ) (last : k ≡ length file / 128) (so-far : line_ends file ≡ count + line_ends (drop (k * 128) file))
    (counted : more ≡ line_ends (take (length file - length file / 128 * 128) (drop (length file / 128 * 128) file))) where
  with_last : count + more ≡ line_ends file
  with_last =
      let start = length file / 128 * 128 in
      let here : line_ends file ≡ count + line_ends (drop start file) = subst (λ (i : ℕ). line_ends file ≡ count + line_ends (drop (i * 128) file)) last so-far in
      omega (arith, here, counted, ends_part file start (length file) (div-mul-le_self (length file) 128), ends_none file (length file) (le_refl _))

pub overflow_add-count : goal.overflow_add-count
overflow_add-count c =
    omega (arith, with_block c.args.file.now c.loop-k.k c.loop-k.count c.from-count.result c.loop-k.invariant (c.from-count.ensures ∙ c.ends_in.ensures), ends_few c.args.file.now)

pub loop-k-preserved : goal.loop-k-preserved
loop-k-preserved c = with_block c.args.file.now c.loop-k.k c.loop-k.count c.from-count.result c.loop-k.invariant (c.from-count.ensures ∙ c.ends_in.ensures)

pub overflow_add-result : goal.overflow_add-result
overflow_add-result c =
    omega (arith, with_last c.args.file.now c.loop-k.k c.loop-k.count c.from.result (omega arith) c.loop-k.invariant (c.from.ensures ∙ c.ends_in-2.ensures), ends_few c.args.file.now)

pub returns : goal.returns
returns c = with_last c.args.file.now c.loop-k.k c.loop-k.count c.from.result (omega arith) c.loop-k.invariant (c.from.ensures ∙ c.ends_in-2.ensures)
