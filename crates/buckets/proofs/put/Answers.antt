-- `buckets::put` meets its contract: a place whose value is not there is put where its search ended; else the tree stays.
-- Assumes nothing.
use mathlib.Core.Path.{sym}
use Rattle.buckets.proofs.Trees.{put_place}
use native.Mathlib.Omega.{arith}
use Rattle.buckets.proofs.put.Goals as goal

pub returns : goal.returns
returns c = (put_place _ _ _ _ c.requires.indexed c.search-slot.result c.search-slot.ensures c.if-content-ne0.false (omega (arith, c.search-slot.ensures.below)), sym (c.search-slot.ensures.none c.if-content-ne0.false))
