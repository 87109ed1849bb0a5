-- Answers to the goals of `file_bills::ReadFile::line`: it stands where its places say.
-- Assumes nothing.
use native.Mathlib.Omega.{arith}
use Rattle.records.proofs.Placed.{placed_at}
use Rattle.file_bills.proofs.ReadFile.line.Goals as goal

pub slice_bounds-result-count : goal.slice_bounds-result-count
slice_bounds-result-count c = (placed_at c.args.self.now.read.placed c.args.i c.requires).low

pub slice_bounds-result-start : goal.slice_bounds-result-start
slice_bounds-result-start c = let low = (placed_at c.args.self.now.read.placed c.args.i c.requires).low in omega arith

pub slice_bounds-result-end : goal.slice_bounds-result-end
slice_bounds-result-end c = let high = (placed_at c.args.self.now.read.placed c.args.i c.requires).high in omega arith

pub returns : goal.returns
returns c = (placed_at c.args.self.now.read.placed c.args.i c.requires).same
