-- `buckets::bucket` meets its contract: the product of a number of 33 bits and one of 31 fits, and so does that of one of 32 bits and the number of buckets.
-- Assumes nothing.
use mathlib.Core.Path.{refl}
use Prim.Native.Nat.{◌+◌, ◌*◌, ◌/◌, ◌%◌}
use Rattle.buckets.specs.InsideBuckets.{bucket_of}
use Rattle.buckets.proofs.Laws.{bucket_below}
use native.Mathlib.Omega.{arith}
use Rattle.buckets.proofs.bucket.Goals as goal

pub returns : goal.returns
unfolding bucket_of
returns c = (refl, bucket_below ((c.args.value % 4294967296 + c.args.value / 4294967296) * 2135587861 / 2 % 4294967296) c.args.size (omega arith) c.requires.0)
