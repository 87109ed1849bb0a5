-- The limits of a file: "at most 1,048,576 bytes and 4,096 lines".
-- Assumes nothing.
use mathlib.Core.Path.{◌≡◌}
use mathlib.Core.Bool.{true, false}
use mathlib.Core.List.{List}
use Prim.Native.Nat.{ℕ, ◌≤◌, ◌<◌}
use borrow.Author.Tests.{lt-ltb, le-ltb}
use lib.ListN.{length}
use Rattle.records.specs.Text.{lines_of}
use Rattle.refusals.specs.Check.{is_too_large}

pub too_many_bytes : (file : List ℕ) → 1048576 < length file → is_too_large file ≡ true
unfolding is_too_large
too_many_bytes file h = rw (lt-ltb 1048576 (length file) h)

pub too_many_lines : (file : List ℕ) → length file ≤ 1048576 → 4096 < length (lines_of file) → is_too_large file ≡ true
unfolding is_too_large
too_many_lines file b h = rw (le-ltb 1048576 (length file) b, lt-ltb 4096 (length (lines_of file)) h)

pub within_limits : (file : List ℕ) → length file ≤ 1048576 → length (lines_of file) ≤ 4096 → is_too_large file ≡ false
unfolding is_too_large
within_limits file b h = rw (le-ltb 1048576 (length file) b, le-ltb 4096 (length (lines_of file)) h)
