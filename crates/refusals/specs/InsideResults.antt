-- What functions answer of tests that pass, or that are refused.
-- Assumes nothing.
use Rattle.std.specs.Prelude.{ℕ, ◌+◌, ◌≤◌, ◌<◌, ◌≡◌, Result, Ok, Err}
use Rattle.refusals.specs.declared.Outcome.{Outcome}
use Rattle.refusals.specs.Refusals.{outcome, passed}

-- what is answered of a test, by the first of n records that fails it, or n
abbrev pub TestTold : ℕ → ℕ → ℕ → Result (Unit {0}) Outcome → Type 0
TestTold number n place (Ok _) = n ≤ place
TestTold number n place (Err refusal) = (place < n) × (refusal ≡ outcome number (place + 1))

-- the answer of tests that pass, or that are refused
abbrev pub told : Result (Unit {0}) Outcome → Outcome
told (Ok _) = passed
told (Err refusal) = refusal
