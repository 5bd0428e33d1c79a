-- The limits on plans that are made by steps.
use Rattle.std.specs.Prelude.{ℕ}

-- the furthest end of a plan
abbrev pub longest : ℕ
longest = 4096

-- the most cuts of a plan
abbrev pub most_cuts : ℕ
most_cuts = 255
