-- The two limits on the sizes of costs.
use Rattle.std.specs.Prelude.{ℕ}

-- the size that a single cost may have
abbrev pub largest : ℕ
largest = 1000000000

-- the sizes, added up, for which the laws of a sum hold
abbrev pub room : ℕ
room = 2000000000000
