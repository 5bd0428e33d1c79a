-- The kind of numbers: signed numbers of 64 bits.
use Rattle.std.specs.Prelude.{ℤ, pos, ◌+ℤ◌, unsigned_abs}
use Rattle.std.specs.Int.Signed.{le_z}
use Rattle.std.specs.Int.{saturate_to_bits}
use Rattle.costs.specs.Costs.{Costs}

-- a sum that passes an end of the range stays at that end
abbrev pub held_sum : ℤ → ℤ → ℤ
held_sum a b = saturate_to_bits 63 (a +ℤ b)

-- the size of a number is its distance from 0
abbrev pub numbers : Costs
numbers = record { Cost = ℤ; nil = pos 0; add = held_sum; le = le_z; size = unsigned_abs }
