-- Bytes in hexadecimal digits.
use Rattle.std.specs.Prelude.{ℕ, ◌+◌, ◌/◌, ◌%◌, cond, List, [], ◌∷◌, nat_lt}

-- the digit for a number below 16: 0 to 9, then a to f
abbrev pub digit : ℕ → ℕ
digit n = cond (nat_lt n 10) (48 + n) (87 + n)

-- two digits for each byte, the high one first
abbrev pub spelled : List ℕ → List ℕ
spelled [] = []
spelled (b ∷ bs) = digit (b / 16) ∷ digit (b % 16) ∷ spelled bs
