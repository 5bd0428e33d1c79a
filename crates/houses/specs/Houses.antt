-- House counts: costs from the number of scans of each length.
use Rattle.std.specs.Prelude.{◌≡◌, ℕ, pred, ◌+◌, ◌-◌, ◌*◌, ◌/◌, ◌<◌, ◌≤◌, Bool, true, false, ◌||◌, List, length, pos, nat_lt, slice_index}
use Rattle.costs.specs.Numbers.{numbers}
use Rattle.sources.specs.Scales.{Scale}

-- an extent of y blocks takes y blocks of tape, and one more for each begun eight
abbrev pub price : ℕ → ℕ
price y = y + (y + 7) / 8

-- F(y) counts the scans not longer than y: the class from x to y holds F(y) - F(x) scans, each in an extent of y blocks
abbrev pub tape : List ℕ → ℕ → ℕ → ℕ
tape F x y = price y * (slice_index F y - slice_index F x)

abbrev pub house : List ℕ → Scale numbers
house F = record { last = pred (length F); cost = λ x y. pos (tape F x y) }

-- what house counts vouch for: the tape of a single class
abbrev pub house_bound : List ℕ → ℕ
house_bound F = tape F 0 (pred (length F))

-- ---- which lists are house counts

-- 1 to 4,097 counts
abbrev pub LongEnough : List ℕ → Type 0
LongEnough F = (0 < length F) × (length F ≤ 4097)

-- the count at k is below the one before it, or above 200,000
abbrev pub bad : List ℕ → ℕ → Bool
bad F k = nat_lt (slice_index F k) (slice_index F (pred k)) || nat_lt 200000 (slice_index F k)

abbrev pub Good : List ℕ → Type 0
Good F = (k : ℕ) → k < length F → bad F k ≡ false

abbrev pub Counts : List ℕ → Type 0
Counts F = LongEnough F × Good F

-- the first bad count
pub record FirstBad (F : List ℕ) (i : ℕ) : Type 0 where
  pub within : i < length F
  pub bad_there : bad F i ≡ true
  pub good_before : (k : ℕ) → k < i → bad F k ≡ false
