-- A small scale, on which steps are computed from their definition.
use Rattle.std.specs.Prelude.{◌≡◌, ℕ, ◌+◌, ◌-◌, ◌*◌, ◌/◌, List, [], ◌∷◌, map, pos, slice_index}
use Rattle.costs.specs.Numbers.{numbers}
use Rattle.sources.specs.Scales.{Scale}
use Rattle.plans.specs.Steps.{Stepped, step, climb}

-- how many scans are not longer than 0, 1, 2, 3 and 4 blocks
abbrev pub counts : List ℕ
counts = 0 ∷ 3 ∷ 4 ∷ 4 ∷ 6 ∷ []

-- each scan of the class from x to y takes y blocks, and one more for each begun eight of them
abbrev pub sample : Scale numbers
sample = record { last = 4; cost = λ x y. pos ((y + (y + 7) / 8) * (slice_index counts y - slice_index counts x)) }

-- cuts, total, cells and reads
abbrev pub leaving : List ℕ → ℕ → List ℕ → ℕ → Stepped numbers
leaving cuts total cells reads = record { cuts = cuts; total = pos total; cells = map pos cells; reads = reads }

-- the first three steps at the end 4, stepping up to two cuts in a list with one cell too many, and a step at the end 0, where all cuts are 0
pub record StepsOfTheSample : Type 0 where
  pub one : step numbers sample [] 4 ≡ leaving (1 ∷ []) 21 (0 ∷ 6 ∷ 12 ∷ 16 ∷ 30 ∷ []) 10
  pub two : step numbers sample (1 ∷ []) 4 ≡ leaving (1 ∷ 2 ∷ []) 19 (0 ∷ 6 ∷ 6 ∷ 9 ∷ 10 ∷ 21 ∷ []) 15
  pub three : step numbers sample (1 ∷ 2 ∷ []) 4 ≡ leaving (0 ∷ 1 ∷ 2 ∷ []) 19 (0 ∷ 6 ∷ 6 ∷ 9 ∷ 9 ∷ 9 ∷ 19 ∷ []) 18
  pub stepped_up : climb numbers sample 4 2 (map pos (7 ∷ 7 ∷ 7 ∷ 7 ∷ 7 ∷ 7 ∷ 7 ∷ [])) ≡ leaving (1 ∷ 2 ∷ []) 19 (0 ∷ 6 ∷ 6 ∷ 9 ∷ 10 ∷ 21 ∷ 7 ∷ []) 26
  pub at_zero : step numbers sample (0 ∷ []) 0 ≡ leaving (0 ∷ 0 ∷ []) 0 (0 ∷ 0 ∷ []) 4
