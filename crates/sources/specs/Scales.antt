-- Scales: what a cost source means.
use Rattle.std.specs.Prelude.{ℕ, ◌<◌, ◌≤◌, T}
use Rattle.costs.specs.Costs.{Costs}

-- the places 0 to `last`, and the cost of the class from x to y for x ≤ y ≤ last
pub record Scale (K : Costs) : Type 0 where
  pub last : ℕ
  pub cost : ℕ → ℕ → K.Cost

-- Glebov's condition, also known as the quadrangle inequality
abbrev pub Glebov : (K : Costs) → Scale K → Type 0
Glebov K s =
    (x1 y1 y2 x2 : ℕ) → x1 < y1 → y1 ≤ y2 → y2 ≤ x2 → x2 ≤ s.last
    → T (K.le (K.add (s.cost x1 y2) (s.cost y1 x2)) (K.add (s.cost y1 y2) (s.cost x1 x2)))

-- every cost has at most this size
abbrev pub Sized : (K : Costs) → Scale K → ℕ → Type 0
Sized K s bound = (x y : ℕ) → x ≤ y → y ≤ s.last → K.size (s.cost x y) ≤ bound

-- what a source vouches for, and what a checked opening finds out
pub record Sound (K : Costs) (s : Scale K) (bound : ℕ) : Type 0 where
  pub sizes : Sized K s bound
  pub glebov : Glebov K s
