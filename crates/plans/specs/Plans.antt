-- Plans, their totals, the earliest best one, and how two plans compare.
use Rattle.std.specs.Prelude.{◌≡◌, ℕ, suc, ◌-◌, ◌<◌, ◌≤◌, cond, ◌&&◌, T, List, [], ◌∷◌, length, Some, None, Option, nat_le, nat_lt, slice_index}
use Rattle.costs.specs.Costs.{Costs}
use Rattle.sources.specs.Scales.{Scale}

-- the cuts lie from x to e and never fall
abbrev pub Plan : ℕ → List ℕ → ℕ → Type 0
Plan x [] e = x ≤ e
Plan x (m ∷ ms) e = (x ≤ m) × Plan m ms e

-- what the classes between x, the cuts and e cost together
abbrev pub total : (K : Costs) → Scale K → ℕ → List ℕ → ℕ → K.Cost
total K s x [] e = s.cost x e
total K s x (m ∷ ms) e = K.add (s.cost x m) (total K s m ms e)

-- the k-th of the cuts, counted from 1
abbrev pub nth_cut : List ℕ → ℕ → Option ℕ
nth_cut cuts k = cond (nat_lt 0 k && nat_le k (length cuts)) (Some (slice_index cuts (k - 1))) None

-- each cut of xs is no later than the same cut of ys
abbrev pub NoLater : List ℕ → List ℕ → Type 0
NoLater xs ys = (k : ℕ) → k < length xs → slice_index xs k ≤ slice_index ys k

-- a plan at the end e such that no other with as many cuts has a smaller total, and each that has the same total has no cut earlier
pub record EarliestBest (K : Costs) (s : Scale K) (e : ℕ) (cuts : List ℕ) : Type 0 where
  pub plan : Plan 0 cuts e
  pub least : (other : List ℕ) → length other ≡ length cuts → Plan 0 other e → T (K.le (total K s 0 cuts e) (total K s 0 other e))
  pub earliest : (other : List ℕ) → length other ≡ length cuts → Plan 0 other e → total K s 0 other e ≡ total K s 0 cuts e → NoLater cuts other

-- n cuts that are the earliest best plan at the end e, with their total
pub record BestPlan (K : Costs) (s : Scale K) (n e : ℕ) (cuts : List ℕ) (cost : K.Cost) : Type 0 where
  pub number : length cuts ≡ n
  pub best : EarliestBest K s e cuts
  pub cost_is : cost ≡ total K s 0 cuts e

-- each cut of the first plan lies between the same cut and the next of the second
abbrev pub Interlaced : List ℕ → List ℕ → Type 0
Interlaced few more = (k : ℕ) → k < length few → (slice_index more k ≤ slice_index few k) × (slice_index few k ≤ slice_index more (suc k))
