-- Layers: scales made from other scales, and what the sources that stand for them reply.
use Rattle.std.specs.Prelude.{ℕ, ◌+◌, ◌-◌, min, max}
use Rattle.costs.specs.Costs.{Costs}
use Rattle.costs.specs.Ranked.{ranked}
use Rattle.sources.specs.Scales.{Scale}

-- two scales up to the smaller end, their costs added
abbrev pub joined : (K : Costs) → Scale K → Scale K → Scale K
joined K s t = record { last = min s.last t.last; cost = λ x y. K.add (s.cost x y) (t.cost x y) }

-- the first place of a window from a: the end, where a lies beyond it
abbrev pub opening : ℕ → ℕ → ℕ
opening last a = min a last

-- the last place of a window from a to b: b brought between the first place and the end
abbrev pub closing : ℕ → ℕ → ℕ → ℕ
closing last a b = max (opening last a) (min b last)

-- the places from a to b of a scale, numbered from 0
abbrev pub window : (K : Costs) → ℕ → ℕ → Scale K → Scale K
window K a b s = let o = opening s.last a in record { last = closing s.last a b - o; cost = λ x y. s.cost (o + x) (o + y) }

-- a scale numbered from its end
abbrev pub turned : (K : Costs) → Scale K → Scale K
turned K s = record { last = s.last; cost = λ x y. s.cost (s.last - y) (s.last - x) }

-- two scales up to the smaller end, compared by the first and, where those are equal, by the second
abbrev pub paired : (A B : Costs) → Scale A → Scale B → Scale (ranked A B)
paired A B s t = record { last = min s.last t.last; cost = λ x y. (s.cost x y, t.cost x y) }
