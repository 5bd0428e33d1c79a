-- What the row above stands for, and what a search of it finds.
use Rattle.std.specs.Prelude.{◌≡◌, ℕ, ◌+◌, ◌-◌, map}
use Rattle.costs.specs.Costs.{Costs}
use Rattle.costs.specs.declared.kind.Kind as kind
use Rattle.sources.specs.declared.source.Source as source
use Rattle.sources.specs.Meant.{meant}
use Rattle.sources.specs.Scales.{Scale}
use Rattle.plans.specs.Steps.{Row, via, earliest}
use Rattle.rows.specs.declared.above.Above.{Above}
use Rattle.rows.specs.declared.above.Found.{Found}

module _ {V S : Type 0} {m : source.Ghosts S V} {k : kind.Ghosts V} (above : Above S V m k) where
  -- the scale of its source
  abbrev pub scale_of : Scale k.costs
  scale_of = meant k m above.source.now

  -- its costs
  abbrev pub row_of : Row k.costs
  row_of = record { from = above.from; to = above.to; cells = map k.means above.cells.now }

-- the earliest least place from lo to hi on the way to y, with its cost, and a read for each place
pub record Least (K : Costs) (s : Scale K) (above : Row K) (lo hi y at : ℕ) (cost : K.Cost) (count : ℕ) : Type 0 where
  pub place : at ≡ earliest K.le (via K s above y) lo (hi - lo)
  pub value : cost ≡ via K s above y at
  pub reads : count ≡ hi - lo + 1

-- the same of a place that was found in the row above
abbrev pub IsLeast : {V S : Type 0} {m : source.Ghosts S V} {k : kind.Ghosts V} → Above S V m k → ℕ → ℕ → ℕ → Found V → Type 0
IsLeast {k = k} above lo hi y f = Least k.costs (scale_of above) (row_of above) lo hi y f.place (k.means f.cost) f.reads
