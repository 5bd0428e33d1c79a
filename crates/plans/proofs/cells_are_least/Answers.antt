use Rattle.plans.proofs.Climbs.{cells_are_least_lem}
use Rattle.plans.proofs.cells_are_least.Goals as goal

pub returns : goal.returns
returns g c = cells_are_least_lem g.V.Kind.costs g.met.V.Kind.laws
