use Rattle.plans.proofs.Best.{totals_are_convex_lem}
use Rattle.plans.proofs.totals_are_convex.Goals as goal

pub returns : goal.returns
returns g c = totals_are_convex_lem g.V.Kind.costs g.met.V.Kind.laws
