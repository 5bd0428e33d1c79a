use Rattle.plans.proofs.Best.{further_ends_lem}
use Rattle.plans.proofs.further_ends.Goals as goal

pub returns : goal.returns
returns g c = further_ends_lem g.V.Kind.costs g.met.V.Kind.laws
