use Rattle.plans.proofs.Best.{plans_interlace_lem}
use Rattle.plans.proofs.plans_interlace.Goals as goal

pub returns : goal.returns
returns g c = plans_interlace_lem g.V.Kind.costs g.met.V.Kind.laws
