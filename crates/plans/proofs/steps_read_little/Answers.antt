use Rattle.plans.proofs.Bounds.{steps_read_little_lem}
use Rattle.plans.proofs.steps_read_little.Goals as goal

pub returns : goal.returns
returns g c = steps_read_little_lem g.V.Kind.costs
