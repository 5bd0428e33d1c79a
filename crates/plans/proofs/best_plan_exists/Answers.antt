use Rattle.plans.proofs.Best.{best_plan_exists_lem}
use Rattle.plans.proofs.best_plan_exists.Goals as goal

pub returns : goal.returns
returns g c = best_plan_exists_lem g.V.Kind.costs g.met.V.Kind.laws
