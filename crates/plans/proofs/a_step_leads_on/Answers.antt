use Rattle.plans.proofs.Climbs.{a_step_leads_on_lem}
use Rattle.plans.proofs.a_step_leads_on.Goals as goal

pub returns : goal.returns
returns g c = a_step_leads_on_lem g.V.Kind.costs g.met.V.Kind.laws
