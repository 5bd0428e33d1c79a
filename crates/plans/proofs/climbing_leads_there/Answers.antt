use Rattle.plans.proofs.Climbs.{climbing_leads_there_lem}
use Rattle.plans.proofs.climbing_leads_there.Goals as goal

pub returns : goal.returns
returns g c = climbing_leads_there_lem g.V.Kind.costs g.met.V.Kind.laws
