use Rattle.plans.proofs.Shapes.{steps_keep_their_shape_lem}
use Rattle.plans.proofs.steps_keep_their_shape.Goals as goal

pub returns : goal.returns
returns g c = steps_keep_their_shape_lem g.V.Kind.costs
