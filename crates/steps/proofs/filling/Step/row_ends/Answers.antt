use Rattle.steps.proofs.Fences.{fence_order}
use Rattle.std.proofs.Common.{arith}
use Rattle.steps.proofs.filling.Step.row_ends.Goals as goal

pub returns-clause-order : goal.returns-clause-order
returns-clause-order g c = let step = c.args.self.now in omega (arith, fence_order step.held.now step.end step.plan c.args.i c.requires)
