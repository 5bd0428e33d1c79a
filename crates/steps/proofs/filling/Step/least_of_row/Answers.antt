use Rattle.std.proofs.Common.{◌≡◌, ◌+◌, ap}
use Rattle.plans.specs.Steps.{Row}
use Rattle.steps.specs.Left.{fence}
use Rattle.steps.proofs.filling.Step.least_of_row.Goals as goal

pub returns : goal.returns
returns g c =
    let step = c.args.self.now in
    let row = c.row-row.ensures.row in
    let from : c.row-row.result.from ≡ fence step.held.now step.end c.args.i = ap (λ (r : Row g.S.Kind.Kind.costs). r.from) row in
    let to : c.row-row.result.to ≡ fence step.held.now step.end (c.args.i + 1) = ap (λ (r : Row g.S.Kind.Kind.costs). r.to) row in
    rw (c.row-row.ensures.source, row, from, to) at c.find_least.ensures
