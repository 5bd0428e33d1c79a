use Rattle.std.proofs.Common.{◌≡◌, Some}
use Rattle.calls.specs.declared.call.Call.TheVariants.{Reach}
use Rattle.jobs.proofs.Climbing.{is_held, reach_climbs}
use Rattle.jobs.proofs.job.Job.reach.Goals as goal

pub returns : goal.returns
returns g c bound =
    let job = c.args.self.now in
    let plan = c.in_ok-plan.plan.now in
    let is_open : job.plan ≡ Some plan = is_held c.as_ref.ensures.value c.in_ok-plan.ensures.ok_part in
    c.climb_to.ensures bound (Reach c.args.end) (reach_climbs g.S.Kind.Kind g.S.Source bound job plan is_open c.args.cells.now c.args.end c.count-count.result c.count-count.ensures.value)
