use Rattle.std.proofs.Common.{◌≡◌, suc, length, Some, arith}
use Rattle.calls.specs.declared.call.Call.TheVariants.{Drop}
use Rattle.jobs.proofs.Climbing.{is_held, drop_climbs}
use Rattle.jobs.proofs.job.Job.drop_cut.Goals as goal

pub returns : goal.returns
returns g c bound =
    let job = c.args.self.now in
    let plan = c.in_ok-plan.plan.now in
    let is_open : job.plan ≡ Some plan = is_held c.as_ref.ensures.value c.in_ok-plan.ensures.ok_part in
    let less = rw c.in_ok-fewer.ensures.ok_part at c.checked_sub.ensures in
    let number : suc c.in_ok-fewer.fewer ≡ length plan.cuts = omega (arith, less.0, less.1, c.count.ensures.value) in
    c.climb_to.ensures bound Drop (drop_climbs g.S.Kind.Kind g.S.Source bound job plan is_open c.args.cells.now c.in_ok-fewer.fewer number)
