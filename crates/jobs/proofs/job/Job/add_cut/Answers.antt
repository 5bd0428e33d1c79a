use Rattle.std.proofs.Common.{◌≡◌, Some, sym, subst}
use Rattle.sources.specs.Meant.{meant}
use Rattle.plans.specs.Plans.{Plan}
use Rattle.plans.proofs.Shapes.{step_plan}
use Rattle.jobs.proofs.Climbing.{is_held}
use Rattle.jobs.proofs.job.Job.add_cut.Goals as goal

pub hold-requires : goal.hold-requires
hold-requires g c =
    let job = c.args.self.now in
    let plan = c.in_ok-plan.plan.now in
    let is_open : job.plan ≡ Some plan = is_held c.as_ref.ensures.value c.in_ok-plan.ensures.ok_part in
    job.within plan is_open

pub invariant_of-hold-clause-planned : goal.invariant_of-hold-clause-planned
invariant_of-hold-clause-planned g c =
    let k = g.S.Kind.Kind in
    let plan = c.in_ok-plan.plan.now in
    subst (λ cuts. Plan 0 cuts plan.end) (sym c.step-stepped.ensures.cuts)
    (step_plan k.costs (meant k g.S.Source c.args.self.now.source) plan.cuts plan.end plan.planned)
