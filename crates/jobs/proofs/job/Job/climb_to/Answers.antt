use Rattle.std.proofs.Common.{sym, subst}
use Rattle.sources.specs.Meant.{meant}
use Rattle.plans.specs.Plans.{Plan}
use Rattle.plans.proofs.Climbs.{climb_plan}
use Rattle.jobs.proofs.job.Job.climb_to.Goals as goal

pub invariant_of-hold-clause-planned : goal.invariant_of-hold-clause-planned
invariant_of-hold-clause-planned g c =
    let k = g.S.Kind.Kind in
    subst (λ cuts. Plan 0 cuts c.args.end) (sym c.climb-climbed.ensures.cuts)
    (climb_plan k.costs (meant k g.S.Source c.args.self.now.source) c.args.end _ c.args.count)
