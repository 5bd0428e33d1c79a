use Rattle.std.proofs.Common.{◌≤◌, subst}
use Rattle.std.specs.Option.{IfSome}
use Rattle.jobs.proofs.job.Job.hold.Goals as goal

pub invariant_of-self : goal.invariant_of-self
invariant_of-self g c =
    let last = g.S.Source.last c.args.self.now.source in
    let within : c.args.plan.end ≤ last = c.requires in
    record { within = λ x is. subst (λ o. IfSome o (λ p. p.end ≤ last)) is within }
