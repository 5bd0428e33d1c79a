use Rattle.std.proofs.Common.{sym}
use Rattle.sources.specs.Meant.{meant}
use Rattle.calls.proofs.Tellings.{large_tells, broken_tells}
use Rattle.jobs.proofs.job.Job.open_checked.Goals as goal

pub returns-in-Some-clause-tells : goal.returns-in-Some-clause-tells
returns-in-Some-clause-tells g c =
    let k = g.S.Kind.Kind in
    large_tells k.costs g.met.S.Kind.Kind.laws (meant k g.S.Source c.args.self.now.source) c.in-Some.class (sym c.in-Some.ensures.value)

pub returns-in-Some-first_broken_square-clause-tells : goal.returns-in-Some-first_broken_square-clause-tells
returns-in-Some-first_broken_square-clause-tells g c =
    let k = g.S.Kind.Kind in
    broken_tells k.costs g.met.S.Kind.Kind.laws (meant k g.S.Source c.args.self.now.source) c.in-Some-first_broken_square.square
    (c.first_too_large.ensures.sized c.in_default.is)
    (sym c.in-Some-first_broken_square.ensures.value)
