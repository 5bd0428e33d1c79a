use Rattle.std.proofs.Common.{◌≡◌, refl, ap, subst, arith}
use Rattle.sources.specs.Meant.{meant}
use Rattle.steps.specs.Left.{ClimbLeft}
use Rattle.steps.proofs.StepsLeft.{climbed_first, climbed_plan, climbed_reads, climbed_more}
use Rattle.steps.proofs.stepping.climb.Goals as goal

pub loop-init : goal.loop-init
loop-init g c =
    let k = g.S.Kind.Kind in
    climbed_first k (meant k g.S.Source c.args.source.now) c.args.end c.args.cells.now _ c.none.ensures (ap k.means c.class_cost.ensures) refl

pub step-next-requires : goal.step-next-requires
step-next-requires g c =
    let done = c.loop.invariant in
    record { plan = climbed_plan done; few = omega (arith, done.left.number); within = c.requires.1; short = c.requires.2; room = omega (arith, done.left.number) }

pub overflow_add-reads : goal.overflow_add-reads
overflow_add-reads g c = record { fits = omega (arith, climbed_reads c.loop.invariant c.requires.2 (omega arith) c.step-next.ensures) }

pub loop-preserved : goal.loop-preserved
loop-preserved g c = climbed_more c.loop.invariant c.requires.2 (omega arith) c.step-next.ensures

pub returns : goal.returns
returns g c =
    let k = g.S.Kind.Kind in
    let all : c.loop.counter ≡ c.args.count = omega arith in
    subst (λ z. ClimbLeft k (meant k g.S.Source c.args.source.now) c.args.end z c.args.cells.now c.loop.cells c.loop.reached) all c.loop.invariant.left
