use Rattle.std.proofs.Common.{◌+◌, get_or, drop, refl, ap, arith}
use Rattle.std.proofs.lemmas.List.{drop_more}
use Rattle.jobs.specs.Jobs.{answer_of}
use Rattle.calls.specs.declared.call.Call.TheVariants.{OpenChecked}
use Rattle.sources.specs.Meant.{meant}
use Rattle.calls.proofs.Lives.{law_of_lives_lem}
use Rattle.jobs.proofs.Running.{running_first, running_more, running_last}
use Rattle.jobs.proofs.job.Job.run_under.Goals as goal

pub loop-call-init : goal.loop-call-init
loop-call-init g c =
    let made = c.in_ok-records.ensures in
    (made.len, made.capacity, rw made.items (running_first g.S.Kind.Kind g.S.Source c.args.bound c.args.calls.now c.args.self.now c.args.cells.now))

pub loop-call-preserved : goal.loop-call-preserved
loop-call-preserved g c =
    let k = g.S.Kind.Kind in
    let calls = c.args.calls.now in
    let i = c.loop-call.call-index in
    let call = get_or calls i OpenChecked in
    let answer = answer_of k c.act-answer.result in
    let pushed = c.push_reserved.ensures in
    let more = running_more k g.S.Source c.args.bound calls c.args.self.now c.args.cells.now call (drop (i + 1) calls)
    (record { call = call; answer = c.act-answer.result; moment = c.moment.result }) answer
    c.loop-call.invariant.2 (drop_more calls i OpenChecked c.loop-call-test.true) refl c.act-answer.ensures
    (ap (λ st. record { call = call; answer = answer; state = st }) c.moment.ensures) in
    (omega (arith, pushed.len, c.loop-call.invariant.0), omega (arith, pushed.capacity, c.loop-call.invariant.1), rw pushed.items more)

pub returns : goal.returns
returns g c =
    let k = g.S.Kind.Kind in
    let job = c.args.self.now in
    running_last k g.S.Source c.args.bound c.args.calls.now job c.args.cells.now c.loop-call.invariant.2 c.loop-call-test.false
    (law_of_lives_lem k.costs g.met.S.Kind.Kind.laws (meant k g.S.Source job.source) c.args.bound c.requires)
