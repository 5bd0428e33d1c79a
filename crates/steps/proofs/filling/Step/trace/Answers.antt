use Rattle.std.proofs.Common.{◌≡◌, ◌+◌, ◌-◌, map, length, sym, ap, ◌∙◌, arith}
use Rattle.std.proofs.lemmas.List.{take-map}
use Rattle.plans.specs.Steps.{traced, traced_reads, reached}
use Rattle.steps.specs.Left.{scale}
use Rattle.steps.proofs.Traces.{rows_cut, tracing_first, tracing_more, row_is}
use Rattle.steps.proofs.filling.Step.trace.Goals as goal

pub loop-i-init : goal.loop-i-init
loop-i-init g c =
    let k = g.S.Kind.Kind in
    let step = c.args.self.now in
    let cells = c.args.cells.now in
    let l = rw (row_is k (scale step) step.held.now step.end c.count-count.result cells) at c.least_of_row-last.ensures in
    (omega arith, rw c.push.ensures (tracing_first k.costs (scale step) step.held.now step.end (map k.means cells) step.plan c.count-count.ensures.value l))

pub loop-i-preserved : goal.loop-i-preserved
loop-i-preserved g c =
    let k = g.S.Kind.Kind in
    let step = c.args.self.now in
    let cells = c.args.cells.now in
    let l = rw (row_is k (scale step) step.held.now step.end (c.loop-i.i - 1) cells) at c.least_of_row-found.ensures in
    (omega arith, rw c.set.ensures (tracing_more k.costs (scale step) step.held.now step.end (map k.means cells) step.plan (omega arith) (omega arith) c.loop-i.invariant.1 l))

pub returns : goal.returns
returns g c =
    let k = g.S.Kind.Kind in
    let s = scale c.args.self.now in
    let held = c.args.self.now.held.now in
    let end = c.args.self.now.end in
    let n = end + length held + 1 in
    let rows_are = rows_cut k.costs s held end n (map k.means c.args.cells.now) (take-map k.means n c.args.cells.now ∙ c.requires.filled) in
    let first : c.loop-i.i ≡ 0 = omega arith in
    let t = rw first at c.loop-i.invariant.1 in
    record {
      cuts = t.found ∙ ap (λ rs. traced k.costs s rs end) (sym rows_are);
      total = t.cost ∙ ap (λ rs. reached k.costs s rs end) (sym rows_are);
      reads = t.read ∙ ap traced_reads (sym rows_are);
    }
