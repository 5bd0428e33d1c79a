use Rattle.std.proofs.Common.{◌+◌, length, ap, arith}
use Rattle.sources.specs.Meant.{meant}
use Rattle.plans.proofs.Shapes.{step_cells, step_length}
use Rattle.steps.proofs.StepsLeft.{step_few, over_is}
use Rattle.steps.proofs.stepping.step.Goals as goal

pub overflow_add-result : goal.overflow_add-result
overflow_add-result g c =
    let k = g.S.Kind.Kind in
    let s = meant k g.S.Source c.args.source.now in
    let held = c.args.held.now in
    let ready = c.requires in
    record { fits = omega (arith, c.fill_rows-filled.ensures.reads, c.trace-traced.ensures.reads, step_few k.costs s held c.args.end ready.plan ready.short ready.few) }

pub returns : goal.returns
returns g c =
    let k = g.S.Kind.Kind in
    let s = meant k g.S.Source c.args.source.now in
    let held = c.args.held.now in
    let end = c.args.end in
    let rows = c.fill_rows-filled.ensures in
    let trace = c.trace-traced.ensures in
    record {
      cuts = trace.cuts;
      number = omega (arith, trace.cuts, ap length trace.cuts, step_length k.costs s held end);
      total = trace.total;
      reads = omega (arith, rows.reads, trace.reads);
      cells = over_is k.means _ (end + length held + 1) c.args.cells.now c.fill_rows-filled.new.cells (omega (arith, step_cells k.costs s held end c.requires.plan)) rows.cells rows.behind;
      kept = rows.behind;
    }
