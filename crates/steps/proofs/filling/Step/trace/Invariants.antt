use Rattle.std.proofs.Common.{◌≤◌, map, length}
use Rattle.steps.specs.Left.{scale}
use Rattle.steps.proofs.Traces.{Tracing}
use Rattle.steps.proofs.filling.Step.trace.Given as goal

abbrev pub invariant-loop-i : goal.invariant-loop-i
invariant-loop-i g l =
    let k = g.S.Kind.Kind in
    let held = l.self.held.now in
    (l.i ≤ length held) × Tracing k.costs (scale l.self) held l.self.end (map k.means l.cells) l.cuts l.i l.next l.reads (k.means l.last.cost)
