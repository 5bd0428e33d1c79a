use Rattle.std.proofs.Common.{◌≡◌, ◌+◌, length, drop}
use Rattle.steps.specs.Left.{scale}
use Rattle.steps.proofs.Laid.{Laid}
use Rattle.steps.proofs.filling.Step.fill_rows.Given as goal

abbrev pub invariant-loop-i : goal.invariant-loop-i
invariant-loop-i g l =
    let held = l.self.held.now in
    let filled = l.self.end + length held + 1 in
    Laid g.S.Kind.Kind (scale l.self) held l.self.end l.cells l.i l.reads × (drop filled l.cells ≡ drop filled l.fn.cells)
