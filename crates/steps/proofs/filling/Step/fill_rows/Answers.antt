use Rattle.std.proofs.Common.{◌≡◌, ◌+◌, ◌-◌, ◌++◌, length, drop, sym, ap, ◌∙◌, arith}
use Rattle.std.proofs.lemmas.List.{length-take-le}
use Rattle.std.proofs.lemmas.Slice.{drop-append-drop}
use Rattle.steps.specs.Left.{fence, scale}
use Rattle.steps.proofs.Laid.{Laid, laid_first, laid_more, laid_last, agree_after}
use Rattle.steps.proofs.filling.Step.fill_rows.Goals as goal
use Rattle.steps.proofs.filling.Step.fill_rows.Goals.{After-fill_behind-reads}

pub loop-i-init : goal.loop-i-init
loop-i-init g c =
    let step = c.args.self.now in
    let first = c.row_ends-first in
    let cells = c.args.cells.now in
    let new = c.fill_first-reads.new.cells in
    let did = c.fill_first-reads.ensures in
    let order = first.ensures.order in
    let part = length-take-le (first.result.1 + 1) cells (omega arith) in
    let wide : length new ≡ first.result.1 + 1 = omega arith in (
      laid_first step.plan step.short new (drop (first.result.1 + 1) cells) (omega (arith, did.reads, first.ensures.end)) (rw (← did.reads) at did.costs) (omega (arith, did.reads)),
      drop-append-drop (first.result.1 + 1) cells new (step.end + length step.held.now + 1) (omega arith) wide,
    )

-- one row more
filled : (g : _) (c : After-fill_behind-reads g) → let step = c.args.self.now in
    Laid g.S.Kind.Kind (scale step) step.held.now step.end (c.split_at_mut-above.result.0.now ++ c.fill_behind-reads.new.cells) (c.loop-i.i + 1) (c.loop-i.reads + c.fill_behind-reads.result)
filled g c =
    let step = c.args.self.now in
    let parts = c.split_at_mut-above in
    laid_more step.plan step.short parts.result.0.now parts.result.1.now c.fill_behind-reads.new.cells (omega arith) (omega (arith, parts.ensures.front_len, c.row_ends-from.ensures.start)) (rw parts.ensures.value at c.loop-i.invariant.0) c.row_ends-from.ensures.end
    (rw (c.row.ensures.source, c.row.ensures.row) at c.fill_behind-reads.ensures)

pub overflow_add-reads : goal.overflow_add-reads
overflow_add-reads g c = record { fits = omega (arith, c.args.self.now.few, (filled g (goal.at.overflow_add-reads g c).After-fill_behind-reads).few) }

pub loop-i-preserved : goal.loop-i-preserved
loop-i-preserved g c =
    let step = c.args.self.now in
    let parts = c.split_at_mut-above in
    let order = c.row_ends-from.ensures.order in
    let did = rw (c.row.ensures.source, c.row.ensures.row) at c.fill_behind-reads.ensures in (
      filled g (goal.at.loop-i-preserved g c).After-fill_behind-reads,
      agree_after (c.row_ends-from.result.1 - fence step.held.now step.end (c.loop-i.i + 1) + 1) (step.end + length step.held.now + 1) parts.result.0.now c.fill_behind-reads.new.cells parts.result.1.now
          (omega (arith, parts.ensures.front_len, c.row_ends-from.ensures.start)) did.behind ∙ ap (drop (step.end + length step.held.now + 1)) (sym parts.ensures.value) ∙ c.loop-i.invariant.1,
    )

pub returns : goal.returns
returns g c =
    let step = c.args.self.now in
    let all : c.loop-i.i ≡ length step.held.now = omega arith in
    let last = laid_last step.plan step.short all c.loop-i.invariant.0 in
    record { cells = last.0; reads = last.1; behind = c.loop-i.invariant.1 }
