use Rattle.std.proofs.Common.{◌≡◌, map, vec_items, string_bytes, ap, ◌∙◌}
use Rattle.std.proofs.lemmas.Result.{IfOk-weaker}
use Rattle.costs.specs.contracts.number.I64Kind.TheImpl.{ghosts as plain}
use Rattle.jobs.specs.Jobs.{recorded_of}
use Rattle.sheets.specs.Printed.{lines, Performed}
use Rattle.sheets.proofs.Performances.{performed}
use Rattle.sheets.proofs.performing.perform.Goals as goal

pub returns : goal.returns
returns c =
    let events = c.args.events.now in
    let written = c.deref-2.result.now in
    IfOk-weaker c.lines_text.result
    (λ s. string_bytes s ≡ lines events (map (recorded_of plain) written))
    (λ s. Performed c.args.counts events (string_bytes s))
    (λ s e.
    performed c.args.counts events c.deref.result.now c.new-job.result c.run.new.self c.deref_mut.result.now c.run.new.cells (vec_items c.in_ok-records.records) (string_bytes s)
    (c.deref.ensures.value ∙ c.in_ok-calls.ensures)
    (c.deref_mut.ensures.value ∙ c.in_ok-cells.ensures.items_if_clones_equal (λ y h. h))
    c.new-job.ensures.state c.new-job.ensures.source c.in_ok-records.ensures
    (e ∙ ap (λ l. lines events (map (recorded_of plain) l)) c.deref-2.ensures.value))
    c.lines_text.ensures
