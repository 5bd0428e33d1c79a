use Rattle.std.proofs.Common.{take, sym, arith}
use Rattle.std.proofs.lemmas.List.{take_more_set, map_push}
use Rattle.std.proofs.lemmas.List.FromFn.{map-range_with_len_more}
use Rattle.sources.specs.Meant.{meant}
use Rattle.steps.proofs.filling.fill_first.Goals as goal

pub loop-y-preserved : goal.loop-y-preserved
loop-y-preserved g c =
    let k = g.S.Kind.Kind in
    let cells = c.loop-y.cells in
    let y = c.loop-y.y in
    rw (take_more_set cells y c.class_cost.result (omega arith), map_push k.means (take y cells) c.class_cost.result, c.loop-y.invariant, c.class_cost.ensures)
    (sym (map-range_with_len_more ((meant k g.S.Source c.args.source.now).cost 0) 0 y y (omega arith)))
