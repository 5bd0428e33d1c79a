use Rattle.std.proofs.Common.{◌≡◌, ◌-◌}
use Rattle.plans.specs.Steps.{via, earliest}
use Rattle.rows.specs.Rows.{row_of, scale_of}
use Rattle.rows.proofs.above.Above.find_least.Given as goal

abbrev pub invariant-loop-before : goal.invariant-loop-before
invariant-loop-before g l =
    let K = g.S.Kind.Kind.costs in
    let way = via K (scale_of l.self) (row_of l.self) l.y in
    (l.place ≡ earliest K.le way l.lo (l.before - l.lo)) × (g.S.Kind.Kind.means l.cost ≡ way l.place)
