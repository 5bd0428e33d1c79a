use Rattle.std.proofs.Common.{◌≡◌, ◌+◌, ◌-◌, arith}
use Rattle.plans.specs.Steps.{via}
use Rattle.plans.proofs.Earliest.{stays, moves}
use Rattle.rows.specs.Rows.{row_of, scale_of}
use Rattle.rows.proofs.above.Above.find_least.Goals as goal
use Rattle.rows.proofs.above.Above.find_least.Goals.{then-less, else-less}

pub loop-before-preserved : goal.loop-before-preserved
loop-before-preserved g c =
    let K = g.S.Kind.Kind.costs in
    let above = c.args.self.now in
    let way = via K (scale_of above) (row_of above) c.args.y in
    let lo = c.args.lo in
    let before = c.loop-before.before in
    let k = before - lo in
    let p = before + 1 in
    let one_more : p - lo ≡ k + 1 = omega arith in
    let next : p ≡ lo + k + 1 = omega arith in
    rw one_more (elim c.if-less.branch [
      | then-less w ↦ rw (w.place-is, w.cost-is) (moves K.le way lo k c.loop-before.place p _ _ _ c.loop-before.invariant next c.cost_via-value.ensures c.at_most-less.ensures w.if-less.true)
      | else-less w ↦ rw (w.place-is, w.cost-is) (stays K.le way lo k c.loop-before.place p _ _ _ c.loop-before.invariant next c.cost_via-value.ensures c.at_most-less.ensures w.if-less.false)
    ])

pub returns : goal.returns
returns g c =
    let inv = c.loop-before.invariant in
    let e : c.loop-before.before - c.args.lo ≡ c.args.hi - c.args.lo = omega arith in
    record { place = rw e at inv.0; value = inv.1; reads = omega arith }
