use Rattle.std.proofs.Common.{◌≡◌, suc, ◌+◌, ◌-◌, ◌^◌, ◌<◌, ◌≤◌, length, get_or, arith, pow_pos, pow_mono}
use Rattle.std.proofs.lemmas.List.{length-map}
use Rattle.plans.specs.Steps.{log2}
use Rattle.plans.proofs.Logs.{log2_low, log2_most}
use Rattle.rows.proofs.FilledRows.{going_first, going_asks, going_more, going_last}
use Rattle.rows.proofs.PowerTable.{powers, power_at}
use Rattle.rows.proofs.above.Above.fill_row.Goals as goal

pub loop-n-init : goal.loop-n-init
loop-n-init g c =
    let q = length c.args.cells.now in
    rw c.power_count-n.ensures (going_first c.requires.some (omega (arith, c.requires.short)) c.args.self.now.order c.requires.same)

pub fill_level-reads-requires-clause-step : goal.fill_level-reads-requires-clause-step
fill_level-reads-requires-clause-step g c =
    let q = length c.args.cells.now in
    let i = c.loop-n.n - 1 in
    let power : get_or (powers 13) i 0 ≡ 2 ^ i = power_at 13 i (omega (arith, c.power_count-n.ensures, log2_most 12 q)) in
    let low : 2 ^ i ≤ 2 ^ log2 12 q = pow_mono (omega (arith, c.power_count-n.ensures)) in
    let some : 0 < 2 ^ i = pow_pos i in
    let least : 2 ^ log2 12 q ≤ q = log2_low 12 q c.requires.some in
    rw power (omega arith)

pub fill_level-reads-requires-clause-worked : goal.fill_level-reads-requires-clause-worked
fill_level-reads-requires-clause-worked g c =
    let q = length c.args.cells.now in
    let i = c.loop-n.n - 1 in
    let one : c.loop-n.n ≡ suc i = omega arith in
    let same : length c.loop-n.cells ≡ q = omega arith in
    rw same (going_asks (power_at 13 i (omega (arith, c.power_count-n.ensures, log2_most 12 q))) (rw one at c.loop-n.invariant))

pub loop-n-preserved : goal.loop-n-preserved
loop-n-preserved g c =
    let q = length c.args.cells.now in
    let i = c.loop-n.n - 1 in
    let one : c.loop-n.n ≡ suc i = omega arith in
    let same : length c.loop-n.cells ≡ q = omega arith in
    going_more (power_at 13 i (omega (arith, c.power_count-n.ensures, log2_most 12 q))) (omega (arith, c.loop-n.invariant.room)) (rw one at c.loop-n.invariant) (rw same at c.fill_level-reads.ensures)

pub returns : goal.returns
returns g c =
    let k = g.S.Kind.Kind in
    let q = length c.args.cells.now in
    let above = c.args.self.now in
    let none : c.loop-n.n ≡ 0 = omega arith in
    let some = c.requires.some in
    going_last (above.to + q - 1) (rw none at c.loop-n.invariant) (rw (length-map c.loop-n.cells k.means) (omega arith)) (omega arith)
