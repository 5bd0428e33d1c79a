use Rattle.std.proofs.Common.{◌∙◌, arith, below_more}
use Rattle.rows.proofs.PowerTable.{power_at, count_passed}
use Rattle.rows.proofs.powers.power_count.Goals as goal

pub loop-power-preserved : goal.loop-power-preserved
loop-power-preserved c =
    let power = power_at 13 c.loop-power.power-index c.loop-power-test.true in
    (omega arith, below_more _ _ c.loop-power.invariant.1 (omega arith))

pub returns-then-power-q : goal.returns-then-power-q
returns-then-power-q c =
    let power = power_at 13 c.loop-power.power-index c.loop-power-test.true in
    c.loop-power.invariant.0 ∙ count_passed 12 c.args.q c.loop-power.power-index c.requires.0 c.loop-power.invariant.1 (omega arith) (omega arith)
