use Rattle.std.proofs.Common.{◌≡◌}
use Rattle.rows.proofs.PowerTable.{Passed}
use Rattle.rows.proofs.powers.power_count.Given as goal

abbrev pub invariant-loop-power : goal.invariant-loop-power
invariant-loop-power l = (l.count ≡ l.power-index) × Passed l.power-index l.q
