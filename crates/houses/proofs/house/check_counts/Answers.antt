use Rattle.std.proofs.Common.{arith}
use Rattle.houses.proofs.house.check_counts.Goals as goal

pub overflow_cast-result : goal.overflow_cast-result
overflow_cast-result c = record { fits = omega (arith, c.in-Some.ensures.within) }
