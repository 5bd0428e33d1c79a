use Rattle.std.proofs.lemmas.Result.{err_from_is_err_and}
use Rattle.houses.proofs.house.HouseCounts.load.Goals as goal

pub returns-in_err-check_counts : goal.returns-in_err-check_counts
returns-in_err-check_counts c =
    let p = err_from_is_err_and c.from_residual.result c.from_residual.ensures.1 in
    rw (p.1, p.2) (c.in_err-check_counts.ensures _)
