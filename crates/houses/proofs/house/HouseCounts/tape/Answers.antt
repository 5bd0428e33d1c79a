use Rattle.std.proofs.Common.{◌-◌, ◌*◌, ◌≤◌, arith}
use Rattle.houses.proofs.HouseLaws.{read_rises, read_tape, tape_small}
use Rattle.houses.proofs.house.HouseCounts.tape.Goals as goal

pub overflow_sub-scans : goal.overflow_sub-scans
overflow_sub-scans c =
    let read = rw c.deref.ensures.value at c.in_ok-up_to_y.ensures.lookup in
    read_rises c.self.inside.counts.items c.self.invariant _ c.args.y _ _ (omega arith) read.3.0 c.index.ensures read.1

pub overflow_mul-result : goal.overflow_mul-result
overflow_mul-result c =
    let F = c.self.inside.counts.items in
    let read = rw c.deref.ensures.value at c.in_ok-up_to_y.ensures.lookup in
    let e = read_tape F c.self.invariant _ c.args.y _ _ _ (omega arith) read.3.0 c.index.ensures read.1 c.in_ok-price.ensures.1 in
    let m : c.in_ok-price.field-0 * (c.in_ok-up_to_y.field-0.now - c.index.result.now) ≤ 921600000 = rw e (tape_small F c.self.invariant _ c.args.y (omega arith) read.3.0) in
    record { fits = omega arith }
