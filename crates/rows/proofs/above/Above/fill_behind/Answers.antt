use Rattle.std.proofs.Common.{◌≡◌, ◌+◌, ◌-◌, length, drop, arith}
use Rattle.std.proofs.lemmas.List.{take_at, drop_at, length-take-le}
use Rattle.rows.proofs.above.Above.fill_behind.Goals as goal

pub returns : goal.returns
returns g c =
    let w = c.args.c - c.args.self.now.to + 1 in
    let old = c.args.cells.now in
    let new = c.fill_row.new.cells in
    let part = length-take-le w old c.requires.3 in
    let wide : length new ≡ w = omega arith in
    let last : c.args.self.now.to + w - 1 ≡ c.args.c = omega arith in
    let did = rw (part, last) at c.fill_row.ensures in
    record {
      row = rw (take_at new (drop w old) w wide) did.row;
      reads = did.reads;
      behind = drop_at new (drop w old) w wide;
    }
