use Rattle.std.proofs.Common.{◌≡◌, suc, ◌+◌, ◌*◌, map, length, set, arith}
use Rattle.std.proofs.lemmas.List.{length-map, length-set, map-set}
use Rattle.rows.specs.Rows.{row_of, scale_of}
use Rattle.rows.proofs.Levels.{Turning, turning_first, turning_range, turning_more, turning_last}
use Rattle.rows.proofs.above.Above.fill_level.Goals as goal
use Rattle.rows.proofs.above.Above.fill_level.Goals.{After-find_least-found}

pub loop-i-init : goal.loop-i-init
loop-i-init g c = (omega arith, (0, turning_first (omega arith) c.requires.worked (omega arith)))

pub find_least-found-requires : goal.find_least-found-requires
find_least-found-requires g c =
    let r = turning_range c.requires.worked.rising c.loop-i.invariant.1.1 c.requires.step.0 c.kept_place-lo.ensures c.kept_place-hi.ensures in
    (r.from, r.order, r.to, omega (arith, r.to), omega arith)

pub overflow_add-reads : goal.overflow_add-reads
overflow_add-reads g c =
    let r = turning_range c.requires.worked.rising c.loop-i.invariant.1.1 c.requires.step.0 c.kept_place-lo.ensures c.kept_place-hi.ensures in
    record { fits = omega (arith, r.few, c.find_least-found.ensures.reads) }

-- the turn of the loop that found a place
turned : (g : _) (c : After-find_least-found g) → let k = g.S.Kind.Kind in let above = c.args.self.now in
    Turning k.costs (scale_of above) (row_of above) (length c.args.cells.now) c.args.d c.args.places.now (set c.loop-i.places c.loop-i.i c.find_least-found.result.place) (map k.means (set c.loop-i.cells c.loop-i.i c.find_least-found.result.cost)) (c.loop-i.reads + c.find_least-found.result.reads) (c.loop-i.i + 2 * c.args.d) (suc c.loop-i.invariant.1.0)
turned g c =
    let k = g.S.Kind.Kind in
    let t = c.loop-i.invariant.1.1 in
    let rising = c.requires.worked.rising in
    let r = turning_range rising t c.requires.step.0 c.kept_place-lo.ensures c.kept_place-hi.ensures in
    let room : length (map k.means c.loop-i.cells) ≡ length c.args.cells.now = rw (length-map c.loop-i.cells k.means) (omega arith) in
    rw (map-set k.means c.loop-i.cells c.loop-i.i c.find_least-found.result.cost) (turning_more rising t c.requires.step.0 (omega arith) room r c.find_least-found.ensures)

pub loop-i-preserved : goal.loop-i-preserved
loop-i-preserved g c = (rw (length-set c.loop-i.cells c.loop-i.i c.find_least-found.result.cost) (omega arith), (suc c.loop-i.invariant.1.0, turned g (goal.at.loop-i-preserved g c).After-find_least-found))

pub returns : goal.returns
returns g c = absurd (omega arith)

pub returns-2 : goal.returns-2
returns-2 g c = turning_last c.requires.worked.rising (turned g (goal.at.returns-2 g c).After-find_least-found) c.requires.step.0 (omega arith) (omega arith) c.requires.step.1 (omega (arith, c.requires.room.short)) (omega (arith, c.requires.room.short)) c.requires.room.same
