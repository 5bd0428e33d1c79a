use Rattle.std.proofs.Common.{ℕ, ◌<◌, map, length}
use Rattle.rows.specs.Rows.{row_of, scale_of}
use Rattle.rows.proofs.Levels.{Turning}
use Rattle.rows.proofs.above.Above.fill_level.Given as goal

abbrev pub invariant-loop-i : goal.invariant-loop-i
invariant-loop-i g l =
    let k = g.S.Kind.Kind in
    (l.i < length l.cells) × ((n : ℕ) × Turning k.costs (scale_of l.self) (row_of l.self) (length l.initial.cells) l.d l.initial.places l.places (map k.means l.cells) l.reads l.i n)
