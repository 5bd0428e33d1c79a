use Rattle.std.proofs.Common.{map, length}
use Rattle.rows.specs.Rows.{row_of, scale_of}
use Rattle.rows.proofs.FilledRows.{Going}
use Rattle.rows.proofs.above.Above.fill_row.Given as goal

abbrev pub invariant-loop-n : goal.invariant-loop-n
invariant-loop-n g l = let k = g.S.Kind.Kind in Going k.costs (scale_of l.self) (row_of l.self) (length l.initial.cells) l.places (map k.means l.cells) l.reads l.n
