use Rattle.std.proofs.Common.{ℕ, ◌<◌, false}
use Rattle.sources.proofs.squares.first_in_row.Given as goal

abbrev pub invariant-loop-x : goal.invariant-loop-x
invariant-loop-x g l = (v : ℕ) → v < l.x → goal.F-post g l.is_bad v l.y false
