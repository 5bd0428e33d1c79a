use Rattle.std.proofs.Common.{ℕ, ◌<◌, None}
use Rattle.sources.specs.Squares.{FindsFirst}
use Rattle.sources.proofs.squares.first_pair.Given as goal

abbrev pub invariant-loop-y : goal.invariant-loop-y
invariant-loop-y g l = (w : ℕ) → w < l.y → FindsFirst (λ v. goal.F-post g l.is_bad v w) w None
