use Rattle.std.proofs.Common.{ℕ, None, arith, below_more}
use Rattle.sources.specs.Squares.{FindsFirst}
use Rattle.sources.proofs.squares.first_pair.Goals as goal
use Rattle.sources.proofs.squares.first_pair.Goals.{else-loop-y-test, then-loop-y-test+in_default+else-y-last}

pub loop-y-preserved : goal.loop-y-preserved
loop-y-preserved g c = below_more _ _ c.loop-y.invariant c.in_default.ensures

pub returns : goal.returns
returns g c =
    let row : ℕ → Type 0 = λ y. FindsFirst (λ x. goal.F-post g c.args.is_bad x y) y None in
    record {
      none = λ e. elim c.loop-y-test.branch [
        | else-loop-y-test w ↦ λ y h. c.loop-y.invariant y (omega arith)
        | then-loop-y-test+in_default+else-y-last w ↦ λ y h. below_more row c.loop-y.y c.loop-y.invariant w.in_default.ensures y (omega arith)
      ];
      some = λ x y e. cc;
    }
