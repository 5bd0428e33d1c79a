use Rattle.sources.proofs.Quadrangles.{squares_decide_lem}
use Rattle.sources.proofs.squares.squares_decide.Goals as goal

pub returns : goal.returns
returns g c = squares_decide_lem g.V.Kind.costs g.met.V.Kind.laws
