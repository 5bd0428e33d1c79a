use Rattle.calls.proofs.Lives.{law_of_lives_lem}
use Rattle.calls.proofs.laws.law_of_lives.Goals as goal

pub returns : goal.returns
returns g c = law_of_lives_lem g.V.Kind.costs g.met.V.Kind.laws
